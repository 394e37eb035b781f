-- What is so of each Adj-RIB-Out that is stored: its list of pending keys is exact, and each forced key stands in a table.
use Rattle.std.proofs.Common.{◌≡◌, ℕ, Bool, true, false, ◌||◌, List, [], ◌∷◌, Option, Some, None, refl, sym, ap, ◌∙◌}
use Rattle.std.specs.Prelude.{nat_eq, is_some}
use Rattle.std.specs.List.{IsDistinct}
use Rattle.std.specs.List.Sorted.{IsStrictlySortedBy}
use Rattle.std.specs.Ordering.{nat_cmp, eq_by_cmp}
use Rattle.std.specs.Map.{keys_of}
use Rattle.std.specs.Cmp.{IsTotalOrder, nat_cmp_total}
use Rattle.std.specs.FinMap.{IsAntisymmetric, nat_cmp-IsAntisymmetric}
use Rattle.std.specs.declared.cmp.Ordering.{Ordering}
use Rattle.std.proofs.lemmas.Bool.{false_from_ne_true}
use Rattle.std.proofs.lemmas.Map.Keys.{sorted_head, sorted_tail}
use Rattle.ug_adjout.specs.Tables.{has, value_at, IsTable}
use Rattle.ug_adjout.specs.TableLaws.{one_key, none_above, distinct-append, distinct-one}
use Rattle.ug_adjout.specs.Pending.{AdjRibOut, IsExact}
use Rattle.ug_adjout.specs.Desiring.{AreForcedShown}
use Rattle.ug_adjout.proofs.SameTables.{same_some, found_behind, found_first}
use Rattle.ug_adjout.specs.declared.row.Row.{Row}
use Rattle.ug_adjout.specs.declared.row.Change.{Change}
use Rattle.ug_adjout.specs.declared.waiting.Waiting.{Waiting}
use Rattle.ug_adjout.specs.Waits.{waiting_keys}
use Rattle.ug_adjout.specs.Stored.{IsStored, adj_of, of_row, formatted_of, desired_of, is_forced}
use Rattle.ug_adjout.proofs.Lists.{sorted_projected, place_of}
use Rattle.ug_adjout.proofs.Views.{formatted_at, desired_at, forced_at, exact_at, shown_row}

alone : (b : Bool) → (b || false) ≡ true → b ≡ true
alone true e = refl
alone false e = e

module _ {K : Type 0} {cmp : K → K → Ordering} (total : IsTotalOrder cmp) (exact : IsAntisymmetric cmp) where
  -- No key waits at two places.
  abbrev AreApart : List (ℕ × Waiting K) → Type 0
  AreApart es = (p q : ℕ) (v w : Waiting K) → value_at nat_cmp es p ≡ Some v → value_at nat_cmp es q ≡ Some w → v.key ≡ w.key → p ≡ q

  each_once : (es : List (ℕ × Waiting K)) → IsTable nat_cmp es → AreApart es → IsDistinct (eq_by_cmp cmp) (waiting_keys es)
  unfolding IsDistinct
  each_once [] s apart = tt
  each_once (e ∷ es) s apart = distinct-append total exact (e.1.key ∷ []) (waiting_keys es) (distinct-one total exact e.1.key) (each_once es behind (λ p q v w at there. apart p q v w (later p v at) (later q w there))) others
    where
      behind : IsTable nat_cmp es
      behind = sorted_tail nat_cmp e.0 (keys_of es) s

      later : (p : ℕ) (v : Waiting K) → value_at nat_cmp es p ≡ Some v → value_at nat_cmp (e ∷ es) p ≡ Some v
      later p v at = found_behind nat_cmp_total nat_cmp-IsAntisymmetric e es p v s at

      others : (q : K) → has cmp (e.1.key ∷ []) q ≡ true → has cmp (waiting_keys es) q ≡ false
      others q at =
          false_from_ne_true (has cmp (waiting_keys es) q) (λ h.
          let found = place_of total exact es q behind h in
          let here : q ≡ e.1.key = one_key total exact q e.1.key (alone _ at) in
          let same : e.0 ≡ found.0 = apart e.0 found.0 e.1 found.1 (found_first nat_cmp_total nat_cmp-IsAntisymmetric e es) (later found.0 found.1 found.2) (sym here ∙ sym found.3) in
          let none : value_at nat_cmp es e.0 ≡ None = none_above nat_cmp_total nat_cmp-IsAntisymmetric e.0 es (sorted_head nat_cmp e.0 (keys_of es) s) in
          absurd (let z = sym none ∙ ap (value_at nat_cmp es) same ∙ found.2 in cc))

  module _ (rows : List (K × Row)) (waiting : List (ℕ × Waiting K)) (next : ℕ) (s : IsStored cmp rows waiting next) where
    abbrev adj : AdjRibOut K ℕ
    adj = adj_of rows waiting

    one_place : AreApart waiting
    one_place p q v w at there same =
        let one = s.known p v at in
        let other = s.known q w there in
        let row : one.0 ≡ other.0 = same_some one.0 other.0 (sym one.1 ∙ ap (value_at cmp rows) same ∙ other.1) in
        ap (λ (c : Change). c.place) (same_some _ _ (sym one.2 ∙ ap (λ (r : Row). r.change) row ∙ other.2))

    pub stored-exact : IsExact cmp nat_eq adj
    stored-exact = record {
      all = λ q. exact_at total exact rows waiting next s q;
      once = each_once waiting s.in_line one_place;
      formatted_rows = sorted_projected total exact formatted_of rows s.ordered;
      desired_rows = sorted_projected total exact desired_of rows s.ordered;
    }

    pub stored-shown : AreForcedShown cmp adj
    stored-shown q forced = by (value_at cmp rows q) refl (sym (forced_at total exact rows waiting next s q) ∙ forced)
      where
        by : (o : Option Row) → value_at cmp rows q ≡ o → is_forced o ≡ true → (is_some (value_at cmp adj.formatted q) || is_some (value_at cmp adj.desired q)) ≡ true
        by None at f = absurd cc
        by (Some row) at f =
            ap (λ o. is_some o || is_some (value_at cmp adj.desired q)) (formatted_at total exact rows waiting next s q ∙ ap (of_row formatted_of) at)
            ∙ ap (λ o. is_some row.formatted || is_some o) (desired_at total exact rows waiting next s q ∙ ap (of_row desired_of) at)
            ∙ shown_row row row.change refl (s.sound q row at)

-- and of the one without rows
pub nothing_stored : {K : Type 0} {cmp : K → K → Ordering} → IsStored cmp [] [] 0
unfolding IsStrictlySortedBy
nothing_stored = record {
  ordered = tt;
  in_line = tt;
  sound = λ key row e. absurd cc;
  listed = λ key row change e h. absurd cc;
  known = λ place w e. absurd cc;
  before = λ place w e. absurd cc;
}
