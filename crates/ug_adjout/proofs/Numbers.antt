-- Places that are numbered anew: who waits first from a place on comes to that place, and the order stays.
use Rattle.std.proofs.Common.{◌≡◌, ◌⊎◌, inl, inr, ℕ, suc, ◌+◌, ◌<◌, ◌≤◌, Bool, true, false, cond, List, [], ◌∷◌, length, slice_get, Option, Some, None, refl, sym, ap, subst, ◌∙◌, arith, add-one}
use Rattle.std.specs.Prelude.{nat_le}
use Rattle.std.specs.List.{AllByRecursion}
use Rattle.std.specs.Ordering.{nat_cmp, is_eq, match_ordering}
use Rattle.std.specs.Map.{keys_of, remove_entry}
use Rattle.std.specs.BTreeMap.{insert_entry, is_at}
use Rattle.std.specs.Cmp.{IsTotalOrder, nat_cmp_total, nat_cmp_is}
use Rattle.std.specs.FinMap.{IsAntisymmetric, nat_cmp-IsAntisymmetric}
use Rattle.std.specs.declared.cmp.Ordering.{Ordering}
use Rattle.std.specs.declared.cmp.Ordering.TheVariants.{Less, Equal, Greater}
use Rattle.std.proofs.lemmas.Bool.{cond-true, cond-false}
use Rattle.std.proofs.lemmas.Bool.Decides.{nat_tests}
use Rattle.std.proofs.lemmas.Map.Keys.{sorted_head, sorted_tail}
use Rattle.ug_adjout.specs.Tables.{value_at, with_value, IsTable}
use Rattle.ug_adjout.specs.TableLaws.{value_at-here, value_at-other, with_value-same, with_value-sorted, none_above, below_all, at_itself, one_key}
use Rattle.ug_adjout.specs.declared.row.Row.{Row}
use Rattle.ug_adjout.specs.declared.waiting.Waiting.{Waiting}
use Rattle.ug_adjout.specs.Waits.{waiting_keys, from_place}
use Rattle.ug_adjout.specs.Stored.{IsStored, IsRowBy, is_owed, adj_of, of_row, formatted_of, desired_of, mark_of, with_change}
use Rattle.ug_adjout.proofs.Lists.{sorted_projected, value_at-projected, projected-with_value, first_lookup, tail_lookup}
use Rattle.ug_adjout.proofs.Steps.{Agree, stored, at_number}
use Rattle.ug_adjout.proofs.Views.{formatted_at, desired_at, waiting_desired}

-- ---- numbers

pub le_yes : (n p : ℕ) → n ≤ p → nat_le n p ≡ true
le_yes n p le = grind (arith, nat_tests)

le_no : (n p : ℕ) → p < n → nat_le n p ≡ false
le_no n p lt = grind (arith, nat_tests)

pub from_yes : (n p : ℕ) → nat_le n p ≡ true → n ≤ p
from_yes n p e = grind (arith, nat_tests)

pub from_no : (n p : ℕ) → nat_le n p ≡ false → p < n
from_no n p e = grind (arith, nat_tests)

pub less : (n p : ℕ) → n < p → nat_cmp n p ≡ Less
less n p lt = sym (nat_cmp_is n p Less lt)

pub greater : (n p : ℕ) → p < n → nat_cmp n p ≡ Greater
greater n p lt = sym (nat_cmp_is n p Greater lt)

pub from_less : (n p : ℕ) → nat_cmp n p ≡ Less → n < p
from_less n p e = by (nat_le p n) refl
  where
    other : p ≤ n → n ≡ p ⊎ (p < n)
    other le = grind (arith, nat_tests)

    by : (b : Bool) → nat_le p n ≡ b → n < p
    by true f = elim (other (from_yes p n f)) [ inl same ↦ absurd (let z = sym e ∙ sym (nat_cmp_is n p Equal same) in cc) | inr lt ↦ absurd (let z = sym e ∙ greater n p lt in cc) ]
    by false f = from_no p n f

-- ---- the list

module _ {K : Type 0} where
  same_entry : (x e : ℕ × Waiting K) → Some x ≡ Some e → x ≡ e
  same_entry x e h = cc

  -- the first from a place on stands at that place
  abbrev pub brought : ℕ → List (ℕ × Waiting K) → List (ℕ × Waiting K)
  brought n [] = []
  brought n (x ∷ es) = cond (nat_le n x.0) ((n, x.1) ∷ es) (x ∷ brought n es)

  all_from : (n k : ℕ) (es : List (ℕ × Waiting K)) → n ≤ suc k → AllByRecursion (λ y. nat_cmp k y ≡ Less) (keys_of es) → from_place n es ≡ es
  all_from n k [] le h = refl
  all_from n k (x ∷ es) le h =
      cond-true (nat_le n x.0) (x ∷ from_place n es) (from_place n es) (le_yes n x.0 (omega (arith, le, from_less k x.0 h.0))) ∙ ap (λ l. x ∷ l) (all_from n k es le h.1)

  pub from_first : (es : List (ℕ × Waiting K)) → from_place 0 es ≡ es
  from_first [] = refl
  from_first (x ∷ es) = cond-true (nat_le 0 x.0) (x ∷ from_place 0 es) (from_place 0 es) (le_yes 0 x.0 (omega arith)) ∙ ap (λ l. x ∷ l) (from_first es)

  -- the first of those from a place on is the first of the list, or stands behind it
  first_here : (n : ℕ) (x e : ℕ × Waiting K) (es : List (ℕ × Waiting K)) → nat_le n x.0 ≡ true → slice_get (from_place n (x ∷ es)) 0 ≡ Some e → x ≡ e
  first_here n x e es at h = same_entry x e (sym (ap (λ l. slice_get l 0) (cond-true (nat_le n x.0) (x ∷ from_place n es) (from_place n es) at)) ∙ h)

  first_later : (n : ℕ) (x e : ℕ × Waiting K) (es : List (ℕ × Waiting K)) → nat_le n x.0 ≡ false → slice_get (from_place n (x ∷ es)) 0 ≡ Some e → slice_get (from_place n es) 0 ≡ Some e
  first_later n x e es at h = sym (ap (λ l. slice_get l 0) (cond-false (nat_le n x.0) (x ∷ from_place n es) (from_place n es) at)) ∙ h

  -- the first from a place on, where it is looked for from another place on behind which the same stand
  pub first_known : (m n : ℕ) (es : List (ℕ × Waiting K)) → from_place m es ≡ from_place n es → {o : Option (ℕ × Waiting K)} {e : ℕ × Waiting K} → o ≡ slice_get (from_place m es) 0 → o ≡ Some e
      → slice_get (from_place n es) 0 ≡ Some e
  first_known m n es same told is = ap (λ l. slice_get l 0) (sym same) ∙ sym told ∙ is

  pub first_is_from : (n : ℕ) (es : List (ℕ × Waiting K)) (e : ℕ × Waiting K) → slice_get (from_place n es) 0 ≡ Some e → n ≤ e.0
  first_is_from n [] e h = absurd cc
  first_is_from n (x ∷ es) e h = by (nat_le n x.0) refl (first_is_from n es e)
    where
      by : (b : Bool) → nat_le n x.0 ≡ b → (slice_get (from_place n es) 0 ≡ Some e → n ≤ e.0) → n ≤ e.0
      by true at more = subst (λ (y : ℕ × Waiting K). n ≤ y.0) (first_here n x e es at h) (from_yes n x.0 at)
      by false at more = more (first_later n x e es at h)

  pub first_waits : (n : ℕ) (es : List (ℕ × Waiting K)) (e : ℕ × Waiting K) → IsTable nat_cmp es → slice_get (from_place n es) 0 ≡ Some e → value_at nat_cmp es e.0 ≡ Some e.1
  first_waits n [] e s h = absurd cc
  first_waits n (x ∷ es) e s h = by (nat_le n x.0) refl (first_waits n es e (sorted_tail nat_cmp x.0 (keys_of es) s))
    where
      by : (b : Bool) → nat_le n x.0 ≡ b → (slice_get (from_place n es) 0 ≡ Some e → value_at nat_cmp es e.0 ≡ Some e.1) → value_at nat_cmp (x ∷ es) e.0 ≡ Some e.1
      by true at more = subst (λ (y : ℕ × Waiting K). value_at nat_cmp (x ∷ es) y.0 ≡ Some y.1) (first_here n x e es at h) (first_lookup x es)
      by false at more = tail_lookup x es e.0 e.1 s (more (first_later n x e es at h))

  pub nothing_at : (n : ℕ) (es : List (ℕ × Waiting K)) (e : ℕ × Waiting K) → IsTable nat_cmp es → slice_get (from_place n es) 0 ≡ Some e → n < e.0 → value_at nat_cmp es n ≡ None
  nothing_at n [] e s h lt = refl
  nothing_at n (x ∷ es) e s h lt = by (nat_le n x.0) refl (nothing_at n es e (sorted_tail nat_cmp x.0 (keys_of es) s))
    where
      by : (b : Bool) → nat_le n x.0 ≡ b → (slice_get (from_place n es) 0 ≡ Some e → n < e.0 → value_at nat_cmp es n ≡ None) → value_at nat_cmp (x ∷ es) n ≡ None
      by true at more =
          let under = less n x.0 (subst (λ (y : ℕ × Waiting K). n < y.0) (sym (first_here n x e es at h)) lt) in
          none_above nat_cmp_total nat_cmp-IsAntisymmetric n (x ∷ es) (under, below_all nat_cmp_total nat_cmp-IsAntisymmetric n x.0 (keys_of es) under (sorted_head nat_cmp x.0 (keys_of es) s))
      by false at more = cond-false (is_at (nat_cmp n) x.0) (Some x.1) (value_at nat_cmp es n) (ap is_eq (greater n x.0 (from_no n x.0 at))) ∙ more (first_later n x e es at h) lt

  -- what is put at the place, and taken from where it was
  pub put_first : (n : ℕ) (es : List (ℕ × Waiting K)) (e : ℕ × Waiting K) → IsTable nat_cmp es → slice_get (from_place n es) 0 ≡ Some e → n < e.0
      → remove_entry (is_at (nat_cmp e.0)) (insert_entry nat_cmp es n e.1) ≡ brought n es
  put_first n [] e s h lt = absurd cc
  put_first n (x ∷ es) e s h lt = by (nat_le n x.0) refl (put_first n es e (sorted_tail nat_cmp x.0 (keys_of es) s))
    where
      gone : List (ℕ × Waiting K) → List (ℕ × Waiting K)
      gone l = remove_entry (is_at (nat_cmp e.0)) l

      by : (b : Bool) → nat_le n x.0 ≡ b → (slice_get (from_place n es) 0 ≡ Some e → n < e.0 → gone (insert_entry nat_cmp es n e.1) ≡ brought n es)
          → gone (insert_entry nat_cmp (x ∷ es) n e.1) ≡ brought n (x ∷ es)
      by true at more =
          let same = first_here n x e es at h in
          let under = subst (λ (y : ℕ × Waiting K). n < y.0) (sym same) lt in
          ap (λ r. gone (match_ordering r ((n, e.1) ∷ x ∷ es) ((x.0, e.1) ∷ es) (x ∷ insert_entry nat_cmp es n e.1))) (less n x.0 under)
          ∙ cond-false (is_at (nat_cmp e.0) n) (x ∷ es) ((n, e.1) ∷ gone (x ∷ es)) (ap is_eq (greater e.0 n lt))
          ∙ ap (λ l. (n, e.1) ∷ l) (cond-true (is_at (nat_cmp e.0) x.0) es (x ∷ gone es) (ap (is_at (nat_cmp e.0)) (ap (λ (y : ℕ × Waiting K). y.0) same) ∙ at_itself nat_cmp_total nat_cmp-IsAntisymmetric e.0))
          ∙ ap (λ (y : ℕ × Waiting K). (n, y.1) ∷ es) (sym same) ∙ sym (cond-true (nat_le n x.0) ((n, x.1) ∷ es) (x ∷ brought n es) at)
      by false at more =
          let under = from_no n x.0 at in
          ap (λ r. gone (match_ordering r ((n, e.1) ∷ x ∷ es) ((x.0, e.1) ∷ es) (x ∷ insert_entry nat_cmp es n e.1))) (greater n x.0 under)
          ∙ cond-false (is_at (nat_cmp e.0) x.0) (insert_entry nat_cmp es n e.1) (x ∷ gone (insert_entry nat_cmp es n e.1)) (ap is_eq (greater e.0 x.0 (omega (arith, lt, under))))
          ∙ ap (λ l. x ∷ l) (more (first_later n x e es at h) lt) ∙ sym (cond-false (nat_le n x.0) ((n, x.1) ∷ es) (x ∷ brought n es) at)

  pub brought_same : (n : ℕ) (es : List (ℕ × Waiting K)) (e : ℕ × Waiting K) → slice_get (from_place n es) 0 ≡ Some e → e.0 ≡ n → brought n es ≡ es
  brought_same n [] e h same = refl
  brought_same n (x ∷ es) e h same = by (nat_le n x.0) refl (brought_same n es e)
    where
      by : (b : Bool) → nat_le n x.0 ≡ b → (slice_get (from_place n es) 0 ≡ Some e → e.0 ≡ n → brought n es ≡ es) → brought n (x ∷ es) ≡ x ∷ es
      by true at more =
          cond-true (nat_le n x.0) ((n, x.1) ∷ es) (x ∷ brought n es) at ∙ ap (λ m. (m, x.1) ∷ es) (sym same ∙ ap (λ (y : ℕ × Waiting K). y.0) (sym (first_here n x e es at h)))
      by false at more = cond-false (nat_le n x.0) ((n, x.1) ∷ es) (x ∷ brought n es) at ∙ ap (λ l. x ∷ l) (more (first_later n x e es at h) same)

  pub brought_keys : (n : ℕ) (es : List (ℕ × Waiting K)) → waiting_keys (brought n es) ≡ waiting_keys es
  brought_keys n [] = refl
  brought_keys n (x ∷ es) = by (nat_le n x.0) refl (brought_keys n es)
    where
      by : (b : Bool) → nat_le n x.0 ≡ b → waiting_keys (brought n es) ≡ waiting_keys es → waiting_keys (brought n (x ∷ es)) ≡ waiting_keys (x ∷ es)
      by true at more = ap waiting_keys (cond-true (nat_le n x.0) ((n, x.1) ∷ es) (x ∷ brought n es) at)
      by false at more = ap waiting_keys (cond-false (nat_le n x.0) ((n, x.1) ∷ es) (x ∷ brought n es) at) ∙ ap (λ l. x.1.key ∷ l) more

  -- fewer are left behind the place
  pub brought_passed : (n : ℕ) (es : List (ℕ × Waiting K)) → IsTable nat_cmp es → 0 < length (from_place n es) → length (from_place (n + 1) (brought n es)) + 1 ≡ length (from_place n es)
  brought_passed n [] s some = absurd (omega (arith, some))
  brought_passed n (x ∷ es) s some = by (nat_le n x.0) refl (brought_passed n es (sorted_tail nat_cmp x.0 (keys_of es) s))
    where
      by : (b : Bool) → nat_le n x.0 ≡ b → (0 < length (from_place n es) → length (from_place (n + 1) (brought n es)) + 1 ≡ length (from_place n es))
          → length (from_place (n + 1) (brought n (x ∷ es))) + 1 ≡ length (from_place n (x ∷ es))
      by true at more =
          let le = from_yes n x.0 at in let above = sorted_head nat_cmp x.0 (keys_of es) s in
          ap (λ l. length (from_place (n + 1) l) + 1) (cond-true (nat_le n x.0) ((n, x.1) ∷ es) (x ∷ brought n es) at)
          ∙ ap (λ l. length l + 1) (cond-false (nat_le (n + 1) n) ((n, x.1) ∷ from_place (n + 1) es) (from_place (n + 1) es) (le_no (n + 1) n (omega arith)) ∙ all_from (n + 1) x.0 es (omega (arith, le)) above)
          ∙ add-one (length es)
          ∙ sym (ap length (cond-true (nat_le n x.0) (x ∷ from_place n es) (from_place n es) at ∙ ap (λ l. x ∷ l) (all_from n x.0 es (omega (arith, le)) above)))
      by false at more =
          let under = from_no n x.0 at in let here = cond-false (nat_le n x.0) (x ∷ from_place n es) (from_place n es) at in
          ap (λ l. length (from_place (n + 1) l) + 1) (cond-false (nat_le n x.0) ((n, x.1) ∷ es) (x ∷ brought n es) at)
          ∙ ap (λ l. length l + 1) (cond-false (nat_le (n + 1) x.0) (x ∷ from_place (n + 1) (brought n es)) (from_place (n + 1) (brought n es)) (le_no (n + 1) x.0 (omega (arith, under))))
          ∙ more (subst (λ l. 0 < length l) here some) ∙ sym (ap length here)

  -- where the first came from, those behind it begin
  pub brought_behind : (n : ℕ) (es : List (ℕ × Waiting K)) (e : ℕ × Waiting K) → IsTable nat_cmp es → slice_get (from_place n es) 0 ≡ Some e → from_place (e.0 + 1) (brought n es) ≡ from_place (n + 1) (brought n es)
  brought_behind n [] e s h = absurd cc
  brought_behind n (x ∷ es) e s h = by (nat_le n x.0) refl (brought_behind n es e (sorted_tail nat_cmp x.0 (keys_of es) s))
    where
      rest : (k : ℕ) → n < k → k ≤ suc x.0 → nat_le n x.0 ≡ true → from_place k (brought n (x ∷ es)) ≡ es
      rest k lt le at =
          ap (from_place k) (cond-true (nat_le n x.0) ((n, x.1) ∷ es) (x ∷ brought n es) at)
          ∙ cond-false (nat_le k n) ((n, x.1) ∷ from_place k es) (from_place k es) (le_no k n lt) ∙ all_from k x.0 es le (sorted_head nat_cmp x.0 (keys_of es) s)

      past : (k : ℕ) → x.0 < k → nat_le n x.0 ≡ false → from_place k (brought n (x ∷ es)) ≡ from_place k (brought n es)
      past k lt at =
          ap (from_place k) (cond-false (nat_le n x.0) ((n, x.1) ∷ es) (x ∷ brought n es) at)
          ∙ cond-false (nat_le k x.0) (x ∷ from_place k (brought n es)) (from_place k (brought n es)) (le_no k x.0 lt)

      by : (b : Bool) → nat_le n x.0 ≡ b → (slice_get (from_place n es) 0 ≡ Some e → from_place (e.0 + 1) (brought n es) ≡ from_place (n + 1) (brought n es))
          → from_place (e.0 + 1) (brought n (x ∷ es)) ≡ from_place (n + 1) (brought n (x ∷ es))
      by true at more =
          let le = from_yes n x.0 at in let same = ap (λ (y : ℕ × Waiting K). y.0) (first_here n x e es at h) in
          rest (e.0 + 1) (omega (arith, le, same)) (omega (arith, same)) at ∙ sym (rest (n + 1) (omega arith) (omega (arith, le)) at)
      by false at more =
          let under = from_no n x.0 at in let later = first_later n x e es at h in let le = first_is_from n es e later in
          past (e.0 + 1) (omega (arith, under, le)) at ∙ more later ∙ sym (past (n + 1) (omega (arith, under)) at)

  -- where none is left behind the place, all stand before it
  pub all_before : (n : ℕ) (es : List (ℕ × Waiting K)) → length (from_place n es) ≡ 0 → (p : ℕ) (w : Waiting K) → value_at nat_cmp es p ≡ Some w → p < n
  all_before n [] none p w h = absurd cc
  all_before n (x ∷ es) none p w h = by (nat_le n x.0) refl (all_before n es)
    where
      here : (b : Bool) → is_at (nat_cmp p) x.0 ≡ b → x.0 < n → (value_at nat_cmp es p ≡ Some w → p < n) → p < n
      here true at lt more = subst (λ q. q < n) (sym (at_number p x.0 at)) lt
      here false at lt more = more (sym (cond-false (is_at (nat_cmp p) x.0) (Some x.1) (value_at nat_cmp es p) at) ∙ h)

      by : (b : Bool) → nat_le n x.0 ≡ b → (length (from_place n es) ≡ 0 → (q : ℕ) (v : Waiting K) → value_at nat_cmp es q ≡ Some v → q < n) → p < n
      by true at more = absurd (let z = sym (ap length (cond-true (nat_le n x.0) (x ∷ from_place n es) (from_place n es) at)) ∙ none in cc)
      by false at more =
          here (is_at (nat_cmp p) x.0) refl (from_no n x.0 at) (more (sym (ap length (cond-false (nat_le n x.0) (x ∷ from_place n es) (from_place n es) at)) ∙ none) p w)

-- ---- tables that agree

module _ {K V : Type 0} {cmp : K → K → Ordering} (total : IsTotalOrder cmp) (exact : IsAntisymmetric cmp) where
  module _ (rows : List (K × V)) (s : IsTable cmp rows) (key : K) where
    -- a row over one that went
    pub over_none : (w : Option V) (q : K) → value_at cmp (with_value cmp (with_value cmp rows key None) key w) q ≡ value_at cmp (with_value cmp rows key w) q
    over_none w q = by q (is_at (cmp q) key) refl
      where
        by : (q : K) (b : Bool) → is_at (cmp q) key ≡ b → value_at cmp (with_value cmp (with_value cmp rows key None) key w) q ≡ value_at cmp (with_value cmp rows key w) q
        by q true at =
            ap (value_at cmp (with_value cmp (with_value cmp rows key None) key w)) (one_key total exact q key at)
            ∙ value_at-here total exact (with_value cmp rows key None) key w (with_value-sorted total exact rows key None s)
            ∙ sym (ap (value_at cmp (with_value cmp rows key w)) (one_key total exact q key at) ∙ value_at-here total exact rows key w s)
        by q false at =
            value_at-other total exact (with_value cmp rows key None) key q w at ∙ value_at-other total exact rows key q None at ∙ sym (value_at-other total exact rows key q w at)

    -- a row goes and another comes, in either order
    pub either_order : (other : K) (w : Option V) → is_at (cmp other) key ≡ false → (q : K)
        → value_at cmp (with_value cmp (with_value cmp rows key None) other w) q ≡ value_at cmp (with_value cmp (with_value cmp rows other w) key None) q
    either_order other w apart q = by q (is_at (cmp q) key) (is_at (cmp q) other) refl refl
      where
        by : (q : K) (a b : Bool) → is_at (cmp q) key ≡ a → is_at (cmp q) other ≡ b → value_at cmp (with_value cmp (with_value cmp rows key None) other w) q ≡ value_at cmp (with_value cmp (with_value cmp rows other w) key None) q
        by q true true at there = absurd (let z = sym (ap (λ k. is_at (cmp k) key) (sym (one_key total exact q other there)) ∙ at) ∙ apart in cc)
        by q true false at there =
            value_at-other total exact (with_value cmp rows key None) other q w there
            ∙ ap (value_at cmp (with_value cmp rows key None)) (one_key total exact q key at) ∙ value_at-here total exact rows key None s
            ∙ sym (ap (value_at cmp (with_value cmp (with_value cmp rows other w) key None)) (one_key total exact q key at)
            ∙ value_at-here total exact (with_value cmp rows other w) key None (with_value-sorted total exact rows other w s))
        by q false true at there =
            ap (value_at cmp (with_value cmp (with_value cmp rows key None) other w)) (one_key total exact q other there)
            ∙ value_at-here total exact (with_value cmp rows key None) other w (with_value-sorted total exact rows key None s)
            ∙ sym (value_at-other total exact (with_value cmp rows other w) key q None at
            ∙ ap (value_at cmp (with_value cmp rows other w)) (one_key total exact q other there) ∙ value_at-here total exact rows other w s)
        by q false false at there =
            value_at-other total exact (with_value cmp rows key None) other q w there ∙ value_at-other total exact rows key q None at
            ∙ sym (value_at-other total exact (with_value cmp rows other w) key q None at ∙ value_at-other total exact rows other q w there)

-- what is stored is told by the rows at each key and by what waits at each place
stored_alike : {K : Type 0} {cmp : K → K → Ordering} {rows others : List (K × Row)} {waiting more : List (ℕ × Waiting K)} {next : ℕ} → IsStored cmp rows waiting next → IsTable cmp others → IsTable nat_cmp more
    → ((q : K) → value_at cmp others q ≡ value_at cmp rows q) → ((p : ℕ) → value_at nat_cmp more p ≡ value_at nat_cmp waiting p) → IsStored cmp others more next
stored_alike s ordered in_line same there = record {
  ordered = ordered;
  in_line = in_line;
  sound = λ q r e. s.sound q r (sym (same q) ∙ e);
  listed = λ q r c e h. there c.place ∙ s.listed q r c (sym (same q) ∙ e) h;
  known = λ p w e. let k = s.known p w (sym (there p) ∙ e) in (k.0, same w.key ∙ k.1, k.2);
  before = λ p w e. s.before p w (sym (there p) ∙ e);
}

-- ---- one that waits comes to another place

module _ {K : Type 0} {cmp : K → K → Ordering} (total : IsTotalOrder cmp) (exact : IsAntisymmetric cmp)
    (rows : List (K × Row)) (waiting : List (ℕ × Waiting K)) (next : ℕ) (s : IsStored cmp rows waiting next) (n : ℕ) (e : ℕ × Waiting K)
    (first : slice_get (from_place n waiting) 0 ≡ Some e) where
  there : value_at nat_cmp waiting e.0 ≡ Some e.1
  there = first_waits n waiting e s.in_line first

  pub row_known : value_at cmp rows e.1.key ≡ None → ⊥
  row_known none = let k = s.known e.0 e.1 there in let z = sym k.1 ∙ none in cc

  pub place_next : e.0 < next
  place_next = s.before e.0 e.1 there

  module _ (row : Row) (is : value_at cmp rows e.1.key ≡ Some row) where
    change_is : row.change ≡ Some (record { place = e.0; desired = e.1.value })
    change_is = let k = s.known e.0 e.1 there in ap (λ (x : Row). x.change) (same_row row k.0 (sym is ∙ k.1)) ∙ k.2
      where
        same_row : (a b : Row) → Some a ≡ Some b → a ≡ b
        same_row a b h = cc

    abbrev moved : Row
    moved = with_change row n e.1.value

    pub owed : is_owed row.formatted e.1.value row.forced ≡ true
    owed = subst (IsRowBy row) change_is (s.sound e.1.key row is)

    -- the Adj-RIB-Out is the same
    pub same_view : (later : List (ℕ × Waiting K)) → waiting_keys later ≡ waiting_keys waiting → adj_of (with_value cmp rows e.1.key (Some moved)) later ≡ adj_of rows waiting
    same_view later ps =
        let fs = projected-with_value total exact formatted_of rows e.1.key (Some moved) s.ordered
        ∙ with_value-same total exact _ e.1.key _ (sorted_projected total exact formatted_of rows s.ordered) (formatted_at total exact rows waiting next s e.1.key ∙ ap (of_row formatted_of) is) in
        let ds = projected-with_value total exact desired_of rows e.1.key (Some moved) s.ordered
        ∙ with_value-same total exact _ e.1.key _ (sorted_projected total exact desired_of rows s.ordered)
        (desired_at total exact rows waiting next s e.1.key ∙ ap (of_row desired_of) is ∙ waiting_desired row _ change_is) in
        let ms = projected-with_value total exact mark_of rows e.1.key (Some moved) s.ordered
        ∙ with_value-same total exact _ e.1.key _ (sorted_projected total exact mark_of rows s.ordered) (value_at-projected total exact mark_of rows e.1.key s.ordered ∙ ap (of_row mark_of) is) in
        λ i. record { formatted = fs i; desired = ds i; forced = keys_of (ms i); pending = ps i }

    module _ (lt : n < e.0) where
      apart : is_at (nat_cmp n) e.0 ≡ false
      apart = ap is_eq (less n e.0 lt)

      was_there : Agree e.1.key e.0 (value_at cmp rows e.1.key) (value_at nat_cmp waiting e.0)
      was_there = subst (λ o. Agree e.1.key e.0 o (value_at nat_cmp waiting e.0)) (sym is) (subst (λ o. Agree e.1.key e.0 (Some row) o) (sym there) (refl, change_is))

      left_out : IsStored cmp (with_value cmp rows e.1.key None) (with_value nat_cmp waiting e.0 None) next
      left_out = stored total exact rows waiting next s e.1.key e.0 was_there None None tt tt next (inl refl) (λ some. absurd cc)

      was_free : Agree e.1.key n (value_at cmp (with_value cmp rows e.1.key None) e.1.key) (value_at nat_cmp (with_value nat_cmp waiting e.0 None) n)
      was_free =
          subst (λ o. Agree e.1.key n o (value_at nat_cmp (with_value nat_cmp waiting e.0 None) n)) (sym (value_at-here total exact rows e.1.key None s.ordered))
          (subst (λ o. Agree e.1.key n None o) (sym (value_at-other nat_cmp_total nat_cmp-IsAntisymmetric waiting e.0 n None apart ∙ nothing_at n waiting e s.in_line first lt)) tt)

      put_in : IsStored cmp (with_value cmp (with_value cmp rows e.1.key None) e.1.key (Some moved)) (with_value nat_cmp (with_value nat_cmp waiting e.0 None) n (Some e.1)) next
      put_in = stored total exact _ _ next left_out e.1.key n was_free (Some moved) (Some e.1) (refl, refl) owed next (inl refl) (λ _. omega (arith, lt, place_next))

      pub stored_moved : IsStored cmp (insert_entry cmp rows e.1.key moved) (remove_entry (is_at (nat_cmp e.0)) (insert_entry nat_cmp waiting n e.1)) next
      stored_moved =
          stored_alike put_in (with_value-sorted total exact rows e.1.key (Some moved) s.ordered)
          (with_value-sorted nat_cmp_total nat_cmp-IsAntisymmetric _ e.0 None (with_value-sorted nat_cmp_total nat_cmp-IsAntisymmetric waiting n (Some e.1) s.in_line))
          (λ q. sym (over_none total exact rows s.ordered e.1.key (Some moved) q))
          (λ p. sym (either_order nat_cmp_total nat_cmp-IsAntisymmetric waiting s.in_line e.0 n (Some e.1) apart p))

      pub view_moved : adj_of (insert_entry cmp rows e.1.key moved) (remove_entry (is_at (nat_cmp e.0)) (insert_entry nat_cmp waiting n e.1)) ≡ adj_of rows waiting
      view_moved = same_view _ (ap waiting_keys (put_first n waiting e s.in_line first lt) ∙ brought_keys n waiting)

      pub passed_moved : 0 < length (from_place n waiting)
          → length (from_place (n + 1) (remove_entry (is_at (nat_cmp e.0)) (insert_entry nat_cmp waiting n e.1))) + 1 ≡ length (from_place n waiting)
      passed_moved some = ap (λ l. length (from_place (n + 1) l) + 1) (put_first n waiting e s.in_line first lt) ∙ brought_passed n waiting s.in_line some

      pub behind_moved : from_place (e.0 + 1) (remove_entry (is_at (nat_cmp e.0)) (insert_entry nat_cmp waiting n e.1)) ≡ from_place (n + 1) (remove_entry (is_at (nat_cmp e.0)) (insert_entry nat_cmp waiting n e.1))
      behind_moved =
          let put = put_first n waiting e s.in_line first lt in
          ap (from_place (e.0 + 1)) put ∙ brought_behind n waiting e s.in_line first ∙ sym (ap (from_place (n + 1)) put)

  pub passed_same : e.0 ≡ n → 0 < length (from_place n waiting) → length (from_place (n + 1) waiting) + 1 ≡ length (from_place n waiting)
  passed_same same some = sym (ap (λ l. length (from_place (n + 1) l) + 1) (brought_same n waiting e first same)) ∙ brought_passed n waiting s.in_line some

-- the number of the next place, where all stand before it
pub stored_below : {K : Type 0} {cmp : K → K → Ordering} (rows : List (K × Row)) (waiting : List (ℕ × Waiting K)) (next n : ℕ) → IsStored cmp rows waiting next → length (from_place n waiting) ≡ 0 → IsStored cmp rows waiting n
stored_below rows waiting next n s none = record {
  ordered = s.ordered;
  in_line = s.in_line;
  sound = s.sound;
  listed = s.listed;
  known = s.known;
  before = all_before n waiting none;
}

pub behind_first : (n p : ℕ) → n ≤ p → (p ≡ n → ⊥) → n < p
behind_first n p le apart = by (nat_le p n) refl
  where
    by : (b : Bool) → nat_le p n ≡ b → n < p
    by true e = absurd (apart (let back = from_yes p n e in omega (arith, le, back)))
    by false e = from_no p n e

pub at_end : (n p left : ℕ) → left + p ≡ n → n ≤ p → (p ≡ n) × (left ≡ 0)
at_end n p left sum le = (omega (arith, sum, le), omega (arith, sum, le))
