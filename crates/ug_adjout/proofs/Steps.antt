-- One key's row and its place in the list change together.
use Rattle.std.proofs.Common.{◌≡◌, ◌⊎◌, inl, inr, ℕ, ◌+◌, ◌<◌, Bool, true, false, List, [], ◌∷◌, Option, Some, None, refl, sym, ap, subst, ◌∙◌, arith}
use Rattle.std.specs.Prelude.{is_some, IsSome, IfSome}
use Rattle.std.specs.Ordering.{nat_cmp, is_eq, match_ordering}
use Rattle.std.specs.Map.{lookup, remove_entry}
use Rattle.std.specs.BTreeMap.{insert_entry, is_at}
use Rattle.std.specs.Cmp.{IsTotalOrder, nat_cmp_total}
use Rattle.std.specs.FinMap.{IsAntisymmetric, nat_cmp-IsAntisymmetric}
use Rattle.std.specs.declared.cmp.Ordering.{Ordering}
use Rattle.std.specs.declared.cmp.Ordering.TheVariants.{Less, Equal, Greater}
use Rattle.std.proofs.lemmas.Bool.{false_from_ne_true, cond-true, cond-false}
use Rattle.ug_adjout.specs.Tables.{value_at, with_value}
use Rattle.ug_adjout.specs.TableLaws.{value_at-here, value_at-other, with_value-sorted, one_key, at_itself}
use Rattle.ug_adjout.specs.declared.row.Row.{Row}
use Rattle.ug_adjout.specs.declared.row.Change.{Change}
use Rattle.ug_adjout.specs.declared.waiting.Waiting.{Waiting}
use Rattle.ug_adjout.specs.Stored.{IsStored, IsRow, IsFree}

pub at_number : (p q : ℕ) → is_at (nat_cmp p) q ≡ true → p ≡ q
at_number p q e = one_key nat_cmp_total nat_cmp-IsAntisymmetric p q e

same_change : (a b : Change) → Some a ≡ Some b → a ≡ b
same_change a b e = cc

change_place : (a b : Change) → Some a ≡ Some b → a.place ≡ b.place
change_place a b e = cc

same_row : (a b : Row) → Some a ≡ Some b → a ≡ b
same_row a b e = cc

abbrev pub IsSound : Option Row → Type 0
IsSound None = Unit {0}
IsSound (Some row) = IsRow row

sound_row : (o : Option Row) (row : Row) → IsSound o → o ≡ Some row → IsRow row
sound_row None row s e = absurd cc
sound_row (Some r) row s e = subst IsRow (same_row r row e) s

module _ {K : Type 0} where
  same_waiting : (a b : Waiting K) → Some a ≡ Some b → a ≡ b
  same_waiting a b e = cc

  waiting_key : (a b : Waiting K) → Some a ≡ Some b → a.key ≡ b.key
  waiting_key a b e = cc

  -- the row and what waits at the place say one thing
  abbrev pub Agree : K → ℕ → Option Row → Option (Waiting K) → Type 0
  Agree key place None None = Unit {0}
  Agree key place None (Some w) = ⊥
  Agree key place (Some row) None = row.change ≡ None
  Agree key place (Some row) (Some w) = (w.key ≡ key) × (row.change ≡ Some (record { place = place; desired = w.value }))

  agree_row : (key : K) (place : ℕ) (o : Option Row) (p : Option (Waiting K)) (row : Row) (change : Change) → Agree key place o p → o ≡ Some row → row.change ≡ Some change
      → (change.place ≡ place) × (p ≡ Some (record { key = key; value = change.desired }))
  agree_row key place None p row change a e h = absurd cc
  agree_row key place (Some r) None row change a e h = absurd (let z = same_row r row e in let t = sym a ∙ ap (λ (x : Row). x.change) z ∙ h in cc)
  agree_row key place (Some r) (Some w) row change a e h =
      let c : record { place = place; desired = w.value } ≡ change = same_change _ change (sym a.1 ∙ ap (λ (x : Row). x.change) (same_row r row e) ∙ h) in
      (sym (ap (λ (x : Change). x.place) c), ap Some (λ i. record { key = a.0 i; value = (ap (λ (x : Change). x.desired) c) i }))

  agree_waiting : (key : K) (place : ℕ) (o : Option Row) (p : Option (Waiting K)) (w : Waiting K) → Agree key place o p → p ≡ Some w
      → (w.key ≡ key) × (row : Row) × (o ≡ Some row) × (row.change ≡ Some (record { place = place; desired = w.value }))
  agree_waiting key place o None w a e = absurd cc
  agree_waiting key place None (Some v) w a e = absurd a
  agree_waiting key place (Some row) (Some v) w a e =
      let z = same_waiting v w e in (sym (ap (λ (x : Waiting K). x.key) z) ∙ a.0, row, refl, a.1 ∙ ap (λ (x : Waiting K). Some (record { place = place; desired = x.value })) z)

module _ {K : Type 0} {cmp : K → K → Ordering} (total : IsTotalOrder cmp) (exact : IsAntisymmetric cmp)
    (rows : List (K × Row)) (waiting : List (ℕ × Waiting K)) (next : ℕ) (s : IsStored cmp rows waiting next)
    (key : K) (place : ℕ) (was : Agree key place (value_at cmp rows key) (value_at nat_cmp waiting place)) where
  module _ (row : Option Row) (w : Option (Waiting K)) (now : Agree key place row w) (sound : IsSound row) (later : ℕ) (before : next ≡ later ⊎ (later ≡ next + 1)) (fresh : IsSome w → place < later) where
    abbrev new_rows : List (K × Row)
    new_rows = with_value cmp rows key row

    abbrev new_waiting : List (ℕ × Waiting K)
    new_waiting = with_value nat_cmp waiting place w

    waiting_here : (p : ℕ) → p ≡ place → value_at nat_cmp new_waiting p ≡ w
    waiting_here p e = ap (value_at nat_cmp new_waiting) e ∙ value_at-here nat_cmp_total nat_cmp-IsAntisymmetric waiting place w s.in_line

    waiting_other : (p : ℕ) → is_at (nat_cmp p) place ≡ false → value_at nat_cmp new_waiting p ≡ value_at nat_cmp waiting p
    waiting_other p apart = value_at-other nat_cmp_total nat_cmp-IsAntisymmetric waiting place p w apart

    row_here : (q : K) → q ≡ key → value_at cmp new_rows q ≡ row
    row_here q e = ap (value_at cmp new_rows) e ∙ value_at-here total exact rows key row s.ordered

    row_other : (q : K) → is_at (cmp q) key ≡ false → value_at cmp new_rows q ≡ value_at cmp rows q
    row_other q apart = value_at-other total exact rows key q row apart

    sound_case : (b : Bool) (q : K) (r : Row) → is_at (cmp q) key ≡ b → value_at cmp new_rows q ≡ Some r → IsRow r
    sound_case true q r at e = sound_row row r sound (sym (row_here q (one_key total exact q key at)) ∙ e)
    sound_case false q r at e = s.sound q r (sym (row_other q at) ∙ e)

    -- where another key waits is another place
    not_the_place : (q : K) (r : Row) (c : Change) → is_at (cmp q) key ≡ false → value_at cmp rows q ≡ Some r → r.change ≡ Some c → c.place ≡ place → ⊥
    not_the_place q r c apart e h same =
        let there : value_at nat_cmp waiting place ≡ Some (record { key = q; value = c.desired }) = ap (value_at nat_cmp waiting) (sym same) ∙ s.listed q r c e h in
        let own = agree_waiting key place (value_at cmp rows key) (value_at nat_cmp waiting place) _ was there in
        let at = ap (λ z. is_at (cmp q) z) own.0 ∙ apart in let mine = at_itself total exact q in cc

    listed_case : (b : Bool) (q : K) (r : Row) (c : Change) → is_at (cmp q) key ≡ b → value_at cmp new_rows q ≡ Some r → r.change ≡ Some c
        → value_at nat_cmp new_waiting c.place ≡ Some (record { key = q; value = c.desired })
    listed_case true q r c at e h =
        let same = one_key total exact q key at in let a = agree_row key place row w r c now (sym (row_here q same) ∙ e) h in
        waiting_here c.place a.0 ∙ a.1 ∙ ap (λ k. Some (record { key = k; value = c.desired })) (sym same)
    listed_case false q r c at e h =
        let old = sym (row_other q at) ∙ e in
        waiting_other c.place (false_from_ne_true (is_at (nat_cmp c.place) place) (λ p. not_the_place q r c at old h (at_number c.place place p))) ∙ s.listed q r c old h

    known_case : (b : Bool) (p : ℕ) (v : Waiting K) → is_at (nat_cmp p) place ≡ b → value_at nat_cmp new_waiting p ≡ Some v
        → (r : Row) × (value_at cmp new_rows v.key ≡ Some r) × (r.change ≡ Some (record { place = p; desired = v.value }))
    known_case true p v at e =
        let same = at_number p place at in let a = agree_waiting key place row w v now (sym (waiting_here p same) ∙ e) in
        (a.1, row_here v.key a.0 ∙ a.2, a.3 ∙ ap (λ n. Some (record { place = n; desired = v.value })) (sym same))
    known_case false p v at e =
        let old = s.known p v (sym (waiting_other p at) ∙ e) in
        (old.0, row_other v.key (false_from_ne_true (is_at (cmp v.key) key) (λ k. other_key (one_key total exact v.key key k) old)) ∙ old.1, old.2)
      where
        other_key : v.key ≡ key → (r : Row) × (value_at cmp rows v.key ≡ Some r) × (r.change ≡ Some (record { place = p; desired = v.value })) → ⊥
        other_key same old =
            let a = agree_row key place (value_at cmp rows key) (value_at nat_cmp waiting place) old.0 _ was (ap (value_at cmp rows) (sym same) ∙ old.1) old.2 in
            let here = ap (λ n. is_at (nat_cmp n) place) a.0 in let mine = at_itself nat_cmp_total nat_cmp-IsAntisymmetric place in cc

    before_case : (b : Bool) (p : ℕ) (v : Waiting K) → is_at (nat_cmp p) place ≡ b → value_at nat_cmp new_waiting p ≡ Some v → p < later
    before_case true p v at e =
        let same = at_number p place at in let there = sym (waiting_here p same) ∙ e in omega (arith, same, fresh (ap is_some there))
    before_case false p v at e = let old = s.before p v (sym (waiting_other p at) ∙ e) in elim before [ inl z ↦ omega (arith, old, z) | inr z ↦ omega (arith, old, z) ]

    pub stored : IsStored cmp new_rows new_waiting later
    stored = record {
      ordered = with_value-sorted total exact rows key row s.ordered;
      in_line = with_value-sorted nat_cmp_total nat_cmp-IsAntisymmetric waiting place w s.in_line;
      sound = λ q r e. sound_case (is_at (cmp q) key) q r refl e;
      listed = λ q r c e h. listed_case (is_at (cmp q) key) q r c refl e h;
      known = λ p v e. known_case (is_at (nat_cmp p) place) p v refl e;
      before = λ p v e. before_case (is_at (nat_cmp p) place) p v refl e;
    }

module _ {K : Type 0} {cmp : K → K → Ordering} (rows : List (K × Row)) (waiting : List (ℕ × Waiting K)) (next : ℕ) (s : IsStored cmp rows waiting next) (key : K) where
  -- nothing waits at the place that comes next
  pub next_free : value_at nat_cmp waiting next ≡ None
  next_free = by (value_at nat_cmp waiting next) refl
    where
      by : (o : Option (Waiting K)) → value_at nat_cmp waiting next ≡ o → o ≡ None
      by None e = refl
      by (Some w) e = absurd (let lt = s.before next w e in omega (arith, lt))

  pub agree_free : IsFree (value_at cmp rows key) → Agree key next (value_at cmp rows key) (value_at nat_cmp waiting next)
  agree_free free = subst (Agree key next (value_at cmp rows key)) (sym next_free) (by (value_at cmp rows key) free)
    where
      by : (o : Option Row) → IsFree o → Agree key next o None
      by None h = tt
      by (Some row) h = h

  pub agree_listed : (change : Change) → IsSome (value_at cmp rows key) → IfSome (value_at cmp rows key) (λ row. row.change ≡ Some change)
      → Agree key change.place (value_at cmp rows key) (value_at nat_cmp waiting change.place)
  agree_listed change some is = by (value_at cmp rows key) refl some is
    where
      by : (o : Option Row) → value_at cmp rows key ≡ o → IsSome o → IfSome o (λ row. row.change ≡ Some change) → Agree key change.place o (value_at nat_cmp waiting change.place)
      by None e h i = absurd cc
      by (Some row) e h i = subst (Agree key change.place (Some row)) (sym (s.listed key row change e i)) (refl, i)

-- what is put in and taken out again leaves the rows as they were
module _ {K X : Type 0} {cmp : K → K → Ordering} (total : IsTotalOrder cmp) (exact : IsAntisymmetric cmp) where
  put_back_step : (r : Ordering) (p : K) (w : X) (e : K × X) (es rest : List (K × X)) → cmp p e.0 ≡ r → lookup (is_at (cmp p)) (e ∷ es) ≡ None
      → (lookup (is_at (cmp p)) es ≡ None → remove_entry (is_at (cmp p)) rest ≡ es)
      → remove_entry (is_at (cmp p)) (match_ordering r ((p, w) ∷ e ∷ es) ((e.0, w) ∷ es) (e ∷ rest)) ≡ e ∷ es
  put_back_step Less p w e es rest at none h = cond-true _ (e ∷ es) _ (at_itself total exact p)
  put_back_step Equal p w e es rest at none h = absurd (let z = sym (cond-true _ (Some e.1) (lookup (is_at (cmp p)) es) (ap is_eq at)) ∙ none in cc)
  put_back_step Greater p w e es rest at none h =
      cond-false _ rest _ (ap is_eq at) ∙ ap (λ l. e ∷ l) (h (sym (cond-false _ (Some e.1) (lookup (is_at (cmp p)) es) (ap is_eq at)) ∙ none))

  pub put_back : (p : K) (w : X) (es : List (K × X)) → lookup (is_at (cmp p)) es ≡ None → remove_entry (is_at (cmp p)) (insert_entry cmp es p w) ≡ es
  put_back p w [] none = cond-true _ [] _ (at_itself total exact p)
  put_back p w (e ∷ es) none = put_back_step (cmp p e.0) p w e es (insert_entry cmp es p w) refl none (put_back p w es)

module _ {K : Type 0} {cmp : K → K → Ordering} (rows : List (K × Row)) (waiting : List (ℕ × Waiting K)) (next : ℕ) (s : IsStored cmp rows waiting next) (key : K) where
  pub place_before : (change : Change) → IsSome (value_at cmp rows key) → IfSome (value_at cmp rows key) (λ row. row.change ≡ Some change) → change.place < next
  place_before change some is = by (value_at cmp rows key) refl some is
    where
      by : (o : Option Row) → value_at cmp rows key ≡ o → IsSome o → IfSome o (λ row. row.change ≡ Some change) → change.place < next
      by None e h i = absurd cc
      by (Some row) e h i = s.before change.place _ (s.listed key row change e i)

  -- and there it waits
  pub waits_there : (change : Change) → IsSome (value_at cmp rows key) → IfSome (value_at cmp rows key) (λ row. row.change ≡ Some change) → value_at nat_cmp waiting change.place ≡ Some (record { key = key; value = change.desired })
  waits_there change some is = by (value_at cmp rows key) refl some is
    where
      by : (o : Option Row) → value_at cmp rows key ≡ o → IsSome o → IfSome o (λ row. row.change ≡ Some change) → value_at nat_cmp waiting change.place ≡ Some (record { key = key; value = change.desired })
      by None e h i = absurd cc
      by (Some row) e h i = s.listed key row change e i
