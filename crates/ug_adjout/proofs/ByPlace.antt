-- What waits by place is told by the keys at their slots.
use Rattle.std.proofs.Common.{◌≡◌, ℕ, suc, Bool, true, false, cond, List, [], ◌∷◌, length, Option, Some, None, refl, sym, ap, subst, ◌∙◌}
use Rattle.std.specs.Prelude.{nat_eq}
use Rattle.std.specs.Option.{option_eq}
use Rattle.std.specs.Ordering.{nat_cmp, is_eq, match_ordering}
use Rattle.std.specs.Map.{keys_of}
use Rattle.std.specs.BTreeMap.{insert_entry, is_at}
use Rattle.std.specs.Cmp.{nat_cmp_total}
use Rattle.std.specs.FinMap.{nat_cmp-IsAntisymmetric}
use Rattle.std.specs.List.Sorted.{IsStrictlySortedBy}
use Rattle.std.specs.declared.cmp.Ordering.{Ordering}
use Rattle.std.specs.declared.cmp.Ordering.TheVariants.{Less, Equal, Greater}
use Rattle.std.proofs.lemmas.Bool.{cond-true, cond-false}
use Rattle.std.proofs.lemmas.Map.Keys.{sorted_head, sorted_tail}
use Rattle.ug_adjout.specs.Tables.{value_at, IsTable}
use Rattle.ug_adjout.proofs.SameTables.{same_some, found_behind, found_first, same_table}
use Rattle.ug_adjout.specs.TableLaws.{none_above, value_at-here, value_at-other, with_value-sorted}
use Rattle.ug_adjout.specs.declared.slot.Slot.{Slot}
use Rattle.ug_adjout.specs.declared.waiting.Waiting.{Waiting}
use Rattle.ug_adjout.specs.Places.{slot_cmp, slot_total, key_for, by_place, IsIndexed}
use Rattle.ug_adjout.proofs.Steps.{at_number}
use Rattle.ug_adjout.proofs.Slots.{slot, slot_exact, itself, same_value, at_other}

module _ {K : Type 0} where
  abbrev waiting_of : Slot × K → Waiting K
  waiting_of e = record { key = e.1; value = e.0.value }

  pub placed_order : (keys : List (Slot × K)) → IsTable nat_cmp (by_place keys)
  unfolding IsStrictlySortedBy
  placed_order [] = tt
  placed_order (e ∷ keys) = with_value-sorted nat_cmp_total nat_cmp-IsAntisymmetric (by_place keys) e.0.place (Some (waiting_of e)) (placed_order keys)

  -- where the first key waits, and where it doesn't
  placed_here : (e : Slot × K) (keys : List (Slot × K)) (p : ℕ) → is_at (nat_cmp p) e.0.place ≡ true → value_at nat_cmp (by_place (e ∷ keys)) p ≡ Some (waiting_of e)
  placed_here e keys p at =
      ap (value_at nat_cmp (by_place (e ∷ keys))) (at_number p e.0.place at) ∙ value_at-here nat_cmp_total nat_cmp-IsAntisymmetric (by_place keys) e.0.place (Some (waiting_of e)) (placed_order keys)

  placed_other : (e : Slot × K) (keys : List (Slot × K)) (p : ℕ) → is_at (nat_cmp p) e.0.place ≡ false → value_at nat_cmp (by_place (e ∷ keys)) p ≡ value_at nat_cmp (by_place keys) p
  placed_other e keys p at = value_at-other nat_cmp_total nat_cmp-IsAntisymmetric (by_place keys) e.0.place p (Some (waiting_of e)) at

  -- what waits somewhere has its slot
  origin : (keys : List (Slot × K)) → IsTable slot_cmp keys → (p : ℕ) (w : Waiting K) → value_at nat_cmp (by_place keys) p ≡ Some w → value_at slot_cmp keys (slot w.value p) ≡ Some w.key
  origin [] s p w h = absurd cc
  origin (e ∷ keys) s p w h = by (is_at (nat_cmp p) e.0.place) refl (origin keys (sorted_tail slot_cmp e.0 (keys_of keys) s) p w)
    where
      by : (b : Bool) → is_at (nat_cmp p) e.0.place ≡ b → (value_at nat_cmp (by_place keys) p ≡ Some w → value_at slot_cmp keys (slot w.value p) ≡ Some w.key) → value_at slot_cmp (e ∷ keys) (slot w.value p) ≡ Some w.key
      by true at more =
          let same : waiting_of e ≡ w = same_some (waiting_of e) w (sym (placed_here e keys p at) ∙ h) in
          let there : slot w.value p ≡ e.0 = λ i. record { value = (ap (λ (x : Waiting K). x.value) (sym same)) i; place = (at_number p e.0.place at) i } in
          ap (value_at slot_cmp (e ∷ keys)) there ∙ found_first slot_total slot_exact e keys ∙ ap (λ (x : Waiting K). Some x.key) same
      by false at more = found_behind slot_total slot_exact e keys (slot w.value p) w.key s (more (sym (placed_other e keys p at) ∙ h))

  -- ---- the keys of what waits

  module _ (waiting : List (ℕ × Waiting K)) where
    abbrev AreTold : List (Slot × K) → Type 0
    AreTold keys = (v : Option ℕ) (p : ℕ) (k : K) → value_at slot_cmp keys (slot v p) ≡ Some k → value_at nat_cmp waiting p ≡ Some (record { key = k; value = v })

    told_tail : (e : Slot × K) (keys : List (Slot × K)) → IsTable slot_cmp (e ∷ keys) → AreTold (e ∷ keys) → AreTold keys
    told_tail e keys s told v p k h = told v p k (found_behind slot_total slot_exact e keys (slot v p) k s h)

    told_first : (e : Slot × K) (keys : List (Slot × K)) → AreTold (e ∷ keys) → value_at nat_cmp waiting e.0.place ≡ Some (waiting_of e)
    told_first e keys told = told e.0.value e.0.place e.1 (found_first slot_total slot_exact e keys)

    sound : (keys : List (Slot × K)) → IsTable slot_cmp keys → AreTold keys → (p : ℕ) (w : Waiting K) → value_at nat_cmp (by_place keys) p ≡ Some w → value_at nat_cmp waiting p ≡ Some w
    sound keys s told p w h = told w.value p w.key (origin keys s p w h)

    complete : (keys : List (Slot × K)) → IsTable slot_cmp keys → AreTold keys → (p : ℕ) (w : Waiting K) → value_at nat_cmp waiting p ≡ Some w → value_at slot_cmp keys (slot w.value p) ≡ Some w.key
        → value_at nat_cmp (by_place keys) p ≡ Some w
    complete [] s told p w is h = absurd cc
    complete (e ∷ keys) s told p w is h = by (is_at (nat_cmp p) e.0.place) refl (complete keys (sorted_tail slot_cmp e.0 (keys_of keys) s) (told_tail e keys s told) p w is)
      where
        by : (b : Bool) → is_at (nat_cmp p) e.0.place ≡ b → (value_at slot_cmp keys (slot w.value p) ≡ Some w.key → value_at nat_cmp (by_place keys) p ≡ Some w) → value_at nat_cmp (by_place (e ∷ keys)) p ≡ Some w
        by true at more = placed_here e keys p at ∙ sym (told_first e keys told) ∙ ap (value_at nat_cmp waiting) (sym (at_number p e.0.place at)) ∙ is
        by false at more = placed_other e keys p at ∙ more (sym (cond-false _ (Some e.1) (value_at slot_cmp keys (slot w.value p)) (at_other w.value e.0.value p e.0.place at)) ∙ h)

    -- no other key of the list waits at the place of the first
    fresh : (e : Slot × K) (keys : List (Slot × K)) → IsTable slot_cmp (e ∷ keys) → AreTold (e ∷ keys) → value_at nat_cmp (by_place keys) e.0.place ≡ None
    fresh e keys s told = by (value_at nat_cmp (by_place keys) e.0.place) refl
      where
        by : (o : Option (Waiting K)) → value_at nat_cmp (by_place keys) e.0.place ≡ o → o ≡ None
        by None h = refl
        by (Some w) h = absurd (
            let there = origin keys (sorted_tail slot_cmp e.0 (keys_of keys) s) e.0.place w h in
            let same : waiting_of e ≡ w = same_some (waiting_of e) w (sym (told_first e keys told) ∙ told w.value e.0.place w.key (found_behind slot_total slot_exact e keys _ w.key s there)) in
            let slots : slot w.value e.0.place ≡ e.0 = λ i. record { value = (ap (λ (x : Waiting K). x.value) (sym same)) i; place = e.0.place } in
            let z = sym there ∙ ap (value_at slot_cmp keys) slots ∙ none_above slot_total slot_exact e.0 keys (sorted_head slot_cmp e.0 (keys_of keys) s) in cc)

    one_longer : (r : Ordering) (p : ℕ) (w : Waiting K) (x : ℕ × Waiting K) (es rest : List (ℕ × Waiting K)) → nat_cmp p x.0 ≡ r → value_at nat_cmp (x ∷ es) p ≡ None
        → (value_at nat_cmp es p ≡ None → length rest ≡ suc (length es)) → length (match_ordering r ((p, w) ∷ x ∷ es) ((x.0, w) ∷ es) (x ∷ rest)) ≡ suc (length (x ∷ es))
    one_longer Less p w x es rest at none more = refl
    one_longer Equal p w x es rest at none more = absurd (let z = sym (cond-true _ (Some x.1) (value_at nat_cmp es p) (ap is_eq at)) ∙ none in cc)
    one_longer Greater p w x es rest at none more = ap suc (more (sym (cond-false _ (Some x.1) (value_at nat_cmp es p) (ap is_eq at)) ∙ none))

    longer : (p : ℕ) (w : Waiting K) (es : List (ℕ × Waiting K)) → value_at nat_cmp es p ≡ None → length (insert_entry nat_cmp es p w) ≡ suc (length es)
    longer p w [] none = refl
    longer p w (x ∷ es) none = one_longer (nat_cmp p x.0) p w x es (insert_entry nat_cmp es p w) refl none (longer p w es)

    as_many : (keys : List (Slot × K)) → IsTable slot_cmp keys → AreTold keys → length (by_place keys) ≡ length keys
    as_many [] s told = refl
    as_many (e ∷ keys) s told =
        longer e.0.place (waiting_of e) (by_place keys) (fresh e keys s told) ∙ ap suc (as_many keys (sorted_tail slot_cmp e.0 (keys_of keys) s) (told_tail e keys s told))

  module _ (keys : List (Slot × K)) (waiting : List (ℕ × Waiting K)) (s : IsIndexed keys waiting) where
    pub told : AreTold waiting keys
    told v p k h = by (value_at nat_cmp waiting p) refl (sym (s.listed v p) ∙ h)
      where
        by : (o : Option (Waiting K)) → value_at nat_cmp waiting p ≡ o → key_for v o ≡ Some k → o ≡ Some (record { key = k; value = v })
        by None e h = absurd cc
        by (Some w) e h = own (option_eq nat_eq w.value v) refl h
          where
            own : (b : Bool) → option_eq nat_eq w.value v ≡ b → cond b (Some w.key) None ≡ Some k → Some w ≡ Some (record { key = k; value = v })
            own true f g = ap Some (λ i. record { key = (same_some w.key k g) i; value = (same_value w.value v f) i })
            own false f g = absurd cc

    -- what waits is what the keys say
    pub placed_is : by_place keys ≡ waiting
    placed_is = same_table nat_cmp_total nat_cmp-IsAntisymmetric (by_place keys) waiting (placed_order keys) s.in_line (λ p. by p (value_at nat_cmp waiting p) (value_at nat_cmp (by_place keys) p) refl refl)
      where
        by : (p : ℕ) (o r : Option (Waiting K)) → value_at nat_cmp waiting p ≡ o → value_at nat_cmp (by_place keys) p ≡ r → value_at nat_cmp (by_place keys) p ≡ value_at nat_cmp waiting p
        by p (Some w) r e f = complete waiting keys s.in_order told p w e (s.listed w.value p ∙ ap (key_for w.value) e ∙ cond-true _ (Some w.key) None (itself w.value)) ∙ sym e
        by p None None e f = f ∙ sym e
        by p None (Some w) e f = absurd (let z = sym (sound waiting keys s.in_order told p w f) ∙ e in cc)

    pub placed_length : length (by_place keys) ≡ length keys
    placed_length = as_many waiting keys s.in_order told

    -- and so they stand for themselves
    pub indexed_itself : IsIndexed keys (by_place keys)
    indexed_itself = subst (IsIndexed keys) (sym placed_is) s
