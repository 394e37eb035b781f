-- The keys that wait for one value stand together, in the order in which they wait.
use Rattle.std.proofs.Common.{◌≡◌, ℕ, zero, suc, ◌-◌, Bool, true, false, cond, ◌&&◌, List, [], ◌∷◌, ◌++◌, map, Option, Some, None, refl, sym, ap, ◌∙◌, arith, append_assoc}
use Rattle.std.specs.Prelude.{nat_eq, nat_le, nat_lt, slice_get, if◌then◌else◌}
use Rattle.std.specs.Option.{option_eq, option_cmp, option_map}
use Rattle.std.specs.List.{filter, AllByRecursion}
use Rattle.std.specs.List.Sorted.{IsStrictlySortedBy}
use Rattle.std.specs.Ordering.{nat_cmp, is_eq, is_le, ordering_then}
use Rattle.std.specs.Map.{keys_of}
use Rattle.std.specs.BTreeMap.{is_at}
use Rattle.std.specs.BTreeMap.Range.{range_contains, entries_between}
use Rattle.std.specs.Cmp.{nat_cmp_total}
use Rattle.std.specs.Cmp.Lexicographic.{options_total}
use Rattle.std.specs.FinMap.{nat_cmp-IsAntisymmetric}
use Rattle.std.specs.declared.ops.Bound.TheVariants.{Included, Unbounded}
use Rattle.std.specs.declared.cmp.Ordering.{Ordering}
use Rattle.std.specs.declared.cmp.Ordering.TheVariants.{Less, Equal, Greater}
use Rattle.std.proofs.lemmas.Bool.{cond-true, cond-false, false_from_ne_true}
use Rattle.std.proofs.lemmas.Bool.Decides.{nat_tests}
use Rattle.std.proofs.lemmas.Cmp.{tied_itself}
use Rattle.ug_adjout.specs.Tables.{value_at, IsTable}
use Rattle.ug_adjout.specs.Formatting.{fitting}
use Rattle.ug_adjout.specs.declared.seat.Seat.{Seat}
use Rattle.ug_adjout.specs.declared.slot.Slot.{Slot}
use Rattle.ug_adjout.specs.declared.waiting.Waiting.{Waiting}
use Rattle.ug_adjout.specs.Seats.{key_of}
use Rattle.ug_adjout.specs.Waits.{waiting_keys, keys_for}
use Rattle.ug_adjout.specs.Stored.{projected, projected_with, of_row}
use Rattle.ug_adjout.specs.Places.{slot_cmp, key_for, IsIndexed, of_value}
use Rattle.ug_adjout.proofs.Handles.{named_with, keys_at}
use Rattle.ug_adjout.proofs.Lists.{sorted_projected, value_at-projected}
use Rattle.ug_adjout.proofs.Slots.{slot, option_exact, tied, same_value, itself, at_slot, with_true}
use Rattle.ug_adjout.proofs.SameTables.{same_table}

zero_first : (n : ℕ) → is_le (nat_cmp 0 n) ≡ true
zero_first zero = refl
zero_first (suc n) = let less : nat_lt 0 (suc n) ≡ true = grind (arith, nat_tests) in ap is_le (cond-true (nat_lt 0 (suc n)) Less (cond (nat_eq 0 (suc n)) Equal Greater) less)

module _ (v : Option ℕ) where
  abbrev own : Slot → Bool
  own s = option_eq nat_eq s.value v

  own_by : (s : Slot) (r : Ordering) → option_cmp nat_cmp v s.value ≡ r → own s ≡ is_eq r
  own_by s r e = turned s.value v ∙ sym (tied v s.value) ∙ ap is_eq e
    where
      turned : (a b : Option ℕ) → option_eq nat_eq a b ≡ option_eq nat_eq b a
      turned None None = refl
      turned None (Some y) = refl
      turned (Some x) None = refl
      turned (Some x) (Some y) = grind (arith, nat_tests)

  abbrev from : Slot → Bool
  from s = range_contains slot_cmp (Included (slot v 0)) Unbounded s

  from_by : (s : Slot) (r : Ordering) → option_cmp nat_cmp v s.value ≡ r → from s ≡ is_le r
  from_by s Less e = ap (λ r. is_le (ordering_then r (nat_cmp 0 s.place)) && true) e
  from_by s Equal e = ap (λ r. is_le (ordering_then r (nat_cmp 0 s.place)) && true) e ∙ with_true _ ∙ zero_first s.place
  from_by s Greater e = ap (λ r. is_le (ordering_then r (nat_cmp 0 s.place)) && true) e

  above : (s t : Slot) → option_cmp nat_cmp v s.value ≡ Less → slot_cmp s t ≡ Less → own t ≡ false
  above s t e f = by (option_cmp nat_cmp s.value t.value) refl
    where
      less : (r : Ordering) (o : Ordering) → ordering_then r o ≡ Less → r ≡ Greater → ⊥
      less Less o h g = cc
      less Equal o h g = cc
      less Greater o h g = cc

      by : (r : Ordering) → option_cmp nat_cmp s.value t.value ≡ r → own t ≡ false
      by Less g = own_by t Less ((options_total nat_cmp_total).trans v s.value t.value e g)
      by Equal g = own_by t Less (ap (option_cmp nat_cmp v) (sym (option_exact s.value t.value g)) ∙ e)
      by Greater g = absurd (less _ (nat_cmp s.place t.place) f g)

  place_less : (s t : Slot) → own s ≡ true → own t ≡ true → slot_cmp s t ≡ Less → nat_cmp s.place t.place ≡ Less
  place_less s t a b e =
      let same : option_cmp nat_cmp s.value t.value ≡ Equal = ap (option_cmp nat_cmp s.value) (same_value t.value v b ∙ sym (same_value s.value v a)) ∙ tied_itself (options_total nat_cmp_total) s.value in
      sym (ap (λ r. ordering_then r (nat_cmp s.place t.place)) same) ∙ e

  place_at : (s : Slot) (p : ℕ) → own s ≡ true → is_at (slot_cmp (slot v p)) s ≡ is_at (nat_cmp p) s.place
  place_at s p e = at_slot v p s ∙ ap (λ z. option_eq nat_eq v z && is_at (nat_cmp p) s.place) (same_value s.value v e) ∙ ap (λ b. b && is_at (nat_cmp p) s.place) (itself v)

  not_at : (s : Slot) (p : ℕ) → own s ≡ false → is_at (slot_cmp (slot v p)) s ≡ false
  not_at s p e = at_slot v p s ∙ ap (λ b. b && is_at (nat_cmp p) s.place) (false_from_ne_true _ (λ f. let z = ap (λ x. option_eq nat_eq x v) (sym (same_value v s.value f)) ∙ itself v in cc))

  all_above : (s : Slot) (ss : List Slot) → option_cmp nat_cmp v s.value ≡ Less → AllByRecursion (λ t. slot_cmp s t ≡ Less) ss → AllByRecursion (λ t. own t ≡ false) ss
  all_above s [] e h = tt
  all_above s (t ∷ ss) e h = (above s t e h.0, all_above s ss e h.1)

  module _ {K : Type 0} where
    abbrev own_keys : List (Slot × K) → List (Slot × K)
    own_keys keys = filter (λ e. own e.0) keys

    abbrev from_keys : List (Slot × K) → List (Slot × K)
    from_keys keys = entries_between slot_cmp (Included (slot v 0)) Unbounded keys

    -- ---- those from the first slot of the value on, up to another value, are its own

    none_own : (keys : List (Slot × K)) → AllByRecursion (λ t. own t ≡ false) (keys_of keys) → own_keys keys ≡ []
    none_own [] h = refl
    none_own (e ∷ keys) h = cond-false _ (e ∷ own_keys keys) (own_keys keys) h.0 ∙ none_own keys h.1

    own_step : (s : Slot × K) (ss : List (Slot × K)) (r : Ordering) → option_cmp nat_cmp v s.0.value ≡ r → AllByRecursion (λ t. slot_cmp s.0 t ≡ Less) (keys_of ss) → of_value v (from_keys ss) ≡ own_keys ss
        → of_value v (from_keys (s ∷ ss)) ≡ own_keys (s ∷ ss)
    own_step s ss Less e h more =
        ap (of_value v) (cond-true _ (s ∷ from_keys ss) (from_keys ss) (from_by s.0 Less e)) ∙ cond-false _ (s ∷ of_value v (from_keys ss)) [] (own_by s.0 Less e)
        ∙ sym (cond-false _ (s ∷ own_keys ss) (own_keys ss) (own_by s.0 Less e) ∙ none_own ss (all_above s.0 (keys_of ss) e h))
    own_step s ss Equal e h more =
        ap (of_value v) (cond-true _ (s ∷ from_keys ss) (from_keys ss) (from_by s.0 Equal e)) ∙ cond-true _ (s ∷ of_value v (from_keys ss)) [] (own_by s.0 Equal e)
        ∙ ap (λ l. s ∷ l) more ∙ sym (cond-true _ (s ∷ own_keys ss) (own_keys ss) (own_by s.0 Equal e))
    own_step s ss Greater e h more =
        ap (of_value v) (cond-false _ (s ∷ from_keys ss) (from_keys ss) (from_by s.0 Greater e)) ∙ more
        ∙ sym (cond-false _ (s ∷ own_keys ss) (own_keys ss) (own_by s.0 Greater e))

    own_slots : (keys : List (Slot × K)) → IsTable slot_cmp keys → of_value v (from_keys keys) ≡ own_keys keys
    unfolding IsStrictlySortedBy
    own_slots [] s = refl
    own_slots (e ∷ keys) s = own_step e keys (option_cmp nat_cmp v e.0.value) refl s.0 (own_slots keys s.1)

    -- ---- and they are those that wait for it

    abbrev placed : List (Slot × K) → List (ℕ × Waiting K)
    placed keys = map (λ e. (e.0.place, record { key = e.1; value = v })) keys

    all_less : (s : Slot) (keys : List (Slot × K)) → own s ≡ true → AllByRecursion (λ t. slot_cmp s t ≡ Less) (keys_of keys) → AllByRecursion (λ p. nat_cmp s.place p ≡ Less) (keys_of (placed (own_keys keys)))
    all_less s [] a h = tt
    all_less s (e ∷ keys) a h = by (own e.0) refl (all_less s keys a h.1)
      where
        by : (b : Bool) → own e.0 ≡ b → AllByRecursion (λ p. nat_cmp s.place p ≡ Less) (keys_of (placed (own_keys keys)))
            → AllByRecursion (λ p. nat_cmp s.place p ≡ Less) (keys_of (placed (cond b (e ∷ own_keys keys) (own_keys keys))))
        by true at more = (place_less s e.0 a at h.0, more)
        by false at more = more

    placed_order : (keys : List (Slot × K)) → IsTable slot_cmp keys → IsTable nat_cmp (placed (own_keys keys))
    unfolding IsStrictlySortedBy
    placed_order [] s = tt
    placed_order (e ∷ keys) s = by (own e.0) refl (placed_order keys s.1)
      where
        by : (b : Bool) → own e.0 ≡ b → IsTable nat_cmp (placed (own_keys keys)) → IsTable nat_cmp (placed (cond b (e ∷ own_keys keys) (own_keys keys)))
        by true at more = (all_less e.0 keys at s.0, more)
        by false at more = more

    abbrev as_waiting : K → Waiting K
    as_waiting k = record { key = k; value = v }

    placed_at : (keys : List (Slot × K)) (p : ℕ) → value_at nat_cmp (placed (own_keys keys)) p ≡ option_map as_waiting (value_at slot_cmp keys (slot v p))
    placed_at [] p = refl
    placed_at (e ∷ keys) p = by (own e.0) refl (placed_at keys p)
      where
        out : (b : Bool) (o : Option K) → cond b (Some (as_waiting e.1)) (option_map as_waiting o) ≡ option_map as_waiting (cond b (Some e.1) o)
        out true o = refl
        out false o = refl

        by : (b : Bool) → own e.0 ≡ b → value_at nat_cmp (placed (own_keys keys)) p ≡ option_map as_waiting (value_at slot_cmp keys (slot v p))
            → value_at nat_cmp (placed (cond b (e ∷ own_keys keys) (own_keys keys))) p ≡ option_map as_waiting (value_at slot_cmp (e ∷ keys) (slot v p))
        by true at more =
            ap (cond (is_at (nat_cmp p) e.0.place) (Some (as_waiting e.1))) more
            ∙ out (is_at (nat_cmp p) e.0.place) (value_at slot_cmp keys (slot v p)) ∙ ap (λ b. option_map as_waiting (cond b (Some e.1) (value_at slot_cmp keys (slot v p)))) (sym (place_at e.0 p at))
        by false at more = more ∙ ap (option_map as_waiting) (sym (cond-false _ (Some e.1) (value_at slot_cmp keys (slot v p)) (not_at e.0 p at)))

    abbrev kept : Waiting K → Option (Waiting K)
    kept w = if option_eq nat_eq w.value v then Some w else None

    kept_keys : (b : Bool) (e : ℕ × Waiting K) (es : List (ℕ × Waiting K)) (rest : List (ℕ × Waiting K)) → waiting_keys es ≡ waiting_keys rest
        → waiting_keys (projected_with kept e.0 (if b then Some e.1 else None) es) ≡ waiting_keys (cond b (e ∷ rest) rest)
    kept_keys true e es rest h = ap (λ l. e.1.key ∷ l) h
    kept_keys false e es rest h = h

    keys_kept_are : (es : List (ℕ × Waiting K)) → waiting_keys (projected kept es) ≡ keys_for v es
    keys_kept_are [] = refl
    keys_kept_are (e ∷ es) = kept_keys (option_eq nat_eq e.1.value v) e (projected kept es) (filter (λ x. option_eq nat_eq x.1.value v) es) (keys_kept_are es)

    kept_at : (o : Option (Waiting K)) → option_map as_waiting (key_for v o) ≡ of_row kept o
    kept_at None = refl
    kept_at (Some w) = by (option_eq nat_eq w.value v) refl
      where
        by : (b : Bool) → option_eq nat_eq w.value v ≡ b → option_map as_waiting (cond b (Some w.key) None) ≡ (if b then Some w else None)
        by true e = ap Some (λ i. record { key = w.key; value = (sym (same_value w.value v e)) i })
        by false e = refl

    keys_placed : (keys : List (Slot × K)) → waiting_keys (placed keys) ≡ map (λ e. e.1) keys
    keys_placed [] = refl
    keys_placed (e ∷ keys) = ap (λ l. e.1 ∷ l) (keys_placed keys)

    pub keys_by_value : (keys : List (Slot × K)) (waiting : List (ℕ × Waiting K)) → IsIndexed keys waiting → (range : List (Slot × K)) → range ≡ from_keys keys → map (λ e. e.1) (of_value v range) ≡ keys_for v waiting
    keys_by_value keys waiting s range e =
        ap (λ l. map (λ x. x.1) (of_value v l)) e ∙ ap (map (λ x. x.1)) (own_slots keys s.in_order) ∙ sym (keys_placed (own_keys keys))
        ∙ ap waiting_keys (same_table nat_cmp_total nat_cmp-IsAntisymmetric (placed (own_keys keys)) (projected kept waiting) (placed_order keys s.in_order)
        (sorted_projected nat_cmp_total nat_cmp-IsAntisymmetric kept waiting s.in_line)
        (λ p. placed_at keys p ∙ ap (option_map as_waiting) (s.listed v p) ∙ kept_at (value_at nat_cmp waiting p) ∙ sym (value_at-projected nat_cmp_total nat_cmp-IsAntisymmetric kept waiting p s.in_line)))
        ∙ keys_kept_are waiting

-- the first of its keys
pub own_first : {K : Type 0} (v : Option ℕ) (e : Slot × K) (rest range : List (Slot × K)) → range ≡ e ∷ rest → option_eq nat_eq e.0.value v ≡ true → Some e.1 ≡ slice_get (map (λ x. x.1) (of_value v range)) 0
own_first v e rest range step own = sym (ap (λ l. slice_get (map (λ x. x.1) (of_value v l)) 0) step ∙ ap (λ b. slice_get (map (λ x. x.1) (cond b (e ∷ of_value v rest) [])) 0) own)

pub other_first : {K : Type 0} (v : Option ℕ) (e : Slot × K) (rest range : List (Slot × K)) → range ≡ e ∷ rest → option_eq nat_eq e.0.value v ≡ false → None ≡ slice_get (map (λ x. x.1) (of_value v range)) 0
other_first v e rest range step own = sym (ap (λ l. slice_get (map (λ x. x.1) (of_value v l)) 0) step ∙ ap (λ b. slice_get (map (λ x. x.1) (cond b (e ∷ of_value v rest) [])) 0) own)

-- a key more is taken
module _ {K : Type 0} (weigh : K → ℕ) (at : ℕ → Option (Seat K)) (keys whole : List K) (left : ℕ) (v : Option ℕ) (e : Slot × ℕ) (rest iter : List (Slot × ℕ))
    (step : iter ≡ e ∷ rest) (own : option_eq nat_eq e.0.value v ≡ true) (h : keys ++ fitting weigh left (keys_at at (map (λ x. x.1) (of_value v iter))) ≡ whole) where
  abbrev more : List K
  more = keys_at at (map (λ x. x.1) (of_value v rest))

  here : keys_at at (map (λ x. x.1) (of_value v iter)) ≡ named_with at (at e.1) more
  here = ap (λ l. keys_at at (map (λ x. x.1) (of_value v l))) step ∙ ap (λ b. keys_at at (map (λ x. x.1) (cond b (e ∷ of_value v rest) []))) own

  named_here : (key : K) → key_of (at e.1) ≡ Some key → keys_at at (map (λ x. x.1) (of_value v iter)) ≡ key ∷ more
  named_here key is = here ∙ by (at e.1) is
    where
      same_key : (a b : K) → Some a ≡ Some b → a ≡ b
      same_key a b t = cc

      by : (o : Option (Seat K)) → key_of o ≡ Some key → named_with at o more ≡ key ∷ more
      by None t = absurd cc
      by (Some seat) t = ap (λ k. k ∷ more) (same_key seat.key key t)

  pub taken : (key : K) (now : List K) (after : ℕ) → key_of (at e.1) ≡ Some key → nat_le (weigh key) left ≡ true → after ≡ left - weigh key → now ≡ keys ++ key ∷ [] → now ++ fitting weigh after more ≡ whole
  taken key now after is fits less put =
      ap (λ l. l ++ fitting weigh after more) put ∙ append_assoc keys (key ∷ []) (fitting weigh after more) ∙ ap (λ n. keys ++ key ∷ fitting weigh n more) less
      ∙ sym (ap (λ b. keys ++ cond b (key ∷ fitting weigh (left - weigh key) more) []) fits) ∙ ap (λ l. keys ++ fitting weigh left l) (sym (named_here key is)) ∙ h
