-- The slots of the waiting keys, their order, and a change at one place.
use Rattle.std.proofs.Common.{◌≡◌, ℕ, Bool, true, false, cond, ◌&&◌, List, Option, Some, None, refl, sym, ap, ◌∙◌}
use Rattle.std.specs.Prelude.{nat_eq}
use Rattle.std.specs.Option.{option_eq, option_cmp}
use Rattle.std.specs.Ordering.{nat_cmp, is_eq}
use Rattle.std.specs.BTreeMap.{is_at}
use Rattle.std.specs.Cmp.{nat_cmp_total, tied_then, unsigned_tied}
use Rattle.std.specs.Cmp.Lexicographic.{options_total}
use Rattle.std.specs.FinMap.{IsAntisymmetric, nat_cmp-IsAntisymmetric}
use Rattle.std.specs.declared.cmp.Ordering.TheVariants.{Equal}
use Rattle.std.proofs.lemmas.Cmp.{tied_itself}
use Rattle.ug_types.specs.OrderLaws.{then_both, same_on}
use Rattle.ug_adjout.specs.Tables.{value_at, with_value, IsTable}
use Rattle.ug_adjout.specs.TableLaws.{equal_is, at_itself, value_at-here, value_at-other, with_value-sorted}
use Rattle.ug_adjout.specs.declared.slot.Slot.{Slot}
use Rattle.ug_adjout.specs.declared.waiting.Waiting.{Waiting}
use Rattle.ug_adjout.specs.Places.{slot_cmp, slot_total, key_for, IsIndexed}
use Rattle.ug_adjout.proofs.Steps.{at_number}

abbrev pub slot : Option ℕ → ℕ → Slot
slot value place = record { value = value; place = place }

-- ---- their order

pub option_exact : (a b : Option ℕ) → option_cmp nat_cmp a b ≡ Equal → a ≡ b
option_exact None None e = refl
option_exact None (Some y) e = absurd cc
option_exact (Some x) None e = absurd cc
option_exact (Some x) (Some y) e = ap Some (nat_cmp-IsAntisymmetric x y e)

pub slot_exact : IsAntisymmetric slot_cmp
slot_exact a b e =
    let parts = then_both _ _ e in
    let value = option_exact a.value b.value parts.0 in
    let place = nat_cmp-IsAntisymmetric a.place b.place parts.1 in
    same_on {B = Option ℕ × ℕ} (λ (x : Slot). (x.value, x.place)) (λ p. record { value = p.0; place = p.1 }) (λ x. refl) a b cc

pub tied : (a b : Option ℕ) → is_eq (option_cmp nat_cmp a b) ≡ option_eq nat_eq a b
tied None None = refl
tied None (Some y) = refl
tied (Some x) None = refl
tied (Some x) (Some y) = unsigned_tied x y

pub same_value : (a b : Option ℕ) → option_eq nat_eq a b ≡ true → a ≡ b
same_value a b e = option_exact a b (equal_is (option_cmp nat_cmp a b) (tied a b ∙ e))

pub itself : (a : Option ℕ) → option_eq nat_eq a a ≡ true
itself a = sym (tied a a) ∙ ap is_eq (tied_itself (options_total nat_cmp_total) a)

pub at_slot : (v : Option ℕ) (p : ℕ) (s : Slot) → is_at (slot_cmp (slot v p)) s ≡ (option_eq nat_eq v s.value && is_at (nat_cmp p) s.place)
at_slot v p s = sym (tied_then (option_cmp nat_cmp v s.value) (nat_cmp p s.place)) ∙ ap (λ b. b && is_at (nat_cmp p) s.place) (tied v s.value)

pub with_true : (b : Bool) → (b && true) ≡ b
with_true true = refl
with_true false = refl

with_false : (b : Bool) → (b && false) ≡ false
with_false true = refl
with_false false = refl

-- at one place a slot is that of its value
at_value : (v u : Option ℕ) (p : ℕ) → is_at (slot_cmp (slot v p)) (slot u p) ≡ option_eq nat_eq v u
at_value v u p =
    at_slot v p (slot u p) ∙ ap (λ b. option_eq nat_eq v u && b) (at_itself nat_cmp_total nat_cmp-IsAntisymmetric p) ∙ with_true (option_eq nat_eq v u)

pub at_other : (v u : Option ℕ) (p q : ℕ) → is_at (nat_cmp p) q ≡ false → is_at (slot_cmp (slot v p)) (slot u q) ≡ false
at_other v u p q e = at_slot v p (slot u q) ∙ ap (λ b. option_eq nat_eq v u && b) e ∙ with_false (option_eq nat_eq v u)

-- ---- a change at one place

module _ {K : Type 0} (keys : List (Slot × K)) (in_order : IsTable slot_cmp keys) (place : ℕ) (u : Option ℕ) (x : Option K) where
  here_by : (v : Option ℕ) (b : Bool) → option_eq nat_eq v u ≡ b → value_at slot_cmp (with_value slot_cmp keys (slot u place) x) (slot v place) ≡ cond b x (value_at slot_cmp keys (slot v place))
  here_by v true e = ap (λ o. value_at slot_cmp (with_value slot_cmp keys (slot u place) x) (slot o place)) (same_value v u e) ∙ value_at-here slot_total slot_exact keys (slot u place) x in_order
  here_by v false e = value_at-other slot_total slot_exact keys (slot u place) (slot v place) x (at_value v u place ∙ e)

  here : (v : Option ℕ) → value_at slot_cmp (with_value slot_cmp keys (slot u place) x) (slot v place) ≡ cond (option_eq nat_eq v u) x (value_at slot_cmp keys (slot v place))
  here v = here_by v (option_eq nat_eq v u) refl

  other : (v : Option ℕ) (p : ℕ) → is_at (nat_cmp p) place ≡ false → value_at slot_cmp (with_value slot_cmp keys (slot u place) x) (slot v p) ≡ value_at slot_cmp keys (slot v p)
  other v p e = value_at-other slot_total slot_exact keys (slot u place) (slot v p) x (at_other v u p place e)

module _ {K : Type 0} (keys later : List (Slot × K)) (waiting : List (ℕ × Waiting K)) (s : IsIndexed keys waiting) (place : ℕ) (in_order : IsTable slot_cmp later) (w : Option (Waiting K))
    (at_place : (v : Option ℕ) → value_at slot_cmp later (slot v place) ≡ key_for v w)
    (elsewhere : (v : Option ℕ) (p : ℕ) → is_at (nat_cmp p) place ≡ false → value_at slot_cmp later (slot v p) ≡ value_at slot_cmp keys (slot v p)) where
  listed_case : (b : Bool) (v : Option ℕ) (p : ℕ) → is_at (nat_cmp p) place ≡ b → value_at slot_cmp later (slot v p) ≡ key_for v (value_at nat_cmp (with_value nat_cmp waiting place w) p)
  listed_case true v p at =
      let same = at_number p place at in
      ap (λ q. value_at slot_cmp later (slot v q)) same ∙ at_place v
      ∙ sym (ap (key_for v) (ap (value_at nat_cmp (with_value nat_cmp waiting place w)) same ∙ value_at-here nat_cmp_total nat_cmp-IsAntisymmetric waiting place w s.in_line))
  listed_case false v p at = elsewhere v p at ∙ s.listed v p ∙ sym (ap (key_for v) (value_at-other nat_cmp_total nat_cmp-IsAntisymmetric waiting place p w at))

  indexed : IsIndexed later (with_value nat_cmp waiting place w)
  indexed = record {
    in_line = with_value-sorted nat_cmp_total nat_cmp-IsAntisymmetric waiting place w s.in_line;
    in_order = in_order;
    listed = λ v p. listed_case (is_at (nat_cmp p) place) v p refl;
  }

turned : (a b : Option ℕ) → option_eq nat_eq a b ≡ option_eq nat_eq b a
turned a b = by (option_eq nat_eq a b) (option_eq nat_eq b a) refl refl
  where
    by : (x y : Bool) → option_eq nat_eq a b ≡ x → option_eq nat_eq b a ≡ y → option_eq nat_eq a b ≡ option_eq nat_eq b a
    by true y e f = e ∙ sym (ap (λ o. option_eq nat_eq o a) (sym (same_value a b e)) ∙ itself a)
    by false true e f = ap (λ o. option_eq nat_eq a o) (same_value b a f) ∙ itself a ∙ sym f
    by false false e f = e ∙ sym f

module _ {K : Type 0} (keys : List (Slot × K)) (waiting : List (ℕ × Waiting K)) (s : IsIndexed keys waiting) (place : ℕ) where
  -- a key comes to a free place
  pub indexed_added : (w : Waiting K) → value_at nat_cmp waiting place ≡ None → IsIndexed (with_value slot_cmp keys (slot w.value place) (Some w.key)) (with_value nat_cmp waiting place (Some w))
  indexed_added w none =
      indexed keys _ waiting s place (with_value-sorted slot_total slot_exact keys (slot w.value place) (Some w.key) s.in_order) (Some w)
      (λ v. here keys s.in_order place w.value (Some w.key) v ∙ ap (cond (option_eq nat_eq v w.value) (Some w.key)) (s.listed v place ∙ ap (key_for v) none)
      ∙ ap (λ b. cond b (Some w.key) None) (turned v w.value))
      (other keys s.in_order place w.value (Some w.key))

  module _ (was : Waiting K) (is : value_at nat_cmp waiting place ≡ Some was) where
    -- the key at the place goes
    pub indexed_gone : IsIndexed (with_value slot_cmp keys (slot was.value place) None) (with_value nat_cmp waiting place None)
    indexed_gone =
        indexed keys _ waiting s place (with_value-sorted slot_total slot_exact keys (slot was.value place) None s.in_order) None
        (λ v. here keys s.in_order place was.value None v ∙ ap (cond (option_eq nat_eq v was.value) None) (s.listed v place ∙ ap (key_for v) is)
        ∙ ap (λ b. cond b None (cond (option_eq nat_eq was.value v) (Some was.key) None)) (turned v was.value) ∙ so (option_eq nat_eq was.value v))
        (other keys s.in_order place was.value None)
      where
        so : (b : Bool) → cond b None (cond b (Some was.key) None) ≡ None
        so true = refl
        so false = refl

    -- it comes to another slot of the place, and leaves the one where it was
    pub indexed_moved : (v : Option ℕ) → option_eq nat_eq was.value v ≡ false
        → IsIndexed (with_value slot_cmp (with_value slot_cmp keys (slot v place) (Some was.key)) (slot was.value place) None) (with_value nat_cmp waiting place (Some (record { key = was.key; value = v })))
    indexed_moved u apart =
        indexed keys _ waiting s place (with_value-sorted slot_total slot_exact between (slot was.value place) None between_order) (Some (record { key = was.key; value = u }))
        (λ v. here between between_order place was.value None v ∙ ap (cond (option_eq nat_eq v was.value) None) (here keys s.in_order place u (Some was.key) v
        ∙ ap (cond (option_eq nat_eq v u) (Some was.key)) (s.listed v place ∙ ap (key_for v) is)) ∙ by v (option_eq nat_eq v was.value) (option_eq nat_eq v u) refl refl)
        (λ v p e. other between between_order place was.value None v p e ∙ other keys s.in_order place u (Some was.key) v p e)
      where
        between : List (Slot × K)
        between = with_value slot_cmp keys (slot u place) (Some was.key)

        between_order : IsTable slot_cmp between
        between_order = with_value-sorted slot_total slot_exact keys (slot u place) (Some was.key) s.in_order

        by : (v : Option ℕ) (a b : Bool) → option_eq nat_eq v was.value ≡ a → option_eq nat_eq v u ≡ b
            → cond (option_eq nat_eq v was.value) None (cond (option_eq nat_eq v u) (Some was.key) (cond (option_eq nat_eq was.value v) (Some was.key) None)) ≡ cond (option_eq nat_eq u v) (Some was.key) None
        by v true true e f = absurd (let z = ap (λ o. option_eq nat_eq o v) (sym (same_value v was.value e)) in let t = sym apart ∙ ap (λ o. option_eq nat_eq was.value o) (sym (same_value v u f)) ∙ turned was.value v ∙ e in cc)
        by v true false e f = ap (λ b. cond b None (cond (option_eq nat_eq v u) (Some was.key) (cond (option_eq nat_eq was.value v) (Some was.key) None))) e ∙ sym (ap (λ b. cond b (Some was.key) None) (turned u v ∙ f))
        by v false true e f =
            ap (λ b. cond b None (cond (option_eq nat_eq v u) (Some was.key) (cond (option_eq nat_eq was.value v) (Some was.key) None))) e
            ∙ ap (λ b. cond b (Some was.key) (cond (option_eq nat_eq was.value v) (Some was.key) None)) f ∙ sym (ap (λ b. cond b (Some was.key) None) (turned u v ∙ f))
        by v false false e f =
            ap (λ b. cond b None (cond (option_eq nat_eq v u) (Some was.key) (cond (option_eq nat_eq was.value v) (Some was.key) None))) e
            ∙ ap (λ b. cond b (Some was.key) (cond (option_eq nat_eq was.value v) (Some was.key) None)) f ∙ ap (λ b. cond b (Some was.key) None) (turned was.value v ∙ e)
            ∙ sym (ap (λ b. cond b (Some was.key) None) (turned u v ∙ f))

  -- no other slot of a place has a key
  pub free_slot : (v : Option ℕ) (o : Option (Waiting K)) → value_at nat_cmp waiting place ≡ o → key_for v o ≡ None → value_at slot_cmp keys (slot v place) ≡ None
  free_slot v o is none = s.listed v place ∙ ap (key_for v) is ∙ none
