-- What waits first from a place on: a withdrawal or an announcement.
use Rattle.std.proofs.Common.{◌≡◌, ℕ, ◌<◌, ◌≤◌, Bool, true, false, List, [], ◌∷◌, slice_get, Option, Some, None, refl, sym, ap, subst, ◌∙◌, arith}
use Rattle.std.specs.Prelude.{◌^◌, is_some, IsSome, IfSome, IfNone, nat_le}
use Rattle.std.specs.List.{AllByRecursion}
use Rattle.std.specs.Option.{option_cmp}
use Rattle.std.specs.Ordering.{nat_cmp, is_gt, ordering_then}
use Rattle.std.specs.Map.{keys_of}
use Rattle.std.specs.BTreeMap.{is_at}
use Rattle.std.specs.BTreeMap.Range.{IsLeBy}
use Rattle.std.specs.Cmp.{nat_cmp_total}
use Rattle.std.specs.FinMap.{nat_cmp-IsAntisymmetric}
use Rattle.std.specs.declared.cmp.Ordering.TheVariants.{Less}
use Rattle.std.proofs.lemmas.Bool.{cond-true, cond-false}
use Rattle.std.proofs.lemmas.Bool.Decides.{nat_tests}
use Rattle.std.proofs.lemmas.Map.Keys.{sorted_head, sorted_tail}
use Rattle.ug_adjout.specs.Tables.{value_at, IsTable}
use Rattle.ug_adjout.specs.declared.slot.Slot.{Slot}
use Rattle.ug_adjout.specs.declared.waiting.Waiting.{Waiting}
use Rattle.ug_adjout.specs.Waits.{from_place}
use Rattle.ug_adjout.specs.Stored.{of_row}
use Rattle.ug_adjout.specs.Places.{slot_cmp, value_of, key_for, by_place, withdraws, announces, IsIndexed, IsLine, IsFirstFrom, IsNoneBetween, AreNumbered}
use Rattle.ug_adjout.proofs.Lists.{first_lookup, tail_lookup, value_at-projected}
use Rattle.ug_adjout.proofs.Steps.{at_number}
use Rattle.ug_adjout.proofs.Slots.{slot, itself}
use Rattle.ug_adjout.proofs.SameTables.{same_some}
use Rattle.ug_adjout.proofs.ByPlace.{told}
use Rattle.ug_adjout.proofs.Numbers.{from_yes, from_no, from_less}

le_by : (n p : ℕ) → n ≤ p → IsLeBy nat_cmp n p
le_by n p le = grind (arith, nat_tests)

from_le_by : (n p : ℕ) → IsLeBy nat_cmp n p → n ≤ p
from_le_by n p e = grind (arith, nat_tests)

module _ {K : Type 0} where
  -- ---- of both kinds

  abbrev pub IsFirst : ℕ → List (ℕ × Waiting K) → Option (ℕ × Waiting K) → Type 0
  IsFirst place waiting None = (p : ℕ) (w : Waiting K) → value_at nat_cmp waiting p ≡ Some w → place ≤ p → ⊥
  IsFirst place waiting (Some e) = (place ≤ e.0) × (value_at nat_cmp waiting e.0 ≡ Some e.1) × ((p : ℕ) (w : Waiting K) → value_at nat_cmp waiting p ≡ Some w → place ≤ p → e.0 ≤ p)

  behind : (k : ℕ) (es : List (ℕ × Waiting K)) (p : ℕ) (w : Waiting K) → AllByRecursion (λ y. nat_cmp k y ≡ Less) (keys_of es) → value_at nat_cmp es p ≡ Some w → k < p
  behind k [] p w h e = absurd cc
  behind k (x ∷ es) p w h e = by (is_at (nat_cmp p) x.0) refl (behind k es p w h.1)
    where
      by : (b : Bool) → is_at (nat_cmp p) x.0 ≡ b → (value_at nat_cmp es p ≡ Some w → k < p) → k < p
      by true at more = subst (λ q. k < q) (sym (at_number p x.0 at)) (from_less k x.0 h.0)
      by false at more = more (sym (cond-false _ (Some x.1) (value_at nat_cmp es p) at) ∙ e)

  -- the first of the list, where it stands from the place on
  head_is : (place : ℕ) (x : ℕ × Waiting K) (es : List (ℕ × Waiting K)) (o : Option (ℕ × Waiting K)) → IsTable nat_cmp (x ∷ es) → place ≤ x.0 → IsFirst place (x ∷ es) o → o ≡ Some x
  head_is place x es None s le h = absurd (h x.0 x.1 (first_lookup x es) le)
  head_is place x es (Some e) s le h = by (is_at (nat_cmp e.0) x.0) refl
    where
      by : (b : Bool) → is_at (nat_cmp e.0) x.0 ≡ b → Some e ≡ Some x
      by true at = let same = same_some x.1 e.1 (sym (cond-true _ (Some x.1) (value_at nat_cmp es e.0) at) ∙ h.1) in ap Some (λ i. ((at_number e.0 x.0 at) i, (sym same) i))
      by false at = absurd (
          let lt = behind x.0 es e.0 e.1 (sorted_head nat_cmp x.0 (keys_of es) s) (sym (cond-false _ (Some x.1) (value_at nat_cmp es e.0) at) ∙ h.1) in
          let ge = h.2 x.0 x.1 (first_lookup x es) le in omega (arith, lt, ge))

  -- else the first of the others
  tail_first : (place : ℕ) (x : ℕ × Waiting K) (es : List (ℕ × Waiting K)) (o : Option (ℕ × Waiting K)) → IsTable nat_cmp (x ∷ es) → x.0 < place → IsFirst place (x ∷ es) o → IsFirst place es o
  tail_first place x es None s lt h = λ p w at le. h p w (tail_lookup x es p w s at) le
  tail_first place x es (Some e) s lt h = (h.0, there, λ p w at le. h.2 p w (tail_lookup x es p w s at) le)
    where
      by : (b : Bool) → is_at (nat_cmp e.0) x.0 ≡ b → value_at nat_cmp es e.0 ≡ Some e.1
      by true at = absurd (let same = at_number e.0 x.0 at in let le = h.0 in omega (arith, same, le, lt))
      by false at = sym (cond-false _ (Some x.1) (value_at nat_cmp es e.0) at) ∙ h.1

      there : value_at nat_cmp es e.0 ≡ Some e.1
      there = by (is_at (nat_cmp e.0) x.0) refl

  pub found : (place : ℕ) (waiting : List (ℕ × Waiting K)) (o : Option (ℕ × Waiting K)) → IsTable nat_cmp waiting → IsFirst place waiting o → o ≡ slice_get (from_place place waiting) 0
  found place [] None s h = refl
  found place [] (Some e) s h = absurd (let z = h.1 in cc)
  found place (x ∷ es) o s h = by (nat_le place x.0) refl (found place es o (sorted_tail nat_cmp x.0 (keys_of es) s))
    where
      by : (b : Bool) → nat_le place x.0 ≡ b → (IsFirst place es o → o ≡ slice_get (from_place place es) 0) → o ≡ slice_get (from_place place (x ∷ es)) 0
      by true at more = head_is place x es o s (from_yes place x.0 at) h ∙ sym (ap (λ l. slice_get l 0) (cond-true _ (x ∷ from_place place es) (from_place place es) at))
      by false at more =
          more (tail_first place x es o s (from_no place x.0 at) h)
          ∙ sym (ap (λ l. slice_get l 0) (cond-false _ (x ∷ from_place place es) (from_place place es) at))

  module _ (place : ℕ) (waiting : List (ℕ × Waiting K)) where
    either : (v : Option ℕ) → withdraws v ≡ false → announces v ≡ false → ⊥
    either None e f = cc
    either (Some v) e f = cc

    kind : (v : Option ℕ) (P : Type 0) → (withdraws v ≡ true → P) → (announces v ≡ true → P) → P
    kind None P f g = f refl
    kind (Some v) P f g = g refl

    pub no_withdrawal : (o : Option (ℕ × Waiting K)) → IsFirstFrom withdraws place waiting None → IsFirstFrom announces place waiting o → IsFirst place waiting o
    no_withdrawal None h g = λ p w at le. either w.value (h p w at le) (g p w at le)
    no_withdrawal (Some e) h g = (g.0, g.1, λ p w at le. kind w.value _ (λ t. absurd (let z = sym t ∙ h p w at le in cc)) (λ t. g.2 p w at le t))

    -- announcements up to the first withdrawal are none
    pub withdrawal_first : (e : ℕ × Waiting K) → IsFirstFrom withdraws place waiting (Some e) → IsNoneBetween announces place e.0 waiting → IsFirst place waiting (Some e)
    withdrawal_first e h none = (h.0, h.1, λ p w at from. kind w.value _ (λ t. h.2 p w at from t) (λ t. by p w at from t (nat_le e.0 p) refl))
      where
        by : (p : ℕ) (w : Waiting K) → value_at nat_cmp waiting p ≡ Some w → place ≤ p → announces w.value ≡ true → (b : Bool) → nat_le e.0 p ≡ b → e.0 ≤ p
        by p w at from t true le = from_yes e.0 p le
        by p w at from t false lt = absurd (let z = sym t ∙ none p w at from (from_no e.0 p lt) in cc)

    -- announcements up to the end of all numbers are all
    pub first_of_all : (o : Option (ℕ × Waiting K)) → IfSome o (λ e. IsFirstFrom announces place waiting (Some e)) → IfNone o (IsNoneBetween announces place (2 ^ 32) waiting) → AreNumbered announces waiting
        → IsFirstFrom announces place waiting o
    first_of_all (Some e) some none small = some
    first_of_all None some none small = λ p w at from. by p w at from (announces w.value) refl
      where
        by : (p : ℕ) (w : Waiting K) → value_at nat_cmp waiting p ≡ Some w → place ≤ p → (b : Bool) → announces w.value ≡ b → announces w.value ≡ false
        by p w at from true t = none p w at from (small p w at t)
        by p w at from false t = t

    pub announcement_first : (e f : ℕ × Waiting K) → IsFirstFrom withdraws place waiting (Some e) → IsFirstFrom announces place waiting (Some f) → f.0 ≤ e.0 → IsFirst place waiting (Some f)
    announcement_first e f h g le = (g.0, g.1, λ p w at from. kind w.value _ (λ t. let m = h.2 p w at from t in omega (arith, m, le)) (λ t. g.2 p w at from t))

  -- ---- withdrawals, by their slots

  module _ (keys : List (Slot × K)) (waiting : List (ℕ × Waiting K)) (s : IsIndexed keys waiting) (place : ℕ) where
    withdrawn : (v : Option ℕ) → withdraws v ≡ true → v ≡ None
    withdrawn None e = refl
    withdrawn (Some v) e = absurd cc

    its_slot : (p : ℕ) (w : Waiting K) → value_at nat_cmp waiting p ≡ Some w → value_at slot_cmp keys (slot w.value p) ≡ Some w.key
    its_slot p w at = s.listed w.value p ∙ ap (key_for w.value) at ∙ cond-true _ (Some w.key) None (itself w.value)

    withdrawal_slot : (p : ℕ) (w : Waiting K) → value_at nat_cmp waiting p ≡ Some w → withdraws w.value ≡ true → value_at slot_cmp keys (slot None p) ≡ Some w.key
    withdrawal_slot p w at t = ap (λ v. value_at slot_cmp keys (slot v p)) (sym (withdrawn w.value t)) ∙ its_slot p w at

    false_of : (b : Bool) → (b ≡ true → ⊥) → b ≡ false
    false_of true h = absurd (h refl)
    false_of false h = refl

    pub none_withdrawn : ((q : Slot) → IsLeBy slot_cmp (slot None place) q → value_at slot_cmp keys q ≡ None) → IsFirstFrom withdraws place waiting None
    none_withdrawn none = λ p w at le. false_of (withdraws w.value) (λ t. let z = sym (withdrawal_slot p w at t) ∙ none (slot None p) (le_by place p le) in cc)

    module _ (first : Slot) (key : K) (least : (q : Slot) → IsLeBy slot_cmp (slot None place) q → IsSome (value_at slot_cmp keys q) → IsLeBy slot_cmp first q) where
      behind_all : (v : Option ℕ) → first.value ≡ v → is_some v ≡ true → (p : ℕ) → IsLeBy slot_cmp first (slot None p) → ⊥
      behind_all None e t p le = cc
      behind_all (Some x) e t p le = let z = sym (ap (λ o. is_gt (ordering_then (option_cmp nat_cmp o None) (nat_cmp first.place p))) e) ∙ le in cc

      pub none_before : is_some first.value ≡ true → IsFirstFrom withdraws place waiting None
      none_before some = λ p w at le. false_of (withdraws w.value) (λ t. behind_all first.value refl some p (least (slot None p) (le_by place p le) (ap is_some (withdrawal_slot p w at t))))

      none_is : (v : Option ℕ) → is_some v ≡ false → v ≡ None
      none_is None e = refl
      none_is (Some x) e = absurd cc

      pub first_withdrawal_is : is_some first.value ≡ false → IsLeBy slot_cmp (slot None place) first → value_at slot_cmp keys first ≡ Some key
          → IsFirstFrom withdraws place waiting (Some (first.place, record { key = key; value = None }))
      first_withdrawal_is none above is =
          let none : first.value ≡ None = none_is first.value none in (
            from_le_by place first.place (sym (ap (λ o. is_gt (ordering_then (option_cmp nat_cmp None o) (nat_cmp place first.place))) none) ∙ above),
            told keys waiting s None first.place key (ap (λ o. value_at slot_cmp keys (slot o first.place)) (sym none) ∙ is),
            λ p w at le t. from_le_by first.place p (sym (ap (λ o. is_gt (ordering_then (option_cmp nat_cmp o None) (nat_cmp first.place p))) none)
                ∙ least (slot None p) (le_by place p le) (ap is_some (withdrawal_slot p w at t))),
          )

  -- ---- announcements, by their places

  module _ (keys : List (Slot × K)) (announced : List (ℕ × ℕ)) (s : IsLine keys announced) (place : ℕ) where
    value_there : (p : ℕ) → value_at nat_cmp announced p ≡ of_row value_of (value_at nat_cmp (by_place keys) p)
    value_there p = ap (λ l. value_at nat_cmp l p) s.values ∙ value_at-projected nat_cmp_total nat_cmp-IsAntisymmetric value_of (by_place keys) p s.indexed.in_line

    value_is : (p : ℕ) (w : Waiting K) → value_at nat_cmp (by_place keys) p ≡ Some w → value_at nat_cmp announced p ≡ w.value
    value_is p w at = value_there p ∙ ap (of_row value_of) at

    pub none_announced : (end : ℕ) → ((q : ℕ) → place ≤ q → q < end → value_at nat_cmp announced q ≡ None) → IsNoneBetween announces place end (by_place keys)
    none_announced end none = λ p w at le lt. ap is_some (sym (value_is p w at) ∙ none p le lt)

    pub announced_numbered : ((q : ℕ) → IsSome (value_at nat_cmp announced q) → q < 2 ^ 32) → AreNumbered announces (by_place keys)
    announced_numbered small = λ p w at t. small p (ap is_some (value_is p w at) ∙ t)

    pub announced_slot : (p v : ℕ) → value_at nat_cmp announced p ≡ Some v → value_at slot_cmp keys (slot (Some v) p) ≡ None → ⊥
    announced_slot p v at none = by (value_at nat_cmp (by_place keys) p) refl
      where
        by : (o : Option (Waiting K)) → value_at nat_cmp (by_place keys) p ≡ o → ⊥
        by None e = let z = sym at ∙ value_there p ∙ ap (of_row value_of) e in cc
        by (Some w) e =
            let is : w.value ≡ Some v = sym (value_is p w e) ∙ at in
            let z = sym (its_slot keys (by_place keys) s.indexed place p w e) ∙ ap (λ u. value_at slot_cmp keys (slot u p)) is ∙ none in cc

    pub first_announcement_is : (p v : ℕ) (key : K) → place ≤ p → ((q : ℕ) → place ≤ q → IsSome (value_at nat_cmp announced q) → p ≤ q)
        → value_at slot_cmp keys (slot (Some v) p) ≡ Some key → IsFirstFrom announces place (by_place keys) (Some (p, record { key = key; value = Some v }))
    first_announcement_is p v key above least is = (
      above,
      told keys (by_place keys) s.indexed (Some v) p key is,
      λ q w at le t. least q le (ap is_some (value_is q w at) ∙ t),
    )
