-- How the list of waiting keys is stored: the keys by what they wait for and then by place, and the announcements by place.
use Rattle.std.specs.Prelude.{◌≡◌, ℕ, ◌<◌, ◌≤◌, ◌^◌, nat_eq, Bool, true, false, not, is_some, cond, List, [], ◌∷◌, Option, Some, None}
use Rattle.std.specs.Option.{option_eq}
use Rattle.std.specs.Ordering.{nat_cmp}
use Rattle.std.specs.BTreeMap.{insert_entry}
use Rattle.std.specs.Cmp.{IsTotalOrder, nat_cmp_total, on_total, then_total}
use Rattle.std.specs.Cmp.Lexicographic.{options_total}
use Rattle.std.specs.declared.cmp.Ordering.{Ordering}
use Rattle.ug_adjout.specs.Tables.{value_at, IsTable}
use Rattle.ug_adjout.specs.declared.slot.Slot.{Slot}
use Rattle.ug_adjout.specs.declared.waiting.Waiting.{Waiting}
use Rattle.ug_adjout.specs.contracts.slot.SlotOrd.TheImpl as slot_ord
use Rattle.ug_adjout.specs.Stored.{projected}

-- slots stand by value, those without one first, and then by place
abbrev pub slot_cmp : Slot → Slot → Ordering
slot_cmp = slot_ord.ghosts.cmp

pub slot_total : IsTotalOrder slot_cmp
slot_total = then_total (on_total (λ (s : Slot). s.value) (options_total nat_cmp_total)) (on_total (λ (s : Slot). s.place) nat_cmp_total)

module _ {K : Type 0} where
  abbrev pub value_of : Waiting K → Option ℕ
  value_of w = w.value

  -- the key that waits, where it waits for this value
  abbrev pub key_for : Option ℕ → Option (Waiting K) → Option K
  key_for value None = None
  key_for value (Some w) = cond (option_eq nat_eq w.value value) (Some w.key) None

  -- what waits, by place
  abbrev pub by_place : List (Slot × K) → List (ℕ × Waiting K)
  by_place [] = []
  by_place (e ∷ keys) = insert_entry nat_cmp (by_place keys) e.0.place (record { key = e.1; value = e.0.value })

  -- each key stands at the slot of what it waits for and of its place, and at no other
  pub record IsIndexed (keys : List (Slot × K)) (waiting : List (ℕ × Waiting K)) : Type 0 where
    pub in_line : IsTable nat_cmp waiting
    pub in_order : IsTable slot_cmp keys
    pub listed : (value : Option ℕ) (place : ℕ) → value_at slot_cmp keys (record { value = value; place = place }) ≡ key_for value (value_at nat_cmp waiting place)

  pub record IsLine (keys : List (Slot × K)) (announced : List (ℕ × ℕ)) : Type 0 where
    pub indexed : IsIndexed keys (by_place keys)
    pub values : announced ≡ projected value_of (by_place keys)

  -- the keys up to the first of another value
  abbrev pub of_value : Option ℕ → List (Slot × K) → List (Slot × K)
  of_value value [] = []
  of_value value (e ∷ keys) = cond (option_eq nat_eq e.0.value value) (e ∷ of_value value keys) []

  -- the first from the place on of those that wait for such a value
  abbrev pub IsFirstFrom : (Option ℕ → Bool) → ℕ → List (ℕ × Waiting K) → Option (ℕ × Waiting K) → Type 0
  IsFirstFrom test place waiting None = (p : ℕ) (w : Waiting K) → value_at nat_cmp waiting p ≡ Some w → place ≤ p → test w.value ≡ false
  IsFirstFrom test place waiting (Some e) =
      (place ≤ e.0) × (value_at nat_cmp waiting e.0 ≡ Some e.1) × ((p : ℕ) (w : Waiting K) → value_at nat_cmp waiting p ≡ Some w → place ≤ p → test w.value ≡ true → e.0 ≤ p)

  -- none of those that wait for such a value stands from the place on and before the end
  abbrev pub IsNoneBetween : (Option ℕ → Bool) → ℕ → ℕ → List (ℕ × Waiting K) → Type 0
  IsNoneBetween test place end waiting = (p : ℕ) (w : Waiting K) → value_at nat_cmp waiting p ≡ Some w → place ≤ p → p < end → test w.value ≡ false

  -- their places are numbers of 32 bits
  abbrev pub AreNumbered : (Option ℕ → Bool) → List (ℕ × Waiting K) → Type 0
  AreNumbered test waiting = (p : ℕ) (w : Waiting K) → value_at nat_cmp waiting p ≡ Some w → test w.value ≡ true → p < 2 ^ 32

abbrev pub withdraws : Option ℕ → Bool
withdraws value = not (is_some value)

abbrev pub announces : Option ℕ → Bool
announces value = is_some value
