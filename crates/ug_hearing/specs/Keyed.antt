-- Values by key.
use Rattle.std.specs.Prelude.{◌≡◌, ◌<◌, ◌≤◌, ℕ, true, List, [], ◌∷◌, Option, Some, None, slice_get}
use Rattle.std.specs.Map.{lookup}
use Rattle.ug_types.specs.declared.key.Key.{Key}
use Rattle.ug_types.specs.Keys.{same_key}
use Rattle.ug_message.specs.Tables.{among}

-- the value of a key, where it has one
abbrev pub value_for : {V : Type 0} → List (Key × V) → Key → Option V
value_for entries key = lookup (same_key key) entries

-- the items of a list, where there is one
abbrev pub items_or_none : {T : Type 0} → Option (List T) → List T
items_or_none None = []
items_or_none (Some items) = items

-- the list of a key
abbrev pub list_for : {T : Type 0} → List (Key × List T) → Key → List T
list_for entries key = items_or_none (value_for entries key)

-- keys, each with the value at its place
abbrev pub pairs_of : {V : Type 0} → List Key → List V → List (Key × V)
pairs_of [] values = []
pairs_of (k ∷ keys) [] = []
pairs_of (k ∷ keys) (v ∷ values) = (k, v) ∷ pairs_of keys values

-- the key stands at this place
abbrev pub IsPlaceOf : Key → List Key → ℕ → Type 0
IsPlaceOf key keys place = slice_get keys place ≡ Some key

-- the key stands nowhere but between two places
abbrev pub IsWithin : Key → List Key → ℕ → ℕ → Type 0
IsWithin key keys from to = (place : ℕ) → IsPlaceOf key keys place → (from ≤ place) × (place < to)

-- those of the keys that have a value at their place, each with it
abbrev pub held_of : {V : Type 0} → List Key → List (Option V) → List (Key × V)
held_of [] values = []
held_of (k ∷ keys) [] = []
held_of (k ∷ keys) (None ∷ values) = held_of keys values
held_of (k ∷ keys) (Some v ∷ values) = (k, v) ∷ held_of keys values

-- none of the keys has a value
abbrev pub HasNoneOf : {V : Type 0} → List Key → List (Key × V) → Type 0
HasNoneOf keys entries = (q : Key) → among keys q ≡ true → value_for entries q ≡ None
