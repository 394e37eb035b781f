-- The past of one key, told by its changes alone.
use Rattle.std.specs.Prelude.{◌≡◌, ◌≢◌, ℕ, zero, suc, ◌<◌, ◌≤◌, List, [], ◌∷◌, length, drop, slice_get, Option, Some, None}
use Rattle.ug_types.specs.Attributes.{Attributes}
use Rattle.ug_message.specs.Climbing.{IsLeastPlace}
use Rattle.ug_hearing.specs.declared.change.Change.{Change}
use Rattle.ug_hearing.specs.declared.change.Standing.{Standing}

-- what a table has for a key: attributes, or no route
abbrev pub Value : Type 0
Value = Option Attributes

-- At each place from the one up to the other the past has this value.
abbrev pub Keeps : List Value → ℕ → ℕ → Value → Type 0
Keeps past from to v = (n : ℕ) → from ≤ n → n < to → slice_get past n ≡ Some v

-- From a place on the past has this value, and at each change's place the change's, until the next.
abbrev pub IsToldBy : List Value → ℕ → Value → List Change → Type 0
IsToldBy past from v [] = (from < length past) × Keeps past from (length past) v
IsToldBy past from v (c ∷ changes) = (from < c.place) × Keeps past from c.place v × IsToldBy past c.place c.value changes

abbrev pub value_of : Option Change → Value
value_of None = None
value_of (Some c) = c.value

-- the value that holds before the change of this number
abbrev pub value_before : ℕ → List Change → Value
value_before zero changes = None
value_before (suc n) changes = value_of (slice_get changes n)

-- A climb stands at a place of the past: it has there the value of the change before `next`, and the changes behind it are
-- those from `next` on.
abbrev pub StandsIn : List Value → List Change → Standing → Type 0
StandsIn past changes s = IsToldBy past s.place (value_before s.next changes) (drop s.next changes)

-- The climb goes to the least place of a value.
pub record Climbs (past : List Value) (changes : List Change) (s : Standing) (v : Value) (t : Standing) : Type 0 where
  pub least : IsLeastPlace past s.place v t.place
  pub value : value_before t.next changes ≡ v
  pub stands : StandsIn past changes t

-- From a place on the past never has this value.
abbrev pub NeverHas : List Value → ℕ → Value → Type 0
NeverHas past from v = (n : ℕ) → from ≤ n → slice_get past n ≢ Some v

-- The same up to a place: from there on something else tells the past.
abbrev pub IsToldUntil : List Value → ℕ → Value → List Change → ℕ → Type 0
IsToldUntil past from v [] to = (from < to) × Keeps past from to v
IsToldUntil past from v (c ∷ changes) to = (from < c.place) × Keeps past from c.place v × IsToldUntil past c.place c.value changes to
