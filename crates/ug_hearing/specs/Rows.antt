-- How a key stands in a session.
use Rattle.std.specs.Prelude.{◌≡◌, ℕ, suc, ◌+◌, ◌-◌, ◌<◌, ◌≤◌, Bool, true, false, List, [], ◌∷◌, ◌++◌, length, reverse, slice_get, Some, None, unwrap_or}
use Rattle.ug_types.specs.declared.key.Key.{Key}
use Rattle.ug_message.specs.Climbing.{ClimbsTo}
use Rattle.ug_hearing.specs.declared.change.Change.{Change}
use Rattle.ug_hearing.specs.Pasts.{Value, value_before, StandsIn}
use Rattle.ug_hearing.specs.Shifts.{Shift, shifts_from, last_place}
use Rattle.ug_hearing.specs.declared.row.Row.{Row}
use Rattle.ug_hearing.specs.declared.row.Moved.{Moved}
use Rattle.ug_hearing.specs.Keyed.{value_for}
use Rattle.ug_hearing.specs.Courses.{changes_of, start_of}

-- The moves of a key from the last one back: this many moves were noted up to it, or none.
abbrev pub IsChain : List Moved → ℕ → List Shift → Type 0
IsChain moves n [] = n ≡ 0
IsChain moves n (s ∷ older) =
    (i : ℕ) × (m : Moved) × (n ≡ suc i) × (slice_get moves i ≡ Some m) × (m.message ≡ s.message) × (m.place ≡ s.place) × (m.before ≤ i) × IsChain moves m.before older

-- the last of these values, or no route
abbrev pub last_value : Value → List Value → Value
last_value before [] = before
last_value before (v ∷ values) = last_value v values

-- The row of a key that had these values in turn: they climb the past, which is a part of the table's values from one
-- place up to another, to where the row stands.
pub record IsRow (past tables : List Value) (changes : List Change) (from to : ℕ) (moves : List Moved) (values : List Value) (row : Row) : Type 0 where
  pub places : List ℕ
  pub climb : ClimbsTo past 0 places values
  pub count : length places ≡ length values
  pub at : from + last_place 0 places ≡ row.standing.place
  pub stands : StandsIn tables changes row.standing
  pub within : row.standing.place < to
  pub moved : IsChain moves row.moved (reverse (shifts_from 0 1 places))
  pub now : value_before row.standing.next changes ≡ last_value None values

-- the row of a key that nothing named
abbrev pub first_row : List (Key × List Change) → ℕ → Key → Row
first_row entries from key = record { standing = start_of from (changes_of entries key); moved = 0; seen = 0 }

-- the row of a key
abbrev pub row_for : List (Key × Row) → List (Key × List Change) → ℕ → Key → Row
row_for rows entries from key = unwrap_or (value_for rows key) (first_row entries from key)

-- A move is noted where there is one.
abbrev pub IsNoted : Bool → List Moved → List Moved → ℕ → ℕ → Row → Row → Type 0
IsNoted true old new message from row to = (new ≡ old) × (to.moved ≡ row.moved)
IsNoted false old new message from row to = (new ≡ old ++ record { message = message; place = to.standing.place - from; before = row.moved } ∷ []) × (to.moved ≡ length new)
