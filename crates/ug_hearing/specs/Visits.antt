-- What a message does to the row of a key that it names.
use Rattle.std.specs.Prelude.{◌≡◌, ◌≢◌, ℕ, ◌<◌, ◌≤◌, ◌==◌, Bool, true, false, List, slice_get, Some}
use Rattle.ug_types.specs.declared.key.Key.{Key}
use Rattle.ug_types.specs.Keys.{same_key}
use Rattle.ug_hearing.specs.declared.change.Change.{Change}
use Rattle.ug_hearing.specs.Pasts.{Value, StandsIn, Climbs}
use Rattle.ug_hearing.specs.declared.row.Row.{Row}
use Rattle.ug_hearing.specs.declared.row.Moved.{Moved}
use Rattle.ug_hearing.specs.declared.standings.Standings.{Standings}
use Rattle.ug_hearing.specs.Keyed.{value_for}
use Rattle.ug_hearing.specs.Courses.{changes_of}
use Rattle.ug_hearing.specs.Rows.{row_for, IsNoted}

-- From a place on, and below another, it never has this value.
abbrev pub NeverBelow : List Value → ℕ → ℕ → Value → Type 0
NeverBelow past from to v = (n : ℕ) → from ≤ n → n < to → slice_get past n ≢ Some v

-- The row climbed to the value, or couldn't and stands as before.
abbrev pub Went : Bool → List Change → ℕ → ℕ → ℕ → Value → List Moved → List Moved → Row → Row → Type 0
Went true changes from to message v old new row t =
    ((tables : List Value) → StandsIn tables changes row.standing → Climbs tables changes row.standing v t.standing) × (t.standing.place < to)
    × IsNoted (row.standing.place == t.standing.place) old new message from row t
Went false changes from to message v old new row t =
    ((tables : List Value) → StandsIn tables changes row.standing → NeverBelow tables row.standing.place to v) × (new ≡ old) × (t.standing ≡ row.standing) × (t.moved ≡ row.moved)

-- A key was visited, and no other.
pub record IsVisit (entries : List (Key × List Change)) (from to message : ℕ) (key : Key) (v : Value) (old new : Standings) (could : Bool) : Type 0 where
  pub row : Row
  pub there : value_for new.rows key ≡ Some row
  pub seen : row.seen ≡ new.refreshes
  pub others : (q : Key) → same_key key q ≡ false → value_for new.rows q ≡ value_for old.rows q
  pub refreshes : new.refreshes ≡ old.refreshes
  pub went : Went could (changes_of entries key) from to message v old.moves.items new.moves.items (row_for old.rows entries from key) row
