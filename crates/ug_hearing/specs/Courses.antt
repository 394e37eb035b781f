-- What a session has to follow, told by changes.
use Rattle.std.specs.Prelude.{◌≡◌, ℕ, suc, ◌-◌, ◌<◌, ◌≤◌, nat_lt, List, [], ◌∷◌, length, take, drop, slice_get, Some, None, if◌then◌else◌}
use Rattle.ug_types.specs.declared.key.Key.{Key}
use Rattle.ug_message.specs.Tables.{Table}
use Rattle.ug_message.specs.Climbing.{values_at}
use Rattle.ug_hearing.specs.declared.change.Change.{Change}
use Rattle.ug_hearing.specs.declared.change.Standing.{Standing}
use Rattle.ug_hearing.specs.Pasts.{Value, value_before, IsToldBy}
use Rattle.ug_hearing.specs.Keyed.{list_for}

-- the changes of a key
abbrev pub changes_of : List (Key × List Change) → Key → List Change
changes_of entries key = list_for entries key

-- how many changes there are up to a version
unfoldable pub passed : ℕ → List Change → ℕ
passed version [] = 0
passed version (c ∷ changes) = if nat_lt version c.place then 0 else suc (passed version changes)

-- the value in the table of a version
abbrev pub value_in : ℕ → List Change → Value
value_in version changes = value_before (passed version changes) changes

-- where a session's climb begins
abbrev pub start_of : ℕ → List Change → Standing
start_of from changes = record { place = from; next = passed from changes }

-- The changes tell what the tables have, one for each version; a session's past is a part of these tables, which begins with
-- one without routes.
pub record IsCourse (entries : List (Key × List Change)) (from to : ℕ) (past tables : List Table) : Type 0 where
  pub told : (key : Key) → IsToldBy (values_at key tables) 0 None (changes_of entries key)
  pub part : (key : Key) → values_at key past ≡ take (to - from) (drop from (values_at key tables))
  pub begins : from < to
  pub ends : to ≤ length tables
  pub empty : (key : Key) → slice_get (values_at key tables) from ≡ Some None
