-- Where a key's row differs from a whole table.
use Rattle.std.specs.Prelude.{◌≡◌, ◌≢◌, ℕ, List}
use Rattle.ug_types.specs.declared.key.Key.{Key}
use Rattle.ug_hearing.specs.declared.change.Change.{Change}
use Rattle.ug_hearing.specs.Pasts.{Value, value_before}
use Rattle.ug_hearing.specs.declared.row.Row.{Row}
use Rattle.ug_hearing.specs.Courses.{changes_of, value_in}
use Rattle.ug_hearing.specs.Rows.{row_for}

-- what the key has, by its row
abbrev pub row_value : List (Key × Row) → List (Key × List Change) → ℕ → Key → Value
row_value rows entries from key = value_before (row_for rows entries from key).standing.next (changes_of entries key)

abbrev pub IsSame : List (Key × Row) → List (Key × List Change) → ℕ → ℕ → Key → Type 0
IsSame rows entries from version key = row_value rows entries from key ≡ value_in version (changes_of entries key)

abbrev pub Differs : List (Key × Row) → List (Key × List Change) → ℕ → ℕ → Key → Type 0
Differs rows entries from version key = row_value rows entries from key ≢ value_in version (changes_of entries key)
