-- A receiver's table as rows in key order, the keys that are stale, and how many refreshes have begun.
use Rattle.std.specs.Borrow.{Bor}
use Rattle.std.specs.Prelude.{ℕ, List, [], Option, Some, None}
use Rattle.std.specs.Map.{lookup}
use Rattle.std.specs.BTreeMap.Range.{IsLtBy}
use Rattle.std.specs.declared.cmp.Ordering.{Ordering}
use Rattle.ug_types.specs.declared.key.Key.{Key}
use Rattle.ug_types.specs.Keys.{same_key}
use Rattle.ug_types.specs.Attributes.{Attributes}
use Rattle.ug_message.specs.Tables.{Reading, among}

pub record Rows : Type 0 where
  pub rows : List (Key × Attributes)
  pub stale : List Key
  -- how many refreshes have begun
  pub refreshes : ℕ

-- the attributes of the row with that key, where there is one
abbrev pub row_at : List (Key × Attributes) → Key → Option Attributes
row_at rows key = lookup (same_key key) rows

-- what a receiver that has these rows has read
abbrev pub reading_of : Rows → Reading
reading_of r = record { table = row_at r.rows; stale = among r.stale }

abbrev pub no_rows : Rows
no_rows = record { rows = []; stale = []; refreshes = 0 }

-- a key that stands after another, or after none
abbrev pub IsAfter : {K : Type 0} → (K → K → Ordering) → Option K → K → Type 0
IsAfter cmp None q = Unit {0}
IsAfter cmp (Some key) q = IsLtBy cmp key q

-- a row as an iterator gives it
abbrev pub row_seen : Key × Bor Attributes → Key × Attributes
row_seen row = (row.0, row.1.now)
