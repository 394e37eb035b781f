-- Rows, and how many of them are of formatted and of forced keys.
use Rattle.std.specs.Prelude.{◌≡◌, ℕ, List, length}
use Rattle.std.specs.declared.cmp.Ordering.{Ordering}
use Rattle.ug_adjout.specs.Tables.{IsTable}
use Rattle.ug_adjout.specs.declared.row.Row.{Row}
use Rattle.ug_adjout.specs.Stored.{projected, formatted_of, mark_of}

pub record IsCounted {K : Type 0} (cmp : K → K → Ordering) (rows : List (K × Row)) (formatted forced : ℕ) : Type 0 where
  pub ordered : IsTable cmp rows
  pub formatted_len : formatted ≡ length (projected formatted_of rows)
  pub forced_len : forced ≡ length (projected mark_of rows)
