use Rattle.std.specs.Prelude.{◌≡◌, ℕ, ◌<◌, Some, slice_get}
use Rattle.ug_groups.specs.declared.entry.Entry.{Entry}
use Rattle.ug_groups.specs.Rows.{IsRow}
use Rattle.ug_groups.specs.Entries.{row_in}
use Rattle.ug_groups.proofs.known.know_entries.Given as goal

abbrev pub invariant-loop-entry : goal.invariant-loop-entry
invariant-loop-entry l = (i : ℕ) (r : ℕ × Entry) → i < l.entry-index → slice_get l.all i ≡ Some r → IsRow (row_in l.pool r.1)
