use Rattle.std.proofs.Common.{◌≡◌, slice_get}
use Rattle.std.specs.Option.{option_copied}
use Rattle.ug_adjout.specs.Tables.{rows_after}
use Rattle.ug_adjout.specs.Stored.{projected, of_row, desired_of}
use Rattle.ug_adjout.specs.Seats.{seat_at, row_of, rows_by}
use Rattle.ug_adjout.proofs.after.first_desired.Given as goal

abbrev pub invariant-loop-key : goal.invariant-loop-key
invariant-loop-key g l =
    slice_get (projected (λ handle. of_row desired_of (row_of (seat_at l.seats.slots handle))) l.key-iterator) 0
    ≡ slice_get (rows_after g.K.Ord.cmp (option_copied l.fn.key) (projected desired_of (rows_by (seat_at l.seats.slots) l.index.entries))) 0
