use Rattle.std.proofs.Common.{◌≡◌, ◌++◌, map}
use Rattle.ug_adjout.specs.Formatting.{fitting}
use Rattle.ug_adjout.specs.Places.{of_value}
use Rattle.ug_adjout.specs.Seats.{seat_at, named}
use Rattle.ug_adjout.specs.Waits.{keys_for}
use Rattle.ug_adjout.proofs.Handles.{keys_at}
use Rattle.ug_adjout.proofs.line.Line+Handle.first_for.Given as goal

abbrev pub invariant-loop-slot : goal.invariant-loop-slot
invariant-loop-slot g l =
    l.keys.items ++ fitting g.K.Weighed.bytes l.left (keys_at (seat_at l.seats.slots) (map (λ e. e.1) (of_value l.value l.slot-iterator)))
    ≡ fitting g.K.Weighed.bytes l.room (keys_for l.value (named (seat_at l.seats.slots) l.self))
