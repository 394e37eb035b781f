use Rattle.ug_segchain.specs.Slots.{AreEmpty}
use Rattle.ug_segchain.proofs.row.free_all.Given as goal

abbrev pub invariant-loop-segment : goal.invariant-loop-segment
invariant-loop-segment g l = AreEmpty l.segments.items

abbrev pub decreases-loop-segment : goal.decreases-loop-segment
decreases-loop-segment g l = l.segments.len
