use Rattle.std.proofs.Common.{List, map}
use Rattle.ug_hearing.specs.Shifts.{Shift}
use Rattle.ug_hearing.specs.Rows.{IsChain}
use Rattle.ug_hearing.specs.Climbed.{shift_of, IsPart}
use Rattle.ug_hearing.proofs.climbs.move_back.Given as goal

abbrev pub invariant-loop-at : goal.invariant-loop-at
invariant-loop-at l = (shifts : List Shift) → IsChain l.all l.fn.last shifts → IsPart l.all l.at (map shift_of l.moves.items) shifts

abbrev pub decreases-loop-at : goal.decreases-loop-at
decreases-loop-at l = l.at
