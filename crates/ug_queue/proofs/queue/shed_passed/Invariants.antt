use Rattle.std.proofs.Common.{◌≡◌, length}
use Rattle.ug_queue.specs.Queues.{shed}
use Rattle.ug_queue.proofs.queue.shed_passed.Given as goal

abbrev pub invariant-loop-line : goal.invariant-loop-line
invariant-loop-line g l = shed l.line ≡ shed l.fn.line

abbrev pub decreases-loop-line : goal.decreases-loop-line
decreases-loop-line g l = length l.line.packets
