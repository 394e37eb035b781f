use Rattle.std.proofs.Common.{length}
use Rattle.ug_queue.proofs.queue.+join_each.Given as goal

abbrev pub decreases-join_each : goal.decreases-join_each
decreases-join_each g l = length l.members.now
