use Rattle.ug_adjout.specs.PendingLaws.{requeue_one}
use Rattle.ug_adjout.proofs.laws.requeue_law.Goals as goal

pub returns : goal.returns
returns g c cmp total exact = requeue_one total exact
