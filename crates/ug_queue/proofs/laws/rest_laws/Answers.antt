use Rattle.ug_queue.proofs.Rests.{rests}
use Rattle.ug_queue.proofs.laws.rest_laws.Goals as goal

pub returns : goal.returns
returns g c = rests
