use Rattle.ug_queue.proofs.MemberRests.{members}
use Rattle.ug_queue.proofs.laws.member_laws.Goals as goal

pub returns : goal.returns
returns g c = members
