use Rattle.ug_queue.specs.Queues.{without_member, shed}
use Rattle.ug_groups.proofs.Dones.{queue_done}
use Rattle.ug_groups.proofs.members.leave.Goals as goal

pub returns : goal.returns
returns c pool = queue_done pool c.args.live.now c.args.g c.at_mut-entry.result.now c.leave.new.self (λ q. shed (without_member q c.args.member)) c.at_mut-entry.ensures.value c.leave.ensures
