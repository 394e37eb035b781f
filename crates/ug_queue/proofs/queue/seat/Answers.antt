use Rattle.std.proofs.Common.{subst, drop-cons}
use Rattle.ug_queue.specs.Queues.{AreNew}
use Rattle.ug_queue.proofs.queue.seat.Goals as goal

pub join_at_end-requires : goal.join_at_end-requires
join_at_end-requires g c = (subst (AreNew c.loop-member.copy.places) (drop-cons c.args.members.now c.loop-member.member-index 0 c.loop-member-test.true) c.loop-member.invariant.once).0
