use Rattle.std.proofs.Common.{◌≡◌, drop}
use Rattle.ug_queue.specs.Queues.{seat_all, AreNew}
use Rattle.ug_queue.proofs.queue.seat.Given as goal

abbrev pub invariant-loop-member : goal.invariant-loop-member
invariant-loop-member g l = record {
  seated : seat_all l.copy.places (drop l.member-index l.members) ≡ seat_all l.fn.copy.places l.members;
  once : AreNew l.copy.places (drop l.member-index l.members);
  packets : l.copy.packets ≡ l.fn.copy.packets;
  limit : l.copy.limit ≡ l.fn.copy.limit;
}
