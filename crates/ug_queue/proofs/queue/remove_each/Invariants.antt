use Rattle.std.proofs.Common.{◌≡◌, drop}
use Rattle.ug_queue.specs.Queues.{without_members, AreMembers}
use Rattle.ug_queue.proofs.queue.remove_each.Given as goal

abbrev pub invariant-loop-member : goal.invariant-loop-member
invariant-loop-member g l = record {
  left : without_members l.line (drop l.member-index l.members) ≡ without_members l.fn.line l.members;
  members : AreMembers l.line (drop l.member-index l.members);
  packets : l.line.packets ≡ l.fn.line.packets;
  limit : l.line.limit ≡ l.fn.line.limit;
}
