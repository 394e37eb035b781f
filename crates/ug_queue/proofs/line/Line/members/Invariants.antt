use Rattle.std.proofs.Common.{◌≡◌, take}
use Rattle.std.specs.Map.{keys_of}
use Rattle.ug_queue.proofs.line.Line.members.Given as goal

abbrev pub invariant-loop-member : goal.invariant-loop-member
invariant-loop-member g l = (keys_of l.member-items ≡ keys_of l.self.places) × (l.members.items ≡ take l.member-index (keys_of l.member-items))
