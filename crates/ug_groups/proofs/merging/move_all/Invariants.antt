use Rattle.std.proofs.Common.{◌≡◌, ◌++◌, take, drop, map}
use Rattle.ug_groups.specs.Changes.{moved_member}
use Rattle.ug_groups.proofs.merging.move_all.Given as goal

abbrev pub invariant-loop-member : goal.invariant-loop-member
invariant-loop-member l = take l.member-index l.members ++ map (moved_member l.from l.to) (drop l.member-index l.members) ≡ map (moved_member l.from l.to) l.fn.members
