use Rattle.std.proofs.Common.{take}
use Rattle.ug_groups.specs.Fresh.{AreFresh}
use Rattle.ug_groups.proofs.member.fresh_members.Given as goal

-- the peers so far
abbrev pub invariant-loop-id : goal.invariant-loop-id
invariant-loop-id l = AreFresh (take l.id l.world.peers) l.members.items
