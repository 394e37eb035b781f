use Rattle.std.proofs.Common.{◌≡◌, ◌++◌, drop}
use Rattle.ug_commands.specs.Groups.{members_of}
use Rattle.ug_commands.proofs.members.members_of.Given as goal

-- those so far, and then those that are left
abbrev pub invariant-loop-id : goal.invariant-loop-id
invariant-loop-id l = l.members.items ++ drop l.id (members_of l.world) ≡ members_of l.world
