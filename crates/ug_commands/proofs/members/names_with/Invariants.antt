use Rattle.std.proofs.Common.{◌≡◌, ◌++◌, drop}
use Rattle.ug_commands.specs.Groups.{names_with}
use Rattle.ug_commands.proofs.members.names_with.Given as goal

-- those so far, and then those that are left
abbrev pub invariant-loop-member : goal.invariant-loop-member
invariant-loop-member l = l.names.items ++ names_with l.key (drop l.member-index l.members) ≡ names_with l.key l.members
