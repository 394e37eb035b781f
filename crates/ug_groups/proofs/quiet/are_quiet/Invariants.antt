use Rattle.std.proofs.Common.{◌≡◌, drop}
use Rattle.ug_group_rules.specs.Machine.{are_quiet}
use Rattle.ug_groups.specs.Members.{members_from}
use Rattle.ug_groups.proofs.quiet.are_quiet.Given as goal

-- those that are left decide
abbrev pub invariant-loop-place : goal.invariant-loop-place
invariant-loop-place l = are_quiet (drop l.place l.world.peers) (members_from l.subgroups l.place (drop l.place l.members)) ≡ are_quiet l.world.peers (members_from l.subgroups 0 l.members)
