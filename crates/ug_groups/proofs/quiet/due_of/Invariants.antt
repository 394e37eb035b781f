use Rattle.std.proofs.Common.{◌≡◌, ◌+◌, ◌*◌, ◌^◌, ◌≤◌, drop}
use Rattle.ug_group_rules.specs.Rules.{due}
use Rattle.ug_groups.specs.Members.{members_from}
use Rattle.ug_groups.proofs.quiet.due_of.Given as goal

-- what is counted so far and what is left make up the whole
abbrev pub invariant-loop-place : goal.invariant-loop-place
invariant-loop-place l = record {
  due : l.due + due (drop l.place l.world.peers) (members_from l.subgroups l.place (drop l.place l.members)) ≡ due l.world.peers (members_from l.subgroups 0 l.members);
  bounded : l.due ≤ l.place * 2 ^ 35;
}
