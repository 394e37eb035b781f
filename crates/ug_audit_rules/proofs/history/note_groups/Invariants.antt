use Rattle.std.proofs.Common.{◌≡◌, take, drop}
use Rattle.ug_audit_rules.specs.Histories.{AreNotedFor}
use Rattle.ug_audit_rules.proofs.history.note_groups.Given as goal

-- the groups so far were noted, and the others are as they were
abbrev pub invariant-loop-group : goal.invariant-loop-group
invariant-loop-group g l = record {
  noted : AreNotedFor l.world l.touched (take l.group-index l.fn.groups) (take l.group-index l.groups);
  others : drop l.group-index l.groups ≡ drop l.group-index l.fn.groups;
}
