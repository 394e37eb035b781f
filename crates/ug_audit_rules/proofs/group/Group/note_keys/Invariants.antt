use Rattle.std.proofs.Common.{◌≡◌, take}
use Rattle.ug_audit_rules.specs.GroupLogs.{IsNotedAt}
use Rattle.ug_audit_rules.proofs.group.Group.note_keys.Given as goal

-- what goes out under the keys so far was noted
abbrev pub invariant-loop-key : goal.invariant-loop-key
invariant-loop-key g l = record {
  key : l.self.key ≡ l.fn.self.key;
  start : l.self.start ≡ l.fn.self.start;
  noted : IsNotedAt l.world l.fn.self.key (take l.key-index l.keys) l.fn.self.log.changes l.self.log.changes;
}
