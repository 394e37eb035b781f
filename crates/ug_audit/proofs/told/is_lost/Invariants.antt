use Rattle.std.proofs.Common.{◌≡◌, drop}
use Rattle.ug_audit_rules.specs.Audited.{is_lost_in}
use Rattle.ug_audit.proofs.told.is_lost.Given as goal

-- those that are left decide
abbrev pub invariant-loop-entry : goal.invariant-loop-entry
invariant-loop-entry l = is_lost_in (drop l.entry-index l.entries) l.id l.number ≡ is_lost_in l.entries l.id l.number
