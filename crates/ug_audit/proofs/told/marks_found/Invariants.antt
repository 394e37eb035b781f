use Rattle.std.proofs.Common.{◌≡◌, ◌++◌, drop}
use Rattle.ug_audit_rules.specs.Audited.{marks_in, marks_to}
use Rattle.ug_audit.proofs.told.marks_found.Given as goal

-- the marks so far and those of the lines that are left make up all
abbrev pub invariant-loop-entry : goal.invariant-loop-entry
invariant-loop-entry l = l.found.items ++ marks_to l.id l.number (marks_in (drop l.entry-index l.entries)) ≡ marks_to l.id l.number (marks_in l.entries)
