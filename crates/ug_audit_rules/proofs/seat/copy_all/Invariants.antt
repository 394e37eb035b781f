use Rattle.std.proofs.Common.{◌≡◌, take}
use Rattle.ug_audit_rules.proofs.seat.copy_all.Given as goal

abbrev pub invariant-loop-version : goal.invariant-loop-version
invariant-loop-version l = l.copy.items ≡ take l.version-index l.versions
