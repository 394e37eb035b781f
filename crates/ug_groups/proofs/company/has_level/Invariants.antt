use Rattle.ug_groups.specs.Company.{IsUnlike}
use Rattle.ug_groups.proofs.company.has_level.Given as goal

abbrev pub invariant-loop-i : goal.invariant-loop-i
invariant-loop-i l = IsUnlike l.i l.entries l.class
