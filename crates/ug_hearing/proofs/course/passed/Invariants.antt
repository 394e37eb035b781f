use Rattle.std.proofs.Common.{◌≡◌, ◌+◌, drop}
use Rattle.ug_hearing.specs.Courses.{passed}
use Rattle.ug_hearing.proofs.course.passed.Given as goal

abbrev pub invariant-loop-i : goal.invariant-loop-i
invariant-loop-i l = l.i + passed l.fn.version (drop l.i l.fn.changes) ≡ passed l.fn.version l.fn.changes
