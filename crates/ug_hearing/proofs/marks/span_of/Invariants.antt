use Rattle.std.proofs.Common.{◌≤◌}
use Rattle.ug_types.specs.declared.mark.Mark.{Mark}
use Rattle.ug_hearing.specs.Marked.{IsMarkIn}
use Rattle.ug_hearing.proofs.marks.span_of.Given as goal

abbrev pub invariant-loop-i : goal.invariant-loop-i
invariant-loop-i l = (m : Mark) → IsMarkIn l.syncs l.fn.from l.i m → (l.span.first ≤ m.version) × (m.version ≤ l.span.last)
