use Rattle.std.proofs.Common.{◌≡◌, ◌≤◌}
use Rattle.ug_types.specs.declared.mark.Mark.{Mark}
use Rattle.ug_hearing.specs.Marked.{IsMarkIn}
use Rattle.ug_hearing.proofs.marks.marks_of.Given as goal

abbrev pub invariant-loop-i : goal.invariant-loop-i
invariant-loop-i l = record {
  at : l.at ≡ l.i;
  low : l.fn.next ≤ l.i;
  of : (m : Mark) → IsMarkIn l.syncs l.fn.next l.i m → m.handed ≡ l.fn.messages;
}
