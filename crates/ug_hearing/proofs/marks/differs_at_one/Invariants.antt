use Rattle.ug_hearing.specs.Marked.{IsSameAtAll}
use Rattle.ug_hearing.proofs.marks.differs_at_one.Given as goal

abbrev pub invariant-loop-i : goal.invariant-loop-i
invariant-loop-i l = IsSameAtAll l.standings.rows l.session.course.changes l.session.course.from l.syncs l.fn.from l.i l.key
