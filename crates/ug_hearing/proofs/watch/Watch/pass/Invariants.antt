use Rattle.ug_types.specs.declared.mark.Mark.{Mark}
use Rattle.ug_hearing.specs.Marked.{IsMarkIn}
use Rattle.ug_hearing.specs.Watched.{IsWatched, AllSame}
use Rattle.ug_hearing.proofs.watch.Watch.pass.Given as goal

abbrev pub invariant-loop-i : goal.invariant-loop-i
invariant-loop-i l = record {
  watched : IsWatched l.standings.rows l.session.course.changes l.session.course.from l.fn.self → IsWatched l.standings.rows l.session.course.changes l.session.course.from l.self;
  same : IsWatched l.standings.rows l.session.course.changes l.session.course.from l.fn.self → (m : Mark) → IsMarkIn l.syncs l.fn.from l.i m → AllSame l.standings.rows l.session.course.changes l.session.course.from m.version;
}
