use Rattle.std.proofs.Common.{false, List, [], None, refl, sym, subst, arith}
use Rattle.ug_types.specs.declared.key.Key.{Key}
use Rattle.ug_hearing.specs.declared.row.Row.{Row}
use Rattle.ug_hearing.proofs.Begun.{begun}
use Rattle.ug_hearing.specs.declared.judge.Judge.{Judge}
use Rattle.ug_hearing.specs.declared.watch.Watch.{Watch}
use Rattle.ug_hearing.specs.Judged.{IsChecked}
use Rattle.ug_hearing.specs.Marked.{IsWorst, AreMarksOf}
use Rattle.ug_hearing.specs.Watched.{IsWatched}
use Rattle.ug_hearing.proofs.Messages.{checked-so}
use Rattle.ug_hearing.proofs.judge.Judge.new.Goals as goal

pub returns : goal.returns
returns c = λ past tables is.
    let s = c.args.session.now in
    let first : Judge = record { hearing = record { standings = c.in_ok-standings.standings; refreshing = false }; messages = 0; next = 0; found = None; watch = c.new-2.result } in
    checked-so s past tables is first c.look.new.self [] refl (omega arith) refl
    (begun s.course.changes s.course.from s.course.to past tables c.in_ok-standings.standings is.course c.in_ok-standings.ensures.rows) (λ i m table there less version. absurd (omega arith))
    (λ i m there less. absurd (omega arith)) (λ i m there low. omega arith) (subst (λ n. AreMarksOf s.syncs.items 0 n 0) (sym c.look.ensures.next) c.marks_of-to.ensures)
    (subst (λ n. IsChecked first c.look.new.self (IsWorst c.in_ok-standings.standings.rows s.course.changes s.course.from s.syncs.items 0 n)) (sym c.look.ensures.next) c.look.ensures.worst)
    (subst (λ (w : Watch). IsWatched c.in_ok-standings.standings.rows s.course.changes s.course.from w) (sym c.look.ensures.watch)
    (subst (λ (rows : List (Key × Row)). IsWatched rows s.course.changes s.course.from c.new-2.result) (sym c.in_ok-standings.ensures.rows) c.new-2.ensures))
