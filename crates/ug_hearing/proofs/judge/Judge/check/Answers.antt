use Rattle.std.proofs.Common.{None, refl, sym, subst}
use Rattle.ug_hearing.specs.declared.watch.Watch.{Watch}
use Rattle.ug_hearing.specs.Watched.{IsWatched}
use Rattle.ug_hearing.proofs.judge.Judge.check.Goals as goal

pub returns-then-pass-clause-worst : goal.returns-then-pass-clause-worst
returns-then-pass-clause-worst c = λ w. record {
  worst = None;
  it = λ m mark q. c.pass.ensures.same c.if-pass.true (c.in_ok-date.ensures c.args.session.now.course.from c.args.self.now.hearing.standings.rows w) m mark q;
  hearing = refl;
  messages = refl;
  found = refl;
}

pub returns-then-pass-clause-watched : goal.returns-then-pass-clause-watched
returns-then-pass-clause-watched c = λ w. c.pass.ensures.watched (c.in_ok-date.ensures c.args.session.now.course.from c.args.self.now.hearing.standings.rows w)

pub returns-clause-watched : goal.returns-clause-watched
returns-clause-watched c = λ w.
    subst (λ (x : Watch). IsWatched c.args.self.now.hearing.standings.rows c.args.session.now.course.changes c.args.session.now.course.from x) (sym c.look.ensures.watch)
    (c.pass.ensures.watched (c.in_ok-date.ensures c.args.session.now.course.from c.args.self.now.hearing.standings.rows w))
