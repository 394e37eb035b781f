use Rattle.std.proofs.Common.{suc, Bool, List, ◌∷◌, [], ◌++◌, length, None, refl, sym, subst}
use Rattle.ug_types.specs.declared.key.Key.{Key}
use Rattle.ug_types.specs.Messages.{Ends}
use Rattle.ug_hearing.specs.Heard.{IsTaken}
use Rattle.ug_hearing.proofs.Retold.{passed-as}
use Rattle.ug_hearing.proofs.Taking.{ends-none, ends-all}
use Rattle.ug_hearing.proofs.hearing.Hearing.end.Goals as goal

pub returns-then-not-self : goal.returns-then-not-self
returns-then-not-self c = λ past tables ms course number heard.
    subst (λ (f : List Key). IsTaken c.args.course.now.changes c.args.course.now.from c.args.course.now.to past tables f c.args.self.now.standings c.args.self.now.refreshing (ms ++ Ends ∷ [])) (sym c.new-failed.ensures.items)
    (subst (λ (b : Bool). IsTaken c.args.course.now.changes c.args.course.now.from c.args.course.now.to past tables [] c.args.self.now.standings b (ms ++ Ends ∷ [])) (sym c.if-not-self.true)
    (ends-none c.args.course.now.changes c.args.course.now.from c.args.course.now.to past tables course ms c.args.self.now.standings c.args.self.now.refreshing heard c.if-not-self.true))

pub returns : goal.returns
returns c = λ past tables ms course number heard.
    ends-all c.args.course.now.changes c.args.course.now.from c.args.course.now.to past tables course ms c.args.self.now.standings c.args.self.now.refreshing heard c.visit_all.new.self c.in_ok-stale.stale.items
    c.visit_all.new.failed.items c.if-not-self.false c.in_ok-stale.ensures
    (passed-as c.args.course.now.changes c.args.course.now.from c.args.course.now.to c.args.message (suc (length ms)) c.deref.result.now c.in_ok-stale.stale.items c.new-failed.result.items [] None None c.visit_all.new.failed.items
    c.args.self.now.standings c.visit_all.new.self number c.deref.ensures.value c.new-failed.ensures.items refl c.in_ok-visit_all.ensures)
