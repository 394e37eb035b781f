use Rattle.std.proofs.Common.{◌≡◌, true, List, ap, subst, ◌∙◌}
use Rattle.ug_types.specs.declared.key.Key.{Key}
use Rattle.ug_message.specs.Tables.{among}
use Rattle.ug_hearing.specs.declared.dated.Dated.{Dated}
use Rattle.ug_hearing.specs.Differences.{IsSame}
use Rattle.ug_hearing.specs.Watched.{AreMet}
use Rattle.ug_hearing.proofs.Followed.{moved, all-met, up-to-met}
use Rattle.ug_hearing.proofs.watch.Watch.step.Goals as goal

pub returns-in-Some : goal.returns-in-Some
returns-in-Some c =
    let entries = c.args.course.now.changes in
    let from = c.args.course.now.from in
    let rows = c.args.standings.now.rows in
    let old = c.args.self.now in
    let named : (q : Key) → among old.named.items q ≡ true → IsSame rows entries from c.args.version q =
    λ q there. c.are_as_in.ensures c.if-not-are_as_in.false q (ap (λ (ks : List Key). among ks q) c.deref.ensures.value ∙ there) in
    let met : AreMet rows entries from c.args.version old.dates.items old.passed c.in-Some.to =
    subst (λ (ds : List Dated). AreMet rows entries from c.args.version ds old.passed c.in-Some.to) c.deref-2.ensures.value c.in-Some.ensures in
    record {
      watched = λ w.
          moved entries from rows old c.move_to.new.self c.args.version c.in-Some.to c.move_to.ensures
          (all-met entries from rows old c.args.version c.in-Some.to c.if-self.false c.if-not-self.false c.if-version-self.false named met w)
          (up-to-met entries from rows old c.args.version c.in-Some.to c.if-self.false c.if-not-self.false c.if-version-self.false named met w) w;
      same = λ is w. all-met entries from rows old c.args.version c.in-Some.to c.if-self.false c.if-not-self.false c.if-version-self.false named met w;
    }
