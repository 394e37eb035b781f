use Rattle.std.proofs.Common.{List, ◌∷◌, [], ◌++◌, sym, subst}
use Rattle.ug_types.specs.declared.key.Key.{Key}
use Rattle.ug_types.specs.Messages.{message_of}
use Rattle.ug_types.specs.declared.message.Item.{Item}
use Rattle.ug_hearing.specs.Heard.{IsTaken}
use Rattle.ug_hearing.proofs.Taking.{ignored}
use Rattle.ug_hearing.proofs.hearing.Hearing.take.Goals as goal

pub returns-in-Ignored-clause-taken : goal.returns-in-Ignored-clause-taken
returns-in-Ignored-clause-taken c = λ past tables ms course number heard.
    subst (λ (f : List Key). IsTaken c.args.course.now.changes c.args.course.now.from c.args.course.now.to past tables f c.args.self.now.standings c.args.self.now.refreshing (ms ++ message_of c.args.item.now ∷ [])) (sym c.new.ensures.items)
    (subst (λ (i : Item). IsTaken c.args.course.now.changes c.args.course.now.from c.args.course.now.to past tables [] c.args.self.now.standings c.args.self.now.refreshing (ms ++ message_of i ∷ [])) (sym c.in-Ignored.is)
    (ignored c.args.course.now.changes c.args.course.now.from c.args.course.now.to past tables course ms c.args.self.now.standings c.args.self.now.refreshing heard))
