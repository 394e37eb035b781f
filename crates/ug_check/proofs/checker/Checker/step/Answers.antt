use Rattle.std.proofs.Common.{ℕ, sym, ap, subst, ◌∙◌}
use Rattle.std.specs.Prelude.{◌+◌, if◌then◌else◌}
use Rattle.ug_types.specs.Messages.{message_of}
use Rattle.ug_message.specs.Received.{IsUnfinished}
use Rattle.ug_update.specs.Readers.{ReaderState, behind_message}
use Rattle.ug_message.proofs.Fronts.{awaited_unfinished}
use Rattle.ug_check.specs.Checkers.{HasChecked}
use Rattle.ug_check.specs.Waiting.{with_waiting}
use Rattle.ug_check.proofs.Steps.{HasChecked-more, if_none, if_some}
use Rattle.ug_check.proofs.checker.Checker.step.Goals as goal

pub returns-in-Ok-None-clause-last : goal.returns-in-Ok-None-clause-last
returns-in-Ok-None-clause-last c = λ e.
    let r = c.args.self.now.reader in
    let none = if_none c.in-Ok-None.field-0 c.in-Ok-None.field-0-is c.in-Ok-None.ensures.none in
    subst (λ (n : ReaderState). IsUnfinished n.session n.left) (sym none.0) (awaited_unfinished r.session r.left none.1)

pub returns-in-Ok-clause-ok : goal.returns-in-Ok-clause-ok
returns-in-Ok-clause-ok c = λ stream h.
    let r = c.args.self.now.reader in
    let new = c.take_item.new.self in
    let next = c.in-Ok-Some.field-0 in
    let is = c.in-Ok-Some.field-0-is in
    let says = if_some _ next _ is c.in-Ok-Some.ensures.some in
    let behind = if_some _ next _ is c.in-Ok-Some.ensures.behind in
    let counted = c.in-Ok.ensures.eors ∙ ap (λ (n : ReaderState). c.args.self.now.eors + (if n.ended then 1 else 0)) behind in
    subst (λ (n : ReaderState). HasChecked n (with_waiting new.table new.waiting.items) new.messages new.eors stream) (sym (c.take_item.ensures.reader ∙ behind))
    (subst (λ (n : ℕ). HasChecked (behind_message r) (with_waiting new.table new.waiting.items) n new.eors stream) (sym c.in-Ok.ensures.messages)
    (HasChecked-more r (with_waiting c.args.self.now.table c.args.self.now.waiting.items) (with_waiting new.table new.waiting.items) c.args.self.now.messages c.args.self.now.eors new.eors (message_of c.in-Ok-Some.item) stream
    says c.in-Ok.ensures.table c.in-Ok.ensures.stale counted h))

pub returns-clause-stopped : goal.returns-clause-stopped
returns-clause-stopped c = λ stream h. c.in-Err.ensures.stopped stream h.given h.read
