use Rattle.std.proofs.Common.{◌≡◌, Ok, sym, ap, subst, ◌∙◌}
use Rattle.ug_events.specs.Views.{IsRefusedBy, saying_of}
use Rattle.ug_report.specs.Report.{Passed, Refused}
use Rattle.ug_event_loop.specs.Standing.{said_by}
use Rattle.ug_event_loop.specs.Turns.{AnswersAt}
use Rattle.ug_event_loop.proofs.Turning.{answers_passed, answers_unread}
use Rattle.ug_event_loop.proofs.builder.Builder.come.Goals as goal

pub returns-in-Ok-Blank-clause-answers : goal.returns-in-Ok-Blank-clause-answers
returns-in-Ok-Blank-clause-answers g c =
    subst (λ b. AnswersAt g.S.Machine.rules g.S.Speaker.speech b.pass.root (said_by c.args.self.now.grammar c.args.line.now) Passed c.args.self.now.pass.seen b.pass.seen) (sym c.self.view_is)
    (answers_passed g.S.Machine.rules g.S.Speaker.speech c.args.self.now.pass.root (said_by c.args.self.now.grammar c.args.line.now) c.args.self.now.pass.seen
    (subst (λ l. said_by c.args.self.now.grammar c.args.line.now ≡ Ok (saying_of l)) c.in-Ok-Blank.field-0-is
    (ap (λ b. said_by b.grammar c.args.line.now) (sym c.self.view_is) ∙ c.in-Ok-Blank.ensures.read)))

pub returns-in-Err-Refused-clause-answers : goal.returns-in-Err-Refused-clause-answers
returns-in-Err-Refused-clause-answers g c =
    subst (λ b. AnswersAt g.S.Machine.rules g.S.Speaker.speech b.pass.root (said_by c.args.self.now.grammar c.args.line.now) (Refused (record { number = c.in-Err-Refused.number; inner = c.in-Err-Refused.inner })) c.args.self.now.pass.seen b.pass.seen) (sym c.self.view_is)
    (answers_unread g.S.Machine.rules g.S.Speaker.speech c.args.self.now.pass.root (said_by c.args.self.now.grammar c.args.line.now) c.in-Err-Refused.number c.in-Err-Refused.inner c.args.self.now.pass.seen
    (ap (λ b. said_by b.grammar c.args.line.now) (sym c.self.view_is)
    ∙ subst (λ e. IsRefusedBy e (said_by c.self.inside.grammar c.args.line.now)) c.in-Err-Refused.field-0-is c.in-Err-Refused.ensures.refused))
