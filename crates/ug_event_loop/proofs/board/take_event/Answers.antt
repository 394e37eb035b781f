use Rattle.std.proofs.Common.{◌∙◌, sym}
use Rattle.ug_events.specs.Views.{event_of}
use Rattle.ug_event_loop.proofs.Turning.{answers_refused, answers_taken}
use Rattle.ug_event_loop.proofs.board.take_event.Goals as goal

pub returns-in-Some-clause-answers : goal.returns-in-Some-clause-answers
returns-in-Some-clause-answers g c =
    answers_refused g.S.Machine.rules g.S.Speaker.speech c.args.board.now.opening (event_of c.args.event) c.in-Some.number c.args.board.now.history
    (sym c.refusal_of.ensures ∙ c.in-Some.is)

pub returns-in_ok-said-in-None-clause-answers : goal.returns-in_ok-said-in-None-clause-answers
returns-in_ok-said-in-None-clause-answers g c =
    answers_taken g.S.Machine.rules g.S.Speaker.speech c.args.board.now.opening (event_of c.args.event) c.in_ok-job-in-None.job c.in_ok-said-in-None.said c.args.board.now.history c.do_job.new.board.history
    (sym c.refusal_of.ensures ∙ c.in-None.is) c.in_ok-job-in-None.ensures c.in_ok-said-in-None.ensures.legal c.in_ok-said-in-None.ensures.said c.in_ok-said-in-None.ensures.history
