use Rattle.std.proofs.Common.{Ok, subst}
use Rattle.ug_events.specs.Events.{SaysSync}
use Rattle.ug_report.specs.Report.{Synced}
use Rattle.ug_event_loop.specs.Turns.{Answers}
use Rattle.ug_event_loop.proofs.Turning.{adds_further, answers_later, answers_synced}
use Rattle.ug_event_loop.proofs.board.mark.Goals as goal

pub returns-clause-adds : goal.returns-clause-adds
returns-clause-adds g c =
    adds_further (λ entry. entry.pass) 0 c.args.board.now.history c.prepare.new.board.history c.do_job.new.board.history c.prepare.ensures.adds c.do_job.ensures.adds

pub returns-clause-answers : goal.returns-clause-answers
returns-clause-answers g c =
    let rules = g.S.Machine.rules in
    let speech = g.S.Speaker.speech in
    let answer = Synced (speech.marks c.in_ok-said.said) in
    answers_later rules speech c.args.board.now.opening (Ok SaysSync) answer c.args.board.now.history c.prepare.new.board.history c.do_job.new.board.history
    c.prepare.ensures.history
    (subst (λ o. Answers rules speech o (Ok SaysSync) answer c.prepare.new.board.history c.do_job.new.board.history) c.prepare.ensures.opening
    (answers_synced rules speech c.prepare.new.board.opening c.sync_job.result c.in_ok-said.said c.prepare.new.board.history c.do_job.new.board.history
    c.sync_job.ensures c.in_ok-said.ensures.legal c.in_ok-said.ensures.said c.in_ok-said.ensures.history))
