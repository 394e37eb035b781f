use Rattle.std.proofs.Common.{Ok, subst}
use Rattle.ug_events.specs.Events.{Says}
use Rattle.ug_events.specs.Views.{event_of}
use Rattle.ug_event_loop.specs.Turns.{Answers, answer_of}
use Rattle.ug_event_loop.proofs.Turning.{adds_further, answers_later}
use Rattle.ug_event_loop.proofs.Passes.{if-ok}
use Rattle.ug_event_loop.proofs.board.offer.Goals as goal

pub returns-clause-adds : goal.returns-clause-adds
returns-clause-adds g c =
    adds_further (λ entry. entry.pass) 0 c.args.board.now.history c.prepare.new.board.history c.take_event.new.board.history c.prepare.ensures.adds c.take_event.ensures.adds

pub returns-clause-answers : goal.returns-clause-answers
returns-clause-answers g c =
    let rules = g.S.Machine.rules in
    let speech = g.S.Speaker.speech in
    let line = Ok (Says (event_of c.args.event)) in
    if-ok (λ came. Answers rules speech c.prepare.new.board.opening line (answer_of speech.marks came) c.prepare.new.board.history c.take_event.new.board.history)
    (λ came. Answers rules speech c.args.board.now.opening line (answer_of speech.marks came) c.args.board.now.history c.take_event.new.board.history)
    c.take_event.result
    (λ came answers.
    answers_later rules speech c.args.board.now.opening line (answer_of speech.marks came) c.args.board.now.history c.prepare.new.board.history c.take_event.new.board.history
    c.prepare.ensures.history
    (subst (λ o. Answers rules speech o line (answer_of speech.marks came) c.prepare.new.board.history c.take_event.new.board.history) c.prepare.ensures.opening answers))
    c.take_event.ensures.answers
