use Rattle.std.proofs.Common.{Ok, ◌∙◌}
use Rattle.ug_events.specs.Events.{Says}
use Rattle.ug_events.specs.Views.{event_of}
use Rattle.ug_event_loop.specs.Turns.{GoesOn, Answers, AnswersAt, answer_of}
use Rattle.ug_event_loop.proofs.Passes.{on-ok, if-ok, on-err, goes-over, answers-over}
use Rattle.ug_event_loop.proofs.Counting.{least-over, most-over}
use Rattle.ug_event_loop.proofs.turns.offer_in_turn.Goals as goal

pub returns-clause-answers : goal.returns-clause-answers
returns-clause-answers g c =
    let rules = g.S.Machine.rules in
    let speech = g.S.Speaker.speech in
    let line = Ok (Says (event_of c.args.event)) in
    if-ok (λ came. Answers rules speech c.state.result.now.opening line (answer_of speech.marks came) c.state.result.now.history c.offer-came.new.board.history)
    (λ came. AnswersAt rules speech c.give.new.pass.root line (answer_of speech.marks came) c.args.pass.now.seen c.give.new.pass.seen)
    c.offer-came.result
    (λ came answers.
    answers-over g.S.Machine.rules g.S.Speaker.speech c.args.pass.now c.take-turn.result c.state.result.now c.offer-came.new.board c.give.new.pass.root c.give.new.pass.seen
    c.requires.number c.take-turn.ensures.agrees c.state.ensures.value c.offer-came.ensures.opening (c.give.ensures.same.2 ∙ c.take-turn.ensures.same.2) c.give.ensures.seen
    line (answer_of speech.marks came) answers)
    c.offer-came.ensures.answers

pub returns-clause-stopped : goal.returns-clause-stopped
returns-clause-stopped g c =
    let rules = g.S.Machine.rules in
    let speech = g.S.Speaker.speech in
    on-err (GoesOn rules speech c.state.result.now.history c.offer-came.new.board.history) (GoesOn rules speech c.args.pass.now.seen c.give.new.pass.seen) c.offer-came.result
    (goes-over g.S.Machine.rules g.S.Speaker.speech c.args.pass.now c.take-turn.result c.state.result.now c.offer-came.new.board c.give.new.pass.root c.give.new.pass.seen
    c.requires.number c.take-turn.ensures.agrees c.state.ensures.value c.offer-came.ensures.opening (c.give.ensures.same.2 ∙ c.take-turn.ensures.same.2) c.give.ensures.seen)
    c.offer-came.ensures.stopped

pub returns-clause-steps_least : goal.returns-clause-steps_least
returns-clause-steps_least g c =
    least-over g.S.Machine.rules c.args.pass.now c.take-turn.result c.state.result.now c.offer-came.new.board c.give.new.pass.seen
    c.requires.number c.take-turn.ensures.agrees c.state.ensures.value c.give.ensures.seen c.args.steps.now c.offer-came.new.steps
    c.offer-came.ensures.steps_least

pub returns-clause-steps_most : goal.returns-clause-steps_most
returns-clause-steps_most g c =
    on-ok _ _ c.offer-came.result
    (most-over g.S.Machine.rules c.args.pass.now c.take-turn.result c.state.result.now c.offer-came.new.board c.give.new.pass.seen
    c.requires.number c.take-turn.ensures.agrees c.state.ensures.value c.give.ensures.seen c.args.steps.now c.offer-came.new.steps)
    c.offer-came.ensures.steps_most
