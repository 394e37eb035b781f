use Rattle.std.proofs.Common.{Ok, ◌∙◌}
use Rattle.std.specs.Prelude.{IfSome, IfNone}
use Rattle.ug_events.specs.Events.{SaysSync}
use Rattle.ug_event_loop.specs.Turns.{GoesOn, Answers, AnswersAt, answer_of}
use Rattle.ug_event_loop.proofs.Passes.{on-ok, if-ok, if-some, if-none, on-err, goes-over, answers-over}
use Rattle.ug_event_loop.proofs.Counting.{least-over, most-over}
use Rattle.ug_event_loop.proofs.turns.mark_in_turn.Goals as goal

pub returns-clause-answers : goal.returns-clause-answers
returns-clause-answers g c =
    let rules = g.S.Machine.rules in
    let speech = g.S.Speaker.speech in
    if-ok (λ marked. IfSome marked (λ came. Answers rules speech c.state.result.now.opening (Ok SaysSync) (answer_of speech.marks came) c.state.result.now.history c.mark-marked.new.board.history))
    (λ marked. IfSome marked (λ came. AnswersAt rules speech c.give.new.pass.root (Ok SaysSync) (answer_of speech.marks came) c.args.pass.now.seen c.give.new.pass.seen))
    c.mark-marked.result
    (λ marked h. if-some (λ came. Answers rules speech c.state.result.now.opening (Ok SaysSync) (answer_of speech.marks came) c.state.result.now.history c.mark-marked.new.board.history)
    (λ came. AnswersAt rules speech c.give.new.pass.root (Ok SaysSync) (answer_of speech.marks came) c.args.pass.now.seen c.give.new.pass.seen)
    marked
    (λ came answers.
    answers-over g.S.Machine.rules g.S.Speaker.speech c.args.pass.now c.take-turn.result c.state.result.now c.mark-marked.new.board c.give.new.pass.root c.give.new.pass.seen
    c.requires.number c.take-turn.ensures.agrees c.state.ensures.value c.mark-marked.ensures.opening (c.give.ensures.same.2 ∙ c.take-turn.ensures.same.2) c.give.ensures.seen
    (Ok SaysSync) (answer_of speech.marks came) answers)
    h)
    c.mark-marked.ensures.answers

pub returns-clause-waits : goal.returns-clause-waits
returns-clause-waits g c =
    let rules = g.S.Machine.rules in
    let speech = g.S.Speaker.speech in
    if-ok (λ marked. IfNone marked (GoesOn rules speech c.state.result.now.history c.mark-marked.new.board.history)) (λ marked. IfNone marked (GoesOn rules speech c.args.pass.now.seen c.give.new.pass.seen)) c.mark-marked.result
    (λ marked h. if-none (GoesOn rules speech c.state.result.now.history c.mark-marked.new.board.history) (GoesOn rules speech c.args.pass.now.seen c.give.new.pass.seen) marked (goes-over g.S.Machine.rules g.S.Speaker.speech c.args.pass.now c.take-turn.result c.state.result.now c.mark-marked.new.board c.give.new.pass.root c.give.new.pass.seen
    c.requires.number c.take-turn.ensures.agrees c.state.ensures.value c.mark-marked.ensures.opening (c.give.ensures.same.2 ∙ c.take-turn.ensures.same.2) c.give.ensures.seen) h)
    c.mark-marked.ensures.waits

pub returns-clause-stopped : goal.returns-clause-stopped
returns-clause-stopped g c =
    let rules = g.S.Machine.rules in
    let speech = g.S.Speaker.speech in
    on-err (GoesOn rules speech c.state.result.now.history c.mark-marked.new.board.history) (GoesOn rules speech c.args.pass.now.seen c.give.new.pass.seen) c.mark-marked.result
    (goes-over g.S.Machine.rules g.S.Speaker.speech c.args.pass.now c.take-turn.result c.state.result.now c.mark-marked.new.board c.give.new.pass.root c.give.new.pass.seen
    c.requires.number c.take-turn.ensures.agrees c.state.ensures.value c.mark-marked.ensures.opening (c.give.ensures.same.2 ∙ c.take-turn.ensures.same.2) c.give.ensures.seen)
    c.mark-marked.ensures.stopped

pub returns-clause-steps_least : goal.returns-clause-steps_least
returns-clause-steps_least g c =
    least-over g.S.Machine.rules c.args.pass.now c.take-turn.result c.state.result.now c.mark-marked.new.board c.give.new.pass.seen
    c.requires.number c.take-turn.ensures.agrees c.state.ensures.value c.give.ensures.seen c.args.steps.now c.mark-marked.new.steps
    c.mark-marked.ensures.steps_least

pub returns-clause-steps_most : goal.returns-clause-steps_most
returns-clause-steps_most g c =
    on-ok _ _ c.mark-marked.result
    (most-over g.S.Machine.rules c.args.pass.now c.take-turn.result c.state.result.now c.mark-marked.new.board c.give.new.pass.seen
    c.requires.number c.take-turn.ensures.agrees c.state.ensures.value c.give.ensures.seen c.args.steps.now c.mark-marked.new.steps)
    c.mark-marked.ensures.steps_most
