use Rattle.std.proofs.Common.{◌≡◌, ◌∙◌, false}
use Rattle.ug_event_loop.specs.Turns.{GoesOn}
use Rattle.ug_event_loop.proofs.Passes.{on-ok, if-ok, goes-over, winds-over}
use Rattle.ug_event_loop.proofs.Counting.{least-over, most-over}
use Rattle.ug_event_loop.proofs.turns.conclude_in_turn.Goals as goal

pub returns-clause-history : goal.returns-clause-history
returns-clause-history g c =
    winds-over g.S.Machine.rules g.S.Speaker.speech c.args.pass.now c.take-turn.result c.state.result.now c.conclude-concluded.new.board c.give.new.pass.root c.give.new.pass.seen
    c.requires.number c.take-turn.ensures.agrees c.state.ensures.value c.conclude-concluded.ensures.opening (c.give.ensures.same.2 ∙ c.take-turn.ensures.same.2) c.give.ensures.seen
    c.conclude-concluded.ensures.history

pub returns-clause-steps_least : goal.returns-clause-steps_least
returns-clause-steps_least g c =
    least-over g.S.Machine.rules c.args.pass.now c.take-turn.result c.state.result.now c.conclude-concluded.new.board c.give.new.pass.seen
    c.requires.number c.take-turn.ensures.agrees c.state.ensures.value c.give.ensures.seen c.args.steps.now c.conclude-concluded.new.steps
    c.conclude-concluded.ensures.steps_least

pub returns-clause-steps_most : goal.returns-clause-steps_most
returns-clause-steps_most g c =
    on-ok _ _ c.conclude-concluded.result
    (most-over g.S.Machine.rules c.args.pass.now c.take-turn.result c.state.result.now c.conclude-concluded.new.board c.give.new.pass.seen
    c.requires.number c.take-turn.ensures.agrees c.state.ensures.value c.give.ensures.seen c.args.steps.now c.conclude-concluded.new.steps)
    c.conclude-concluded.ensures.steps_most

pub returns-clause-waits : goal.returns-clause-waits
returns-clause-waits g c =
    let rules = g.S.Machine.rules in
    let speech = g.S.Speaker.speech in
    if-ok (λ told. told ≡ false → GoesOn rules speech c.state.result.now.history c.conclude-concluded.new.board.history)
    (λ told. told ≡ false → GoesOn rules speech c.args.pass.now.seen c.give.new.pass.seen)
    c.conclude-concluded.result
    (λ told goes untold. goes-over rules speech c.args.pass.now c.take-turn.result c.state.result.now c.conclude-concluded.new.board c.give.new.pass.root c.give.new.pass.seen
    c.requires.number c.take-turn.ensures.agrees c.state.ensures.value c.conclude-concluded.ensures.opening (c.give.ensures.same.2 ∙ c.take-turn.ensures.same.2) c.give.ensures.seen
    (goes untold))
    c.conclude-concluded.ensures.waits
