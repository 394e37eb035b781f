use Rattle.std.proofs.Common.{◌∙◌}
use Rattle.ug_event_loop.proofs.Passes.{on-ok, goes-over, settled-over}
use Rattle.ug_event_loop.proofs.Counting.{least-over, most-over}
use Rattle.ug_event_loop.proofs.turns.settle_in_turn.Goals as goal

pub returns-clause-history : goal.returns-clause-history
returns-clause-history g c =
    goes-over g.S.Machine.rules g.S.Speaker.speech c.args.pass.now c.take-turn.result c.state.result.now c.settle-settled.new.board c.give.new.pass.root c.give.new.pass.seen
    c.requires.number c.take-turn.ensures.agrees c.state.ensures.value c.settle-settled.ensures.opening (c.give.ensures.same.2 ∙ c.take-turn.ensures.same.2) c.give.ensures.seen
    c.settle-settled.ensures.history

pub returns-clause-steps_least : goal.returns-clause-steps_least
returns-clause-steps_least g c =
    least-over g.S.Machine.rules c.args.pass.now c.take-turn.result c.state.result.now c.settle-settled.new.board c.give.new.pass.seen
    c.requires.number c.take-turn.ensures.agrees c.state.ensures.value c.give.ensures.seen c.args.steps.now c.settle-settled.new.steps
    c.settle-settled.ensures.steps_least

pub returns-clause-steps_most : goal.returns-clause-steps_most
returns-clause-steps_most g c =
    on-ok _ _ c.settle-settled.result
    (most-over g.S.Machine.rules c.args.pass.now c.take-turn.result c.state.result.now c.settle-settled.new.board c.give.new.pass.seen
    c.requires.number c.take-turn.ensures.agrees c.state.ensures.value c.give.ensures.seen c.args.steps.now c.settle-settled.new.steps)
    c.settle-settled.ensures.steps_most

pub returns-clause-settled : goal.returns-clause-settled
returns-clause-settled g c =
    on-ok _ _ c.settle-settled.result
    (settled-over g.S.Machine.rules g.S.Speaker.speech c.args.pass.now c.take-turn.result c.state.result.now c.settle-settled.new.board c.give.new.pass.root c.give.new.pass.seen
    c.requires.number c.take-turn.ensures.agrees c.state.ensures.value c.settle-settled.ensures.opening (c.give.ensures.same.2 ∙ c.take-turn.ensures.same.2) c.give.ensures.seen)
    c.settle-settled.ensures.settled
