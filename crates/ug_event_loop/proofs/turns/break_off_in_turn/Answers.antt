use Rattle.std.proofs.Common.{◌∙◌}
use Rattle.ug_event_loop.proofs.Passes.{winds-over, closed-over}
use Rattle.ug_event_loop.proofs.Counting.{least-over}
use Rattle.ug_event_loop.proofs.turns.break_off_in_turn.Goals as goal

pub returns-clause-history : goal.returns-clause-history
returns-clause-history g c =
    winds-over g.S.Machine.rules g.S.Speaker.speech c.args.pass.now c.take-turn.result c.state.result.now c.break_off.new.board c.give.new.pass.root c.give.new.pass.seen
    c.requires.number c.take-turn.ensures.agrees c.state.ensures.value c.break_off.ensures.opening (c.give.ensures.same.2 ∙ c.take-turn.ensures.same.2) c.give.ensures.seen
    c.break_off.ensures.history

pub returns-clause-steps_least : goal.returns-clause-steps_least
returns-clause-steps_least g c =
    least-over g.S.Machine.rules c.args.pass.now c.take-turn.result c.state.result.now c.break_off.new.board c.give.new.pass.seen
    c.requires.number c.take-turn.ensures.agrees c.state.ensures.value c.give.ensures.seen c.args.steps.now c.break_off.new.steps
    c.break_off.ensures.steps_least

pub returns-clause-closed : goal.returns-clause-closed
returns-clause-closed g c =
    closed-over g.S.Machine.rules g.S.Speaker.speech c.args.pass.now c.take-turn.result c.state.result.now c.break_off.new.board c.give.new.pass.root c.give.new.pass.seen
    c.requires.number c.take-turn.ensures.agrees c.state.ensures.value c.break_off.ensures.opening (c.give.ensures.same.2 ∙ c.take-turn.ensures.same.2) c.give.ensures.seen
    c.give.new.pass.spent c.give.ensures.spent c.break_off.ensures.closed
