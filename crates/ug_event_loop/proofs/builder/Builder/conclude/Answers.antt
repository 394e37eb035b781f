use Rattle.std.proofs.Common.{◌∙◌}
use Rattle.ug_event_loop.proofs.Turning.{goes_further, winds_behind}
use Rattle.ug_event_loop.proofs.Counting.{least-further, most-further}
use Rattle.ug_event_loop.proofs.builder.Builder.conclude.Goals as goal

pub returns-in_err-concluded-clause-history : goal.returns-in_err-concluded-clause-history
returns-in_err-concluded-clause-history g c =
    winds_behind g.S.Machine.rules g.S.Speaker.speech c.args.self.now.pass.seen c.loop.self-inside.pass.seen c.conclude_in_turn.new.pass.seen
    c.loop.invariant.9 c.conclude_in_turn.ensures.history

pub returns-then-concluded-clause-history : goal.returns-then-concluded-clause-history
returns-then-concluded-clause-history g c =
    winds_behind g.S.Machine.rules g.S.Speaker.speech c.args.self.now.pass.seen c.loop.self-inside.pass.seen c.conclude_in_turn.new.pass.seen
    c.loop.invariant.9 c.conclude_in_turn.ensures.history

pub loop-preserved : goal.loop-preserved
loop-preserved g c =
    let rules = g.S.Machine.rules in
    let old = c.args.self.now.pass in
    let mid = c.loop.self-inside.pass in
    let new = c.conclude_in_turn.new.pass in
    let was = c.loop.invariant in
    let same = c.conclude_in_turn.ensures.same in (
      tt,
      tt,
      (same.0 ∙ was.2.0, same.1 ∙ was.2.1, same.2 ∙ was.2.2),
      c.conclude_in_turn.ensures.free,
      was.4,
      was.5,
      was.6,
      was.7,
      c.wait_for.ensures.posts ∙ was.8,
      goes_further rules g.S.Speaker.speech old.seen mid.seen new.seen was.9 (c.in_ok-concluded.ensures.waits c.if-concluded.false),
      least-further rules old.root mid.root old.seen mid.seen new.seen c.args.steps.now c.loop.steps c.conclude_in_turn.new.steps was.2.2 was.10 c.conclude_in_turn.ensures.steps_least,
      most-further rules old.root mid.root old.seen mid.seen new.seen c.args.steps.now c.loop.steps c.conclude_in_turn.new.steps was.2.2 was.11 c.in_ok-concluded.ensures.steps_most,
    )
