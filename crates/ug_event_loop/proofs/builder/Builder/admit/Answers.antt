use Rattle.std.proofs.Common.{[], ◌∷◌, ◌++◌, Ok}
use Rattle.ug_events.specs.Events.{Says}
use Rattle.ug_events.specs.Views.{event_of}
use Rattle.ug_event_loop.specs.StandingLaws.{stays_further}
use Rattle.ug_event_loop.proofs.Admitting.{within-behind}
use Rattle.ug_event_loop.proofs.Builders.{builder-stays}
use Rattle.ug_event_loop.proofs.builder.Builder.admit.Goals as goal

pub returns-in_default-clause-stopped : goal.returns-in_default-clause-stopped
returns-in_default-clause-stopped g c first held stands =
    let all = first ++ Ok (Says (event_of c.args.event)) ∷ [] in
    let took = c.in_ok-admit_alone.ensures.taken first held stands in
    let stays =
    builder-stays g.S.Machine.rules g.S.Speaker.speech c.admit_alone.new.self c.pass_on.new.self c.pass_on.ensures.same c.pass_on.ensures.tally c.pass_on.ensures.history c.pass_on.ensures.legal
    all [] held held took.0 in (
      within-behind g.S.Machine.rules g.S.Speaker.speech all c.pass_on.new.self held stays.0,
      stays_further g.S.Machine.rules g.S.Speaker.speech c.args.self.now.pass.seen c.admit_alone.new.self.pass.seen c.pass_on.new.self.pass.seen took.1 stays.1,
    )

pub returns-clause-taken : goal.returns-clause-taken
returns-clause-taken g c first held stands =
    let took = c.in_ok-admit_alone.ensures.taken first held stands in
    let stays =
    builder-stays g.S.Machine.rules g.S.Speaker.speech c.admit_alone.new.self c.pass_on.new.self c.pass_on.ensures.same c.pass_on.ensures.tally c.pass_on.ensures.history c.pass_on.ensures.legal
    (first ++ Ok (Says (event_of c.args.event)) ∷ []) [] held held took.0 in
    (stays.0, stays_further g.S.Machine.rules g.S.Speaker.speech c.args.self.now.pass.seen c.admit_alone.new.self.pass.seen c.pass_on.new.self.pass.seen took.1 stays.1)
