use Rattle.std.proofs.Common.{◌≡◌, List, [], ◌∷◌, ◌++◌, refl, ap, subst}
use Rattle.ug_events.specs.Events.{Saying}
use Rattle.ug_events.specs.Reads.{Reads}
use Rattle.ug_event_loop.specs.declared.stop.Stop.TheVariants as stops
use Rattle.ug_event_loop.specs.Standing.{said_by, BuilderStops}
use Rattle.ug_event_loop.specs.StandingLaws.{stays_further}
use Rattle.ug_event_loop.proofs.Builders.{builder-stays, builder-waits}
use Rattle.ug_event_loop.proofs.builder.Builder.take.Goals as goal

none_behind : {T : Type 0} (xs : List T) → xs ++ [] ≡ xs
none_behind [] = refl
none_behind {T} (x ∷ xs) = ap (λ (rest : List T). x ∷ rest) (none_behind xs)

pub returns-in_default-pass_on-clause-stopped : goal.returns-in_default-pass_on-clause-stopped
returns-in_default-pass_on-clause-stopped g c first lines before stands =
    let line = said_by c.args.self.now.grammar c.args.line.now in
    let held = g.K.Sink.held c.take_told.new.report in
    let took = c.in_ok-taken.ensures.taken first lines before stands in
    let waits =
    builder-waits g.S.Machine.rules g.S.Speaker.speech c.take_told.new.self c.pass_on.new.self c.pass_on.ensures.same c.pass_on.ensures.history (λ l. c.pass_on.ensures.legal)
    first (lines ++ line ∷ []) [] before held took.0 in (
      subst (λ (l : List (Reads Saying)). BuilderStops g.S.Machine.rules g.S.Speaker.speech stops.NoMemory c.pass_on.new.self first l before held) (none_behind (lines ++ line ∷ [])) waits.0,
      stays_further g.S.Machine.rules g.S.Speaker.speech c.args.self.now.pass.seen c.take_told.new.self.pass.seen c.pass_on.new.self.pass.seen took.1 waits.1,
    )

pub returns-in-Ok-clause-taken : goal.returns-in-Ok-clause-taken
returns-in-Ok-clause-taken g c first lines before stands =
    let took = c.in_ok-taken.ensures.taken first lines before stands in
    let stays =
    builder-stays g.S.Machine.rules g.S.Speaker.speech c.take_told.new.self c.pass_on.new.self c.pass_on.ensures.same c.pass_on.ensures.tally c.pass_on.ensures.history c.pass_on.ensures.legal
    first (lines ++ said_by c.args.self.now.grammar c.args.line.now ∷ []) before (g.K.Sink.held c.take_told.new.report) took.0 in
    (stays.0, stays_further g.S.Machine.rules g.S.Speaker.speech c.args.self.now.pass.seen c.take_told.new.self.pass.seen c.pass_on.new.self.pass.seen took.1 stays.1)
