use Rattle.std.proofs.Common.{[], ◌∷◌, Err, refl, ap, ◌∙◌}
use Rattle.ug_event_loop.specs.Standing.{said_by}
use Rattle.ug_event_loop.proofs.Builders.{builder-waits, builder-uncounted, builder-takes, builder-stopped}
use Rattle.ug_event_loop.proofs.builder.Builder.take_told.Goals as goal

pub returns-in_default-clause-stopped : goal.returns-in_default-clause-stopped
returns-in_default-clause-stopped g c first lines before stands =
    builder-waits g.S.Machine.rules g.S.Speaker.speech c.args.self.now c.come.new.self c.come.ensures.same c.in_default.ensures.stopped c.come.ensures.legal
    first lines (said_by c.args.self.now.grammar c.args.line.now ∷ []) before (g.K.Sink.held c.args.report.now) stands

pub returns-in_default-with-clause-stopped : goal.returns-in_default-with-clause-stopped
returns-in_default-with-clause-stopped g c =
    let laws = g.met.S.Speaker g.world.𝓛 g.world.𝓜 g.world.𝓡 ((λ s x. x), (λ x. x), (λ x. x), λ x. x) in
    builder-uncounted g.S.Machine.rules g.S.Speaker.speech laws.speaks.steps c.args.self.now c.come.new.self (g.K.Sink.held c.args.report.now) c.args.line.now c.in-Ok.came c.come.ensures.same
    c.in-Ok.ensures.answers c.come.ensures.legal c.come.new.self refl c.come.ensures.same.names

pub returns-in-Err-clause-stopped : goal.returns-in-Err-clause-stopped
returns-in-Err-clause-stopped g c =
    let laws = g.met.S.Speaker g.world.𝓛 g.world.𝓜 g.world.𝓡 ((λ s x. x), (λ x. x), (λ x. x), λ x. x) in
    builder-stopped g.S.Machine.rules g.S.Speaker.speech laws.speaks.steps c.args.self.now c.come.new.self (g.K.Sink.held c.args.report.now) c.args.line.now c.in-Ok.came c.come.ensures.same
    c.in-Ok.ensures.answers c.come.ensures.legal
    c.come.new.self.names c.self.inside.tally c.in-Some.tally c.come.new.self (g.K.Sink.held c.tell.new.report) c.come.ensures.same.names (ap (λ b. b.tally) c.self.view_is ∙ c.come.ensures.tally)
    c.in-Some.ensures.lines refl c.come.ensures.same.names
    c.in-Err.stop (λ is. c.in-Err.ensures.starved (ap Err is)) (λ is. c.in-Err.ensures.failed (ap Err is))

pub returns-clause-taken : goal.returns-clause-taken
returns-clause-taken g c =
    let laws = g.met.S.Speaker g.world.𝓛 g.world.𝓜 g.world.𝓡 ((λ s x. x), (λ x. x), (λ x. x), λ x. x) in
    builder-takes g.S.Machine.rules g.S.Speaker.speech laws.speaks.steps c.args.self.now c.come.new.self (g.K.Sink.held c.args.report.now) c.args.line.now c.in-Ok.came c.come.ensures.same
    c.in-Ok.ensures.answers c.come.ensures.legal
    c.come.new.self.names c.self.inside.tally c.in-Some.tally (record { pass = c.self.inside.pass; names = c.self.inside.names.items; grammar = c.self.inside.grammar; coalesce = c.self.inside.coalesce; tally = c.in-Some.tally }) (g.K.Sink.held c.tell.new.report) c.come.ensures.same.names (ap (λ b. b.tally) c.self.view_is ∙ c.come.ensures.tally)
    c.in-Some.ensures.lines (ap (λ b. b.pass) c.self.view_is) (ap (λ b. b.names) c.self.view_is ∙ c.come.ensures.same.names)
    c.in-Ok-tell.ensures.ok c.in-Ok-tell.ensures.counts refl c.in-Some.ensures.accepted c.in-Some.ensures.refused

pub returns-in-Took-clause-taken : goal.returns-in-Took-clause-taken
returns-in-Took-clause-taken g c =
    let laws = g.met.S.Speaker g.world.𝓛 g.world.𝓜 g.world.𝓡 ((λ s x. x), (λ x. x), (λ x. x), λ x. x) in
    builder-takes g.S.Machine.rules g.S.Speaker.speech laws.speaks.steps c.args.self.now c.come.new.self (g.K.Sink.held c.args.report.now) c.args.line.now c.in-Ok.came c.come.ensures.same
    c.in-Ok.ensures.answers c.come.ensures.legal
    c.come.new.self.names c.self.inside.tally c.in-Some.tally (record { pass = c.self.inside.pass; names = c.self.inside.names.items; grammar = c.self.inside.grammar; coalesce = c.self.inside.coalesce; tally = c.in-Some.tally }) (g.K.Sink.held c.tell.new.report) c.come.ensures.same.names (ap (λ b. b.tally) c.self.view_is ∙ c.come.ensures.tally)
    c.in-Some.ensures.lines (ap (λ b. b.pass) c.self.view_is) (ap (λ b. b.names) c.self.view_is ∙ c.come.ensures.same.names)
    c.in-Ok-tell.ensures.ok c.in-Ok-tell.ensures.counts refl c.in-Some.ensures.accepted c.in-Some.ensures.refused
