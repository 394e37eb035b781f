use Rattle.std.proofs.Common.{◌≡◌, [], Ok, refl, ap, subst}
use Rattle.ug_events.specs.Events.{Says}
use Rattle.ug_events.specs.Views.{event_of}
use Rattle.ug_turnstile.specs.Passes.{IsSamePass}
use Rattle.ug_event_loop.specs.Turns.{GoesOn, AnswersAt, answer_of}
use Rattle.ug_event_loop.proofs.Builders.{builder-stays, builder-admits}
use Rattle.ug_event_loop.proofs.builder.Builder.admit_alone.Goals as goal

pub returns-in_default-clause-stopped : goal.returns-in_default-clause-stopped
returns-in_default-clause-stopped g c first held stands =
    let was : c.self.inside.pass ≡ c.args.self.now.pass = ap (λ b. b.pass) c.self.view_is in
    let same = subst (λ p. IsSamePass p c.offer_in_turn.new.pass) was c.offer_in_turn.ensures.same in
    let goes = subst (λ p. GoesOn g.S.Machine.rules g.S.Speaker.speech p.seen c.offer_in_turn.new.pass.seen) was c.in_default.ensures.stopped in
    builder-stays g.S.Machine.rules g.S.Speaker.speech c.args.self.now (record { pass = c.offer_in_turn.new.pass; names = c.self.inside.names.items; grammar = c.self.inside.grammar; coalesce = c.self.inside.coalesce; tally = c.self.inside.tally })
    (record { pass = same; names = ap (λ b. b.names) c.self.view_is; grammar = ap (λ b. b.grammar) c.self.view_is; coalesce = ap (λ b. b.coalesce) c.self.view_is }) (ap (λ b. b.tally) c.self.view_is)
    goes c.offer_in_turn.ensures.legal first [] held held stands

pub returns-clause-taken : goal.returns-clause-taken
returns-clause-taken g c first held stands =
    let was : c.self.inside.pass ≡ c.args.self.now.pass = ap (λ b. b.pass) c.self.view_is in
    let line = Ok (Says (event_of c.args.event)) in
    let answer = answer_of g.S.Speaker.speech.marks c.in-Ok._came in
    let same = subst (λ p. IsSamePass p c.offer_in_turn.new.pass) was c.offer_in_turn.ensures.same in
    let answers = subst (λ p. AnswersAt g.S.Machine.rules g.S.Speaker.speech c.offer_in_turn.new.pass.root line answer p.seen c.offer_in_turn.new.pass.seen) was c.in-Ok.ensures.answers in
    builder-admits g.S.Machine.rules g.S.Speaker.speech c.args.self.now (record { pass = c.offer_in_turn.new.pass; names = c.self.inside.names.items; grammar = c.self.inside.grammar; coalesce = c.self.inside.coalesce; tally = c.self.inside.tally }) c.offer_in_turn.new.pass line answer
    same answers c.offer_in_turn.ensures.legal refl (ap (λ b. b.names) c.self.view_is) (ap (λ b. b.tally) c.self.view_is) first held stands
