use Rattle.std.proofs.Common.{◌≡◌}
use Rattle.ug_turnstile.specs.Passes.{IsSamePass}
use Rattle.ug_event_loop.specs.Turns.{GoesOn}
use Rattle.ug_event_loop.specs.Counts.{least_at, most_at, RisesBy, RisesWithin}
use Rattle.ug_sender.specs.Posts.{posts_of}
use Rattle.ug_event_loop.proofs.builder.Builder.pass_on.Given as goal

-- it is the same builder, and what was done so far prepares
abbrev pub invariant-loop : goal.invariant-loop
invariant-loop g l =
    (goal.iterator-loop g).can_next l.iterator' × (goal.iterator-loop g).is_finite l.iterator'
    × IsSamePass l.fn.self.pass l.self.pass × (l.self.names ≡ l.fn.self.names) × (l.self.grammar ≡ l.fn.self.grammar)
    × (l.self.coalesce ≡ l.fn.self.coalesce) × (l.self.tally ≡ l.fn.self.tally) × (posts_of l.crew ≡ posts_of l.fn.crew)
    × GoesOn g.S.Machine.rules g.S.Speaker.speech l.fn.self.pass.seen l.self.pass.seen
    × RisesBy l.fn.steps l.steps (least_at g.S.Machine.rules l.fn.self.pass.root l.fn.self.pass.seen) (least_at g.S.Machine.rules l.fn.self.pass.root l.self.pass.seen)
    × RisesWithin l.fn.steps l.steps (most_at g.S.Machine.rules l.fn.self.pass.root l.fn.self.pass.seen) (most_at g.S.Machine.rules l.fn.self.pass.root l.self.pass.seen)
