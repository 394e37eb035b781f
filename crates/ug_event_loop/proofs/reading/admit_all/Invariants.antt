use Rattle.std.proofs.Common.{◌≡◌, ℕ, List, [], map, Option}
use Rattle.std.specs.Vec.Iter.{into_iter_items}
use Rattle.ug_events.specs.Views.{event_of}
use Rattle.ug_speaker.specs.Owes.{AreEvents}
use Rattle.ug_sender.specs.Posts.{posts_of}
use Rattle.ug_event_loop.specs.Counts.{least_at, most_at, RisesBy, RisesWithin}
use Rattle.ug_event_loop.specs.Standing.{IsSameBuilder, BuilderStands}
use Rattle.ug_event_loop.proofs.Admitting.{HasAdmitted}
use Rattle.ug_event_loop.proofs.reading.admit_all.Given as goal

-- those that were taken so far, and those that are left
abbrev pub invariant-loop-event : goal.invariant-loop-event
invariant-loop-event g l = record {
  form : AreEvents (map event_of (into_iter_items l.event-iterator));
  same : IsSameBuilder l.fn.builder l.builder;
  posts : posts_of l.crew ≡ posts_of l.fn.crew;
  taken : (held : Option (List ℕ)) → BuilderStands g.S.Machine.rules g.S.Speaker.speech l.fn.builder [] [] held held
      → HasAdmitted g.S.Machine.rules g.S.Speaker.speech l.fn.first.items (into_iter_items l.event-iterator) l.fn.builder l.builder held;
  least : RisesBy l.fn.steps l.steps (least_at g.S.Machine.rules l.fn.builder.pass.root l.fn.builder.pass.seen) (least_at g.S.Machine.rules l.fn.builder.pass.root l.builder.pass.seen);
  most : RisesWithin l.fn.steps l.steps (most_at g.S.Machine.rules l.fn.builder.pass.root l.fn.builder.pass.seen) (most_at g.S.Machine.rules l.fn.builder.pass.root l.builder.pass.seen);
}
