use Rattle.std.proofs.Common.{◌≡◌, ◌≤◌, length}
use Rattle.ug_pieces.proofs.LineCuts.{IsWithin}
use Rattle.ug_event_loop.specs.Counts.{least_at, most_at, RisesBy, RisesWithin}
use Rattle.ug_event_loop.specs.Standing.{IsSameBuilder, TakesLines}
use Rattle.ug_sender.specs.Posts.{posts_of}
use Rattle.ug_event_loop.proofs.lines.take_piece.Given as goal

abbrev pub invariant-loop-line : goal.invariant-loop-line
invariant-loop-line g l = record {
  within : IsWithin (TakesLines g.S.Machine.rules g.S.Speaker.speech l.fn.builder (g.K.Sink.held l.fn.report) l.builder (g.K.Sink.held l.report)) l.fn.begun.kept l.fn.begun.most
      l.fn.begun.rest.items l.fn.piece l.begun.rest.items l.left l.fn.begun.count l.begun.count l.begun.kept l.begun.most;
  same : IsSameBuilder l.fn.builder l.builder;
  posts : posts_of l.crew ≡ posts_of l.fn.crew;
  faults : g.K.Sink.faults l.fn.report ≤ g.K.Sink.faults l.report;
  least : RisesBy l.fn.steps l.steps (least_at g.S.Machine.rules l.fn.builder.pass.root l.fn.builder.pass.seen) (least_at g.S.Machine.rules l.fn.builder.pass.root l.builder.pass.seen);
  most : RisesWithin l.fn.steps l.steps (most_at g.S.Machine.rules l.fn.builder.pass.root l.fn.builder.pass.seen) (most_at g.S.Machine.rules l.fn.builder.pass.root l.builder.pass.seen);
}

abbrev pub decreases-loop-line : goal.decreases-loop-line
decreases-loop-line g l = length l.left
