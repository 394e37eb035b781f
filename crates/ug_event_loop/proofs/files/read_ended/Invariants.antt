use Rattle.std.proofs.Common.{◌≡◌, ◌-◌, ◌≤◌, length}
use Rattle.std.specs.Vec.{vec_len}
use Rattle.ug_pieces.specs.Pieces.{HasRead}
use Rattle.ug_pieces.specs.LineSteps.{HasTakenLines}
use Rattle.ug_event_loop.specs.Counts.{least_at, most_at, RisesBy, RisesWithin}
use Rattle.ug_event_loop.specs.Standing.{IsSameBuilder, TakesLines}
use Rattle.ug_sender.specs.Posts.{posts_of}
use Rattle.ug_event_loop.proofs.files.read_ended.Given as goal

abbrev pub invariant-loop-count : goal.invariant-loop-count
invariant-loop-count g l = record {
  behind : HasRead (g.E.Source.left l.fn.source) (g.E.Source.left l.source) (λ read. (length read ≡ l.total)
      × HasTakenLines (TakesLines g.S.Machine.rules g.S.Speaker.speech l.fn.builder (g.K.Sink.held l.fn.report) l.builder (g.K.Sink.held l.report))
      l.fn.begun.kept l.fn.begun.most l.fn.begun.rest.items l.begun.rest.items l.fn.begun.count l.begun.count l.begun.kept l.begun.most read);
  within : l.total ≤ l.limit;
  room : vec_len l.buffer ≡ 65536;
  same : IsSameBuilder l.fn.builder l.builder;
  posts : posts_of l.crew ≡ posts_of l.fn.crew;
  writes : g.K.Sink.faults l.fn.report ≤ g.K.Sink.faults l.report;
  least : RisesBy l.fn.steps l.steps (least_at g.S.Machine.rules l.fn.builder.pass.root l.fn.builder.pass.seen) (least_at g.S.Machine.rules l.fn.builder.pass.root l.builder.pass.seen);
  most : RisesWithin l.fn.steps l.steps (most_at g.S.Machine.rules l.fn.builder.pass.root l.fn.builder.pass.seen) (most_at g.S.Machine.rules l.fn.builder.pass.root l.builder.pass.seen);
  faults : g.E.Source.faults l.source ≡ g.E.Source.faults l.fn.source;
  files : g.E.Source.files l.source ≡ g.E.Source.files l.fn.source;
  picks : g.E.Source.picks l.source ≡ g.E.Source.picks l.fn.source;
  made : g.E.Source.made l.source ≡ g.E.Source.made l.fn.source;
  wire_faults : g.E.Source.wire_faults l.source ≡ g.E.Source.wire_faults l.fn.source;
}

abbrev pub decreases-loop-count : goal.decreases-loop-count
decreases-loop-count g l = l.limit - l.total
