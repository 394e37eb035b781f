use Rattle.std.proofs.Common.{◌≡◌, take}
use Rattle.std.specs.List.{flat_map}
use Rattle.ug_edge.specs.Told.{AppendsPiece}
use Rattle.ug_pieces.specs.Codes.{part_text}
use Rattle.ug_pieces.proofs.short.write_parts.Given as goal

abbrev pub invariant-loop-part : goal.invariant-loop-part
invariant-loop-part g l = record {
  appended : AppendsPiece (g.K.Sink.held l.fn.report) (g.K.Sink.held l.report) (flat_map part_text (take l.part-index l.parts));
  faults : g.K.Sink.faults l.report ≡ g.K.Sink.faults l.fn.report;
}
