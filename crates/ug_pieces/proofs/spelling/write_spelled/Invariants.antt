use Rattle.std.proofs.Common.{◌≡◌, ◌-◌, ◌≤◌, length, take}
use Rattle.ug_edge.specs.Told.{AppendsPiece}
use Rattle.ug_pieces.specs.Codes.{codes_text}
use Rattle.ug_pieces.proofs.spelling.write_spelled.Given as goal

abbrev pub invariant-loop-at : goal.invariant-loop-at
invariant-loop-at g l = record {
  within : l.at ≤ length l.codes;
  appended : AppendsPiece (g.K.Sink.held l.fn.report) (g.K.Sink.held l.report) (codes_text (take l.at l.codes));
  faults : g.K.Sink.faults l.report ≡ g.K.Sink.faults l.fn.report;
}

abbrev pub decreases-loop-at : goal.decreases-loop-at
decreases-loop-at g l = length l.codes - l.at
