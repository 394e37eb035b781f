use Rattle.std.proofs.Common.{◌≡◌, ◌-◌, ◌≤◌, length, take}
use Rattle.ug_edge.specs.Told.{AppendsPiece}
use Rattle.ug_pieces.proofs.writing.write_all.Given as goal

abbrev pub invariant-loop-at : goal.invariant-loop-at
invariant-loop-at g l = record {
  within : l.at ≤ length l.text;
  appended : AppendsPiece (g.K.Sink.held l.fn.report) (g.K.Sink.held l.report) (take l.at l.text);
  faults : g.K.Sink.faults l.report ≡ g.K.Sink.faults l.fn.report;
}

abbrev pub decreases-loop-at : goal.decreases-loop-at
decreases-loop-at g l = length l.text - l.at
