use Rattle.std.proofs.Common.{◌≡◌, take}
use Rattle.ug_edge.specs.Told.{AppendsPiece}
use Rattle.ug_pieces.specs.Codes.{pieces_text}
use Rattle.ug_pieces.proofs.piece.write_pieces.Given as goal

abbrev pub invariant-loop-piece : goal.invariant-loop-piece
invariant-loop-piece g l = record {
  appended : AppendsPiece (g.K.Sink.held l.fn.report) (g.K.Sink.held l.report) (pieces_text (take l.piece-index l.pieces));
  faults : g.K.Sink.faults l.report ≡ g.K.Sink.faults l.fn.report;
}
