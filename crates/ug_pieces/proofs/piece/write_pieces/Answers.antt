use Rattle.std.proofs.Common.{arith, ◌≡◌, ◌+◌, ◌++◌, ◌∷◌, [], take}
use Rattle.std.proofs.lemmas.Grind.{common_steps}
use Rattle.ug_pieces.specs.Codes.{piece_text}
use Rattle.ug_pieces.proofs.Coding.{item_front}
use Rattle.ug_pieces.proofs.piece.write_pieces.Goals as goal

pub returns-in-Err-clause-err : goal.returns-in-Err-clause-err
returns-in-Err-clause-err g c =
    let more : take (c.loop-piece.piece-index + 1) c.args.pieces.now ≡ take c.loop-piece.piece-index c.args.pieces.now ++ c.piece-item.result ∷ [] = grind (arith, common_steps) in
    item_front piece_text (g.K.Sink.held c.args.report.now) (g.K.Sink.held c.loop-piece.report) (g.K.Sink.held c.write_piece.new.report) c.args.pieces.now c.piece-item.result c.loop-piece.piece-index more c.loop-piece.invariant.appended c.in-Err.ensures.err
