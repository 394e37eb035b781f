use Rattle.std.proofs.Common.{◌≡◌, take}
use Rattle.ug_pieces.specs.Codes.{pieces_text}
use Rattle.ug_pieces.proofs.piece.are_same.Given as goal

abbrev pub invariant-loop-place : goal.invariant-loop-place
invariant-loop-place l = pieces_text (take l.place l.one) ≡ pieces_text (take l.place l.other)
