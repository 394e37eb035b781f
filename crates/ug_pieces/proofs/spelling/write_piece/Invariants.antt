use Rattle.std.proofs.Common.{◌≡◌, ◌++◌, ◌*◌, ◌≤◌, drop}
use Rattle.arrayvec.specs.ArrayVec.{array_vec_len}
use Rattle.ug_pieces.specs.Codes.{codes_text}
use Rattle.ug_pieces.proofs.spelling.write_piece.Given as goal

abbrev pub invariant-loop-code : goal.invariant-loop-code
invariant-loop-code g l = record {
  spelled : l.room.items ++ codes_text (drop l.code-index l.codes) ≡ codes_text l.codes;
  len : array_vec_len l.room ≤ 12 * l.code-index;
}
