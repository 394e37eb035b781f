use Rattle.std.proofs.Common.{◌≡◌, ◌++◌, drop, map}
use Rattle.std.specs.String.{string_bytes}
use Rattle.std.specs.List.{flat_map}
use Rattle.ug_hearing.specs.Climbed.{shift_of}
use Rattle.ug_audit.specs.Texts.{shift_text}
use Rattle.ug_audit.proofs.certificate.write_moves.Given as goal

-- what is written so far and the words of those that are left make up the whole
abbrev pub invariant-loop-shift : goal.invariant-loop-shift
invariant-loop-shift l = string_bytes l.out ++ flat_map shift_text (map shift_of (drop l.shift-index l.moves)) ≡ string_bytes l.fn.out ++ flat_map shift_text (map shift_of l.moves)
