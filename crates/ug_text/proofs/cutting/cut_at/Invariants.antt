use Rattle.std.proofs.Common.{◌≡◌, take, drop}
use Rattle.ug_text.specs.Cutting.{cut_at}
use Rattle.ug_text.proofs.Pieces.{in_front}
use Rattle.ug_text.proofs.cutting.cut_at.Given as goal

-- no separator stands before this place
abbrev pub invariant-loop-i : goal.invariant-loop-i
invariant-loop-i l = cut_at l.separator l.text ≡ in_front (take l.i l.text) (cut_at l.separator (drop l.i l.text))
