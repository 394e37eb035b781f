use Rattle.std.proofs.Common.{◌≡◌, take}
use Rattle.ug_adjout.proofs.by_place.copied_row.Given as goal

abbrev pub invariant-loop-at : goal.invariant-loop-at
invariant-loop-at l = l.copy.items ≡ take l.at l.row.items
