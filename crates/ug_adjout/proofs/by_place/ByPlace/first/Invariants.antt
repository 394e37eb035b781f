use Rattle.std.proofs.Common.{◌≡◌, drop}
use Rattle.ug_adjout.proofs.Placed.{first_in}
use Rattle.ug_adjout.proofs.by_place.ByPlace.first.Given as goal

abbrev pub invariant-loop-at : goal.invariant-loop-at
invariant-loop-at l = first_in (drop l.at l.self-inside.values.items) ≡ first_in l.self-inside.values.items
