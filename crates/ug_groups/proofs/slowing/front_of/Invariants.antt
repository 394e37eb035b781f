use Rattle.std.proofs.Common.{◌≡◌, Some}
use Rattle.ug_groups.specs.Rows.{Row, row_at}
use Rattle.ug_groups.specs.Fronts.{AreCollected}
use Rattle.ug_groups.proofs.slowing.front_of.Given as goal

-- those below this number
abbrev pub invariant-loop-id : goal.invariant-loop-id
invariant-loop-id l = (r : Row) → row_at l.sub l.subgroups ≡ Some r → AreCollected r.queue l.id l.front.items
