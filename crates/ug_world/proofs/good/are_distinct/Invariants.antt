use Rattle.std.proofs.Common.{◌≡◌, drop}
use Rattle.ug_world.specs.Names.{are_distinct}
use Rattle.ug_world.specs.Parts.{names_of}
use Rattle.ug_world.proofs.good.are_distinct.Given as goal

-- those that are left decide
abbrev pub invariant-loop-i : goal.invariant-loop-i
invariant-loop-i g l = are_distinct (names_of (drop l.i l.values)) ≡ are_distinct (names_of l.values)
