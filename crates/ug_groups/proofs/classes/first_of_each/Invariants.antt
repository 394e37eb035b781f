use Rattle.std.specs.Prelude.{◌≡◌, [], ◌++◌, take, drop}
use Rattle.ug_groups.specs.Scans.{firsts}
use Rattle.ug_groups.proofs.classes.first_of_each.Given as goal

abbrev pub invariant-loop-i : goal.invariant-loop-i
invariant-loop-i l = l.numbers.items ++ firsts (take l.i l.entries) (drop l.i l.entries) ≡ firsts [] l.entries
