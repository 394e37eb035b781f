use Rattle.std.specs.Prelude.{◌≡◌, length}
use Rattle.ug_groups.specs.Company.{AreMarked, AreUnlike}
use Rattle.ug_groups.proofs.company.some_alike.Given as goal

abbrev pub invariant-loop-i : goal.invariant-loop-i
invariant-loop-i l =
    record {
      size : length l.marks ≡ 256;
      marked : AreMarked l.i l.entries l.marks;
      unlike : AreUnlike l.i l.entries;
    }
