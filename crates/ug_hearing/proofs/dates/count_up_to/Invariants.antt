use Rattle.ug_hearing.specs.Watched.{AreUpTo}
use Rattle.ug_hearing.proofs.dates.count_up_to.Given as goal

abbrev pub invariant-loop-i : goal.invariant-loop-i
invariant-loop-i l = AreUpTo l.dates l.i l.version
