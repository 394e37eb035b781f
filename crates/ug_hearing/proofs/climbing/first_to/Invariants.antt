use Rattle.std.proofs.Common.{option_copied}
use Rattle.ug_hearing.specs.Searching.{NoneTo}
use Rattle.ug_hearing.proofs.climbing.first_to.Given as goal

abbrev pub invariant-loop-i : goal.invariant-loop-i
invariant-loop-i l = NoneTo l.fn.next l.i l.changes (option_copied l.fn.value)
