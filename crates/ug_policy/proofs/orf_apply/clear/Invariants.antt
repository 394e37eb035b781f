use Rattle.std.proofs.Common.{◌≤◌, length}
use Rattle.ug_policy.proofs.orf_apply.clear.Given as goal

abbrev pub invariant-loop : goal.invariant-loop
invariant-loop l = l.fn.entries.spare ≤ l.entries.spare

abbrev pub decreases-loop : goal.decreases-loop
decreases-loop l = length l.entries.items
