use Rattle.std.proofs.Common.{◌≡◌, drop}
use Rattle.ug_policy.specs.Maps.{added}
use Rattle.ug_policy.proofs.sets.add_all.Given as goal

-- the numbers that are left are still to be added
abbrev pub invariant-loop-number : goal.invariant-loop-number
invariant-loop-number l = added (drop l.number-index l.numbers) l.communities.items ≡ added l.numbers l.fn.communities.items
