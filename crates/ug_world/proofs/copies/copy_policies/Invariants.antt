use Rattle.std.proofs.Common.{◌≡◌, take}
use Rattle.ug_world.proofs.copies.copy_policies.Given as goal

-- what was copied so far
abbrev pub invariant-loop-policy : goal.invariant-loop-policy
invariant-loop-policy l = l.copy.items ≡ take l.policy-index l.policies.items
