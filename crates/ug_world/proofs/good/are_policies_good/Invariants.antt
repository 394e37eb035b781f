use Rattle.std.proofs.Common.{◌≡◌, drop}
use Rattle.std.specs.List.{list_all}
use Rattle.ug_world.specs.Parts.{names_of, is_policy_good}
use Rattle.ug_world.proofs.good.are_policies_good.Given as goal

-- those that are left decide
abbrev pub invariant-loop-policy : goal.invariant-loop-policy
invariant-loop-policy l = list_all (is_policy_good (names_of l.lists) (names_of l.maps)) (drop l.policy-index l.policies) ≡ list_all (is_policy_good (names_of l.lists) (names_of l.maps)) l.policies
