use Rattle.std.proofs.Common.{◌≡◌, take, min}
use Rattle.ug_policy.specs.Refusals.{prepends_in, communities_in}
use Rattle.ug_config.proofs.limits.has_few_sets.Given as goal

-- the numbers of the rules so far
abbrev pub invariant-loop-rule : goal.invariant-loop-rule
invariant-loop-rule l = record {
  prepended : l.prepends ≡ min (prepends_in (take l.rule-index l.rules)) 18446744073709551615;
  named : l.communities ≡ min (communities_in (take l.rule-index l.rules)) 18446744073709551615;
}
