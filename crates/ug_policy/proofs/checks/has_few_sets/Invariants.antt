use Rattle.std.proofs.Common.{◌≡◌, map, take, min}
use Rattle.ug_policy.specs.Rules.{rule_of}
use Rattle.ug_policy.specs.Refusals.{prepends_in, communities_in}
use Rattle.ug_policy.proofs.checks.has_few_sets.Given as goal

-- the numbers of the entries so far
abbrev pub invariant-loop-entry : goal.invariant-loop-entry
invariant-loop-entry l = record {
  prepended : l.prepends ≡ min (prepends_in (map rule_of (take l.entry-index l.entries))) 18446744073709551615;
  named : l.communities ≡ min (communities_in (map rule_of (take l.entry-index l.entries))) 18446744073709551615;
}
