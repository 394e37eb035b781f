use Rattle.std.proofs.Common.{◌≡◌, ◌++◌, map}
use Rattle.ug_policy.specs.Rules.{rule_of}
use Rattle.ug_config.proofs.world.entries_of.Given as goal

-- the entries so far and the rules that are left are all
abbrev pub invariant-loop-rule : goal.invariant-loop-rule
invariant-loop-rule l = map rule_of l.entries.items ++ l.rule-iterator.rest.items ≡ l.fn.rules.items
