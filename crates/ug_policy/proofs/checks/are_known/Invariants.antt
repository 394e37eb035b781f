use Rattle.std.proofs.Common.{◌≡◌, map, drop}
use Rattle.std.specs.List.{list_all}
use Rattle.ug_policy.specs.Rules.{rule_of}
use Rattle.ug_policy.specs.Refusals.{is_known}
use Rattle.ug_policy.proofs.checks.are_known.Given as goal

-- the entries that are left decide
abbrev pub invariant-loop-entry : goal.invariant-loop-entry
invariant-loop-entry l = list_all (is_known l.lists.items) (map rule_of (drop l.entry-index l.entries)) ≡ list_all (is_known l.lists.items) (map rule_of l.entries)
