use Rattle.std.proofs.Common.{◌≡◌, map, take}
use Rattle.ug_policy.specs.Rules.{rule_of}
use Rattle.ug_policy.proofs.copies.copy_entries.Given as goal

-- what was copied so far
abbrev pub invariant-loop-entry : goal.invariant-loop-entry
invariant-loop-entry l = map rule_of l.copy.items ≡ map rule_of (take l.entry-index l.entries)
