use Rattle.std.proofs.Common.{◌≡◌, map, drop}
use Rattle.ug_policy.specs.Rules.{rule_of}
use Rattle.ug_policy.specs.Maps.{is_met, map_walk, map_result}
use Rattle.ug_policy.proofs.map.walk.Given as goal

-- the entries that are left decide
abbrev pub invariant-loop-entry : goal.invariant-loop-entry
invariant-loop-entry l = map_walk (is_met l.lists.items l.prefix) l.attrs l.least l.mapped (map rule_of (drop l.entry-index l.entries)) ≡ map_result l.lists.items (map rule_of l.entries) l.attrs l.prefix
