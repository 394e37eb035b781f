use Rattle.std.proofs.Common.{◌≡◌, map, drop}
use Rattle.std.specs.List.{list_all}
use Rattle.ug_policy.specs.Rules.{MapRule, rule_of}
use Rattle.ug_world.specs.Parts.{names_of, is_one_of}
use Rattle.ug_world.proofs.good.are_lists_there.Given as goal

-- those that are left decide
abbrev pub invariant-loop-entry : goal.invariant-loop-entry
invariant-loop-entry l = list_all (λ (r : MapRule). is_one_of (names_of l.lists) r.match_prefix_list) (map rule_of (drop l.entry-index l.entries)) ≡ list_all (λ (r : MapRule). is_one_of (names_of l.lists) r.match_prefix_list) (map rule_of l.entries)
