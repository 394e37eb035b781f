use Rattle.std.proofs.Common.{◌≡◌, true, ◌++◌, map}
use Rattle.std.specs.List.{list_all}
use Rattle.ug_policy.specs.Rules.{rule_seq}
use Rattle.ug_config.specs.Worlds.{in_order, is_map}
use Rattle.ug_config.proofs.world.maps_of.Given as goal

-- the maps so far and those that are left are all, and those that are left aren't refused
abbrev pub invariant-loop-map : goal.invariant-loop-map
invariant-loop-map l = record {
  made : l.maps.items ++ map (in_order rule_seq) l.map-iterator.rest.items ≡ map (in_order rule_seq) l.fn.read.items;
  left : list_all (is_map l.names.items) l.map-iterator.rest.items ≡ true;
}
