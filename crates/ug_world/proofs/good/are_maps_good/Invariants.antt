use Rattle.std.proofs.Common.{◌≡◌, drop}
use Rattle.std.specs.List.{list_all}
use Rattle.ug_world.specs.Parts.{names_of, is_map_good}
use Rattle.ug_world.proofs.good.are_maps_good.Given as goal

-- those that are left decide
abbrev pub invariant-loop-map : goal.invariant-loop-map
invariant-loop-map l = list_all (is_map_good (names_of l.lists)) (drop l.map-index l.maps) ≡ list_all (is_map_good (names_of l.lists)) l.maps
