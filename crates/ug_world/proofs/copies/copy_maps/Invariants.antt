use Rattle.std.proofs.Common.{◌≡◌, take}
use Rattle.ug_world.proofs.copies.copy_maps.Given as goal

-- what was copied so far
abbrev pub invariant-loop-map : goal.invariant-loop-map
invariant-loop-map l = l.copy.items ≡ take l.map-index l.maps.items
