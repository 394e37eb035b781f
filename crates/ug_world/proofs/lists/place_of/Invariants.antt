use Rattle.std.proofs.Common.{◌≡◌, map, drop}
use Rattle.ug_world.specs.Names.{is_name_among}
use Rattle.ug_world.specs.Kept.{name_of}
use Rattle.ug_world.proofs.lists.place_of.Given as goal

-- the lists that are left decide
abbrev pub invariant-loop-place : goal.invariant-loop-place
invariant-loop-place l = is_name_among (map name_of (drop l.place l.lists)) l.name ≡ is_name_among (map name_of l.lists) l.name
