use Rattle.std.proofs.Common.{◌≡◌, map, take}
use Rattle.ug_world.specs.Verdicts.{path_of}
use Rattle.ug_world.proofs.world.World.paths_of.Given as goal

-- those so far
abbrev pub invariant-loop-path : goal.invariant-loop-path
invariant-loop-path l = l.paths.items ≡ map (path_of l.self) (take l.path-index l.given)
