use Rattle.std.proofs.Common.{◌≡◌, take}
use Rattle.ug_world.proofs.best.copy_paths.Given as goal

-- what was copied so far
abbrev pub invariant-loop-path : goal.invariant-loop-path
invariant-loop-path l = l.copy.items ≡ take l.path-index l.paths
