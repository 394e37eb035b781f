use Rattle.std.proofs.Common.{◌≡◌, ◌++◌, drop}
use Rattle.ug_world.specs.Private.{own_keys}
use Rattle.ug_world.proofs.keys.unordered.Given as goal

-- the keys so far and those of the paths that are left make up the whole
abbrev pub invariant-loop-path : goal.invariant-loop-path
invariant-loop-path l = l.keys.items ++ own_keys l.prefix (drop l.path-index l.paths) ≡ own_keys l.prefix l.paths
