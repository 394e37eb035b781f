use Rattle.std.proofs.Common.{◌≡◌, take}
use Rattle.ug_world.specs.Parts.{names_of}
use Rattle.ug_config.proofs.names.names_of.Given as goal

-- the names so far
abbrev pub invariant-loop-item : goal.invariant-loop-item
invariant-loop-item g l = l.names.items ≡ names_of (take l.item-index l.items)
