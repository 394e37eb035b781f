use Rattle.std.proofs.Common.{◌≡◌, drop}
use Rattle.ug_world.specs.Names.{is_name_among}
use Rattle.ug_world.specs.Parts.{names_of}
use Rattle.ug_world.proofs.good.is_among.Given as goal

-- those that are left decide
abbrev pub invariant-loop-value : goal.invariant-loop-value
invariant-loop-value g l = is_name_among (names_of (drop l.value-index l.values)) l.name ≡ is_name_among (names_of l.values) l.name
