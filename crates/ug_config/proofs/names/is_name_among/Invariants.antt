use Rattle.std.proofs.Common.{◌≡◌, drop}
use Rattle.ug_world.specs.Names.{is_name_among}
use Rattle.ug_config.proofs.names.is_name_among.Given as goal

-- the names that are left decide
abbrev pub invariant-loop-one : goal.invariant-loop-one
invariant-loop-one l = is_name_among (drop l.one-index l.names) l.name ≡ is_name_among l.names l.name
