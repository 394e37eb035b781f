use Rattle.std.proofs.Common.{◌≡◌, ◌++◌}
use Rattle.ug_world.specs.Private.{keys_of}
use Rattle.ug_world.proofs.loc_rib.LocRib.keys.Given as goal

-- the keys so far and those of the rows that are left make up the whole
abbrev pub invariant-loop-prefix : goal.invariant-loop-prefix
invariant-loop-prefix l = l.keys.items ++ keys_of l.add_path l.prefix-iterator ≡ keys_of l.add_path l.self
