use Rattle.std.proofs.Common.{◌≡◌, ◌++◌}
use Rattle.std.specs.Map.{keys_of}
use Rattle.ug_hearing.proofs.rows.add_keys.Given as goal

abbrev pub invariant-loop-key : goal.invariant-loop-key
invariant-loop-key g l = l.keys.items ++ keys_of l.key-iterator ≡ l.fn.keys.items ++ keys_of l.fn.map
