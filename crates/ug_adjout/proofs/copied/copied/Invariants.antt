use Rattle.std.proofs.Common.{◌≡◌, ◌++◌}
use Rattle.ug_adjout.specs.Tables.{IsTable}
use Rattle.ug_adjout.proofs.copied.copied.Given as goal

abbrev pub invariant-loop-key : goal.invariant-loop-key
invariant-loop-key g l = record { so_far : l.copy.entries ++ l.key-iterator ≡ l.map.entries; ordered : IsTable g.K.Ord.cmp l.map.entries }
