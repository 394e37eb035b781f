use Rattle.std.proofs.Common.{drop}
use Rattle.ug_groups.proofs.ToldKeys.{IsTelling}
use Rattle.ug_groups.proofs.telling.tell.Given as goal

abbrev pub invariant-loop-key : goal.invariant-loop-key
invariant-loop-key l = IsTelling l.fn.pool l.pool l.fn.out l.out l.keys (drop l.key-index l.keys)
