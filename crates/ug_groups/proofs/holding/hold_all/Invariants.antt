use Rattle.std.proofs.Common.{length}
use Rattle.ug_adjout.specs.Tables.{rows_after}
use Rattle.ug_groups.specs.Holders.{rows_of}
use Rattle.ug_groups.proofs.TableHolders.{IsHolding}
use Rattle.ug_groups.proofs.holding.hold_all.Given as goal

abbrev pub invariant-loop-row : goal.invariant-loop-row
invariant-loop-row g l = IsHolding g.K.Ord.cmp l.fn.pool l.pool (rows_of l.fn.side l.fn.adj) l.at

abbrev pub decreases-loop-row : goal.decreases-loop-row
decreases-loop-row g l = length (rows_after g.K.Ord.cmp l.at (rows_of l.fn.side l.fn.adj))
