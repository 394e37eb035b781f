use Rattle.std.specs.Prelude.{ℕ, Option}
use Rattle.ug_queue.specs.Spread.{value_of}
use Rattle.ug_groups.specs.Entries.{IsKept}
use Rattle.ug_groups.proofs.WalkSteps.{left_of}
use Rattle.ug_groups.proofs.WalkTables.{IsWalking, desired_of}
use Rattle.ug_groups.proofs.tables.walk.Given as goal

abbrev pub invariant-loop-key : goal.invariant-loop-key
invariant-loop-key l = record {
  kept : (next : ℕ) (hand : Option ℕ) → IsKept next hand l.fn.pool l.fn.live → IsKept next hand l.pool l.live;
  walking : IsWalking l.fn.pool l.fn.live l.fn.g l.fn.from l.pool l.live l.at;
}

abbrev pub decreases-loop-key : goal.decreases-loop-key
decreases-loop-key l = left_of (desired_of l.fn.pool (value_of l.fn.from l.fn.live)) (desired_of l.fn.pool (value_of l.fn.g l.fn.live)) l.at
