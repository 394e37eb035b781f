use Rattle.std.specs.Prelude.{ℕ, ◌-◌, ◌^◌, Option}
use Rattle.ug_intern.specs.Pools.{Pooled}
use Rattle.ug_types.specs.declared.route.OutAttrs.{OutAttrs}
use Rattle.ug_groups.specs.Rows.{counted_row}
use Rattle.ug_groups.specs.Entries.{rows_in, IsKept}
use Rattle.ug_groups.specs.Sweeps.{IsSweep}
use Rattle.ug_groups.proofs.sweeps.count_all.Given as goal

abbrev pub invariant-loop-g : goal.invariant-loop-g
invariant-loop-g l = record {
  kept : (next : ℕ) (hand : Option ℕ) (pool : Pooled OutAttrs) → IsKept next hand pool l.fn.live → IsKept next hand pool l.live;
  rows : (pool : Pooled OutAttrs) → IsSweep counted_row (rows_in pool l.fn.live) (rows_in pool l.live) l.from;
}

abbrev pub decreases-loop-g : goal.decreases-loop-g
decreases-loop-g l = 2 ^ 32 - l.from
