use Rattle.std.specs.Prelude.{◌≡◌, ℕ, ◌-◌, ◌^◌}
use Rattle.ug_outbound.specs.declared.key.GroupKey.{GroupKey}
use Rattle.ug_groups.specs.Values.{valued_by}
use Rattle.ug_groups.specs.Standings.{desiring}
use Rattle.ug_groups.specs.Rows.{of_key}
use Rattle.ug_groups.specs.Entries.{rows_in, IsKept}
use Rattle.ug_groups.specs.Sweeps.{IsSweep, IsClassOf}
use Rattle.ug_groups.proofs.sweeps.desire_each.Given as goal

abbrev pub invariant-loop-g : goal.invariant-loop-g
invariant-loop-g l = record {
  kept : (next : ℕ) → IsKept next l.fn.id l.fn.pool l.fn.live → IsKept next l.fn.id l.pool l.live;
  class : (group : GroupKey) → IsClassOf l.fn.live l.fn.class group → IsClassOf l.live l.fn.class group;
  value : valued_by l.pool l.fn.id ≡ valued_by l.fn.pool l.fn.id;
  rows : (group : GroupKey) → IsClassOf l.fn.live l.fn.class group → IsSweep (of_key group (desiring l.fn.key (valued_by l.fn.pool l.fn.id))) (rows_in l.fn.pool l.fn.live) (rows_in l.pool l.live) l.from;
}

abbrev pub decreases-loop-g : goal.decreases-loop-g
decreases-loop-g l = 2 ^ 32 - l.from
