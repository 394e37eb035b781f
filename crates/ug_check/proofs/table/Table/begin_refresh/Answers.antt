use Rattle.ug_check.proofs.Found.{begun_stale}
use Rattle.ug_check.proofs.Kept.{ascending}
use Rattle.ug_check.proofs.table.Table.begin_refresh.Goals as goal

pub returns-clause-stale : goal.returns-clause-stale
returns-clause-stale c =
    let t = c.self.inside in
    rw (← c.self.view_is) (begun_stale t.refreshes t.v4.entries t.v6.entries c.self.invariant.all_v4 c.self.invariant.all_v6 (ascending t.refreshes t.v4.entries t.v6.entries c.self.invariant))
