use Rattle.ug_check.proofs.Kept.{stale_view_ascends}
use Rattle.ug_check.proofs.table.Table.stale_len.Goals as goal

pub returns-then-not-self-clause-ascending : goal.returns-then-not-self-clause-ascending
returns-then-not-self-clause-ascending c =
    let t = c.self.inside in
    stale_view_ascends t.refreshes t.v4.entries t.v6.entries t.refreshing c.args.self.now c.self.view_is c.self.invariant

pub returns-clause-ascending : goal.returns-clause-ascending
returns-clause-ascending c =
    let t = c.self.inside in
    stale_view_ascends t.refreshes t.v4.entries t.v6.entries t.refreshing c.args.self.now c.self.view_is c.self.invariant
