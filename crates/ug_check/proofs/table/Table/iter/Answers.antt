use Rattle.ug_check.proofs.Kept.{view_ascends}
use Rattle.ug_check.proofs.table.Table.iter.Goals as goal

pub returns-clause-ascending : goal.returns-clause-ascending
returns-clause-ascending c =
    let t = c.self.inside in
    view_ascends t.refreshes t.v4.entries t.v6.entries t.refreshing c.args.self.now c.self.view_is c.self.invariant
