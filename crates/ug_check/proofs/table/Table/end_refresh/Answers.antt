use Rattle.std.proofs.Common.{◌≡◌, true, rules}
use Rattle.ug_check.proofs.Found.{swept_view}
use Rattle.ug_check.proofs.Kept.{ascending, swept}
use Rattle.ug_check.proofs.table.Table.end_refresh.Goals as goal

pub invariant_of-self : goal.invariant_of-self
invariant_of-self c =
    let t = c.self.inside in
    swept t.refreshes t.v4.entries t.v6.entries c.sweep.new.rows.entries c.sweep-2.new.rows.entries
    c.sweep.ensures.rows c.sweep-2.ensures.rows c.sweep.ensures.ascending c.sweep-2.ensures.ascending c.self.invariant

pub returns-clause-row : goal.returns-clause-row
returns-clause-row c =
    let t = c.self.inside in
    let on : t.refreshing ≡ true = search rules in
    swept_view t.refreshes t.v4.entries t.v6.entries c.sweep.new.rows.entries c.sweep-2.new.rows.entries t.refreshing c.args.self.now on c.self.view_is
    c.sweep.ensures.rows c.sweep-2.ensures.rows (ascending t.refreshes t.v4.entries t.v6.entries c.self.invariant)
