use Rattle.ug_adjout.proofs.Runs.{withdrawals_are}
use Rattle.ug_adjout.proofs.table.Table.withdrawals.Goals as goal

pub returns : goal.returns
returns g c =
    rw (← c.self.view_is, withdrawals_are g.met.K.Ord.total g.met.K.OutKey.exact _ _ _ c.self.invariant) c.first_for.ensures
