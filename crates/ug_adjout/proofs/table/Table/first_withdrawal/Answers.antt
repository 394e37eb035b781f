use Rattle.ug_adjout.proofs.Runs.{withdrawals_are}
use Rattle.ug_adjout.proofs.table.Table.first_withdrawal.Goals as goal

pub returns : goal.returns
returns g c =
    rw (← c.self.view_is, withdrawals_are g.met.K.Ord.total g.met.K.OutKey.exact _ _ _ c.self.invariant) c.first_of.ensures
