use Rattle.std.proofs.Common.{sym}
use Rattle.ug_adjout.proofs.Runs.{alike_are, alike_are_none}
use Rattle.ug_adjout.proofs.table.Table.alike.Goals as goal

pub returns-in-None : goal.returns-in-None
returns-in-None g c =
    rw (← c.self.view_is, alike_are_none g.met.K.Ord.total g.met.K.OutKey.exact _ _ _ c.self.invariant (sym c.in-None.ensures)) c.new.ensures

pub returns-in-Some : goal.returns-in-Some
returns-in-Some g c =
    rw (← c.self.view_is, alike_are g.met.K.Ord.total g.met.K.OutKey.exact _ _ _ c.self.invariant _ (sym c.in-Some.ensures)) c.first_for.ensures
