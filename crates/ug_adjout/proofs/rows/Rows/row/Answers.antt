use Rattle.std.proofs.Common.{sym, ◌∙◌}
use Rattle.ug_adjout.specs.Seats.{seat_at}
use Rattle.ug_adjout.proofs.Seated.{row_there, row_missing}
use Rattle.ug_adjout.proofs.rows.Rows.row.Goals as goal

pub returns-in-Some : goal.returns-in-Some
returns-in-Some g c = rw (← c.self.view_is) (c.row_at.ensures ∙ sym (row_there g.met.K.Ord.total g.met.K.OutKey.exact c.self.inside.index.entries (seat_at c.self.inside.seats.slots) c.self.invariant.seats c.args.key.now _ (sym c.in-Some.ensures.value)))

pub returns-in-None : goal.returns-in-None
returns-in-None g c = rw (← c.self.view_is) (sym (row_missing g.met.K.Ord.total g.met.K.OutKey.exact c.self.inside.index.entries (seat_at c.self.inside.seats.slots) c.self.invariant.seats c.args.key.now (sym c.in-None.ensures.value)))
