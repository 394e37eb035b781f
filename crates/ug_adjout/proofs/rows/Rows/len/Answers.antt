use Rattle.std.proofs.Common.{sym, ◌∙◌}
use Rattle.ug_adjout.specs.Seats.{seat_at}
use Rattle.ug_adjout.proofs.Seated.{rows_length}
use Rattle.ug_adjout.proofs.rows.Rows.len.Goals as goal

pub returns-clause-len : goal.returns-clause-len
returns-clause-len g c = rw (← c.self.view_is) (c.len.ensures.len ∙ sym (rows_length g.met.K.Ord.total g.met.K.OutKey.exact c.self.inside.index.entries (seat_at c.self.inside.seats.slots) c.self.invariant.seats))
