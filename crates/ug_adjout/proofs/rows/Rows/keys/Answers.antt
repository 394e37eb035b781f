use Rattle.ug_adjout.specs.Seats.{seat_at}
use Rattle.ug_adjout.proofs.Seated.{rows_keys}
use Rattle.ug_adjout.proofs.rows.Rows.keys.Goals as goal

pub returns : goal.returns
returns g c = rw (← c.self.view_is, rows_keys g.met.K.Ord.total g.met.K.OutKey.exact c.self.inside.index.entries (seat_at c.self.inside.seats.slots) c.self.invariant.seats) c.keys_in.ensures
