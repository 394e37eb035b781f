use Rattle.ug_intern.proofs.Seats.{one_id}
use Rattle.ug_intern.proofs.pool.Pool.hold.Goals as goal

pub returns-clause-one_id : goal.returns-clause-one_id
returns-clause-one_id g c = rw (← c.self.view_is) (one_id g.T.PartialEq.eq _ _ c.self.invariant g.met.T.Eq.laws)
