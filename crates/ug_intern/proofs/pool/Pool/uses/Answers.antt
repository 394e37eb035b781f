use Rattle.ug_intern.proofs.Seats.{one_id}
use Rattle.ug_intern.proofs.pool.Pool.uses.Goals as goal

pub returns-in-Some-clause-one_id : goal.returns-in-Some-clause-one_id
returns-in-Some-clause-one_id g c = rw (← c.self.view_is) (one_id g.T.PartialEq.eq _ _ c.self.invariant g.met.T.Eq.laws)

pub returns-in-None-clause-one_id : goal.returns-in-None-clause-one_id
returns-in-None-clause-one_id g c = rw (← c.self.view_is) (one_id g.T.PartialEq.eq _ _ c.self.invariant g.met.T.Eq.laws)
