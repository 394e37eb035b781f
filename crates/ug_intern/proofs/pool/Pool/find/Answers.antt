use Rattle.std.proofs.Common.{sym}
use Rattle.ug_intern.proofs.Seats.{found_at, new_of_none}
use Rattle.ug_intern.proofs.pool.Pool.find.Goals as goal

pub returns-in-Some-get-clause-known : goal.returns-in-Some-get-clause-known
returns-in-Some-get-clause-known g c = rw (← c.self.view_is) (found_at g.T.PartialEq.eq _ _ c.self.invariant c.args.value.now _ (sym c.in-Some-get.ensures.value))

pub returns-in-None-clause-none : goal.returns-in-None-clause-none
returns-in-None-clause-none g c = rw (← c.self.view_is) (new_of_none g.T.PartialEq.eq _ _ c.self.invariant c.args.value.now (sym c.in-None.ensures.value))
