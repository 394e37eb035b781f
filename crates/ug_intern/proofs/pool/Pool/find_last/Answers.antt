use Rattle.std.proofs.Common.{sym}
use Rattle.ug_intern.proofs.Seats.{entry_found}
use Rattle.ug_intern.proofs.pool.Pool.find_last.Goals as goal

pub returns-then-eq : goal.returns-then-eq
returns-then-eq g c =
    rw (← c.self.view_is) (entry_found g.T.PartialEq.eq _ _ c.self.invariant c.args.value.now _ (c.in-Some.last.now, c.in-Some.id.now) (sym c.in-Some.ensures.entry) (cc (c.eq.ensures, c.if-eq.true)))
