use Rattle.std.proofs.Common.{sym, arith, ◌+◌}
use Rattle.ug_intern.proofs.Seats.{kept_turn, raised_view, turn_set}
use Rattle.ug_intern.proofs.pool.Pool.share.Goals as goal

pub invariant_of-self : goal.invariant_of-self
invariant_of-self g c =
    let was = sym c.in-Some.ensures.value in
    kept_turn g.T.PartialEq.eq _ _ c.self.invariant _ c.args.id c.in-Some.seat.now (c.in-Some.seat.now.uses + 1) was (omega arith) (turn_set _ _ _ _ was)

pub returns : goal.returns
returns g c = let was = sym c.in-Some.ensures.value in rw (← c.self.view_is) (raised_view g.T.PartialEq.eq _ _ c.self.invariant _ c.args.id c.in-Some.seat.now was (turn_set _ _ _ _ was))
