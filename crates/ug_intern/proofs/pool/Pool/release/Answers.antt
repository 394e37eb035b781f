use Rattle.std.proofs.Common.{sym, arith, ◌-◌}
use Rattle.ug_intern.proofs.Seats.{kept_turn, lowered_view, many, turn_set}
use Rattle.ug_intern.proofs.pool.Pool.release.Goals as goal

pub invariant_of-self : goal.invariant_of-self
invariant_of-self g c =
    let was = sym c.in-Some.ensures.value in let more = many g.T.PartialEq.eq _ _ c.self.invariant c.args.id c.in-Some.seat.now was (rw (← c.self.view_is) at c.requires) in
    kept_turn g.T.PartialEq.eq _ _ c.self.invariant _ c.args.id c.in-Some.seat.now (c.in-Some.seat.now.uses - 1) was (omega (arith, more)) (turn_set _ _ _ _ was)

pub returns : goal.returns
returns g c =
    let was = sym c.in-Some.ensures.value in let more = many g.T.PartialEq.eq _ _ c.self.invariant c.args.id c.in-Some.seat.now was (rw (← c.self.view_is) at c.requires) in
    rw (← c.self.view_is) (lowered_view g.T.PartialEq.eq _ _ c.self.invariant _ c.args.id c.in-Some.seat.now was more (turn_set _ _ _ _ was))
