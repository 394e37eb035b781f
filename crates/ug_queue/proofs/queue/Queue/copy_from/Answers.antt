use Rattle.std.proofs.Common.{◌<◌, length, sym, ap, subst, arith}
use Rattle.ug_queue.proofs.Kept.{listed_seated}
use Rattle.ug_queue.proofs.queue.Queue.copy_from.Goals as goal

pub add_twins-requires-clause-members : goal.add_twins-requires-clause-members
add_twins-requires-clause-members g c =
    subst (λ l. 0 < length l) (sym c.in_ok-seat.ensures.places) (listed_seated _ c.as_slice.result.now (omega (arith, ap length c.as_slice.ensures, c.requires.some)))
