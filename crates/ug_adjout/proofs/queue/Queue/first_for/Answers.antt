use Rattle.ug_adjout.proofs.queue.Queue.first_for.Goals as goal

pub returns : goal.returns
returns g c = rw (← c.self.view_is, ← c.seats.ensures) c.first_for.ensures
