use Rattle.ug_adjout.specs.Seats.{seat_in}
use Rattle.ug_adjout.proofs.Handles.{same_names, lined_same}
use Rattle.ug_adjout.proofs.queue.Queue.put.Goals as goal

pub invariant_of-self : goal.invariant_of-self
invariant_of-self g c = lined_same (seat_in c.self.inside.rows) (seat_in c.put.new.self) c.put.ensures.keys c.self.inside.line c.self.invariant

pub returns-clause-waiting : goal.returns-clause-waiting
returns-clause-waiting g c = rw (← c.self.view_is) (same_names (seat_in c.self.inside.rows) (seat_in c.put.new.self) c.put.ensures.keys c.self.inside.line c.self.invariant)
