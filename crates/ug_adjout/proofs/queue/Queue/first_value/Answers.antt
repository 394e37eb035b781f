use Rattle.std.proofs.Common.{sym, ◌∙◌}
use Rattle.ug_adjout.specs.Seats.{seat_in}
use Rattle.ug_adjout.proofs.Handles.{named_announced}
use Rattle.ug_adjout.proofs.queue.Queue.first_value.Goals as goal

pub returns : goal.returns
returns g c = rw (← c.self.view_is) (c.first_value.ensures ∙ sym (named_announced (seat_in c.self.inside.rows) c.self.inside.line c.self.invariant.are_named))
