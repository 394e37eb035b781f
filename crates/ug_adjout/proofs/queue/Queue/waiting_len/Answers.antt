use Rattle.std.proofs.Common.{sym, ◌∙◌}
use Rattle.ug_adjout.specs.Seats.{seat_in}
use Rattle.ug_adjout.proofs.Handles.{named_length}
use Rattle.ug_adjout.proofs.queue.Queue.waiting_len.Goals as goal

pub returns-clause-len : goal.returns-clause-len
returns-clause-len g c = rw (← c.self.view_is) (c.len.ensures.len ∙ sym (named_length (seat_in c.self.inside.rows) c.self.inside.line c.self.invariant.are_named))
