use Rattle.std.proofs.Common.{sym, ap, ◌∙◌}
use Rattle.ug_adjout.specs.Seats.{seat_at, seat_in, key_of}
use Rattle.ug_adjout.specs.Stored.{of_row}
use Rattle.ug_adjout.proofs.Handles.{named_first}
use Rattle.ug_adjout.proofs.queue.Queue.first_of.Goals as goal

pub returns-in-Some : goal.returns-in-Some
returns-in-Some g c =
    rw (← c.self.view_is)
    (c.key_at.ensures ∙ ap (λ slots. key_of (seat_at slots c.in-Some.handle)) c.seats.ensures ∙ ap (of_row (λ handle. key_of (seat_in c.self.inside.rows handle))) c.in-Some.ensures
    ∙ sym (named_first (seat_in c.self.inside.rows) c.args.value c.self.inside.line c.self.invariant.are_named))

pub returns-in-None : goal.returns-in-None
returns-in-None g c =
    rw (← c.self.view_is)
    (ap (of_row (λ handle. key_of (seat_in c.self.inside.rows handle))) c.in-None.ensures ∙ sym (named_first (seat_in c.self.inside.rows) c.args.value c.self.inside.line c.self.invariant.are_named))
