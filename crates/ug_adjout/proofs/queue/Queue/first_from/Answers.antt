use Rattle.std.proofs.Common.{sym, ap, ◌∙◌}
use Rattle.ug_adjout.specs.Seats.{seat_at, seat_in, key_of}
use Rattle.ug_adjout.proofs.Handles.{none_from, first_from_at, first_some}
use Rattle.ug_adjout.proofs.queue.Queue.first_from.Goals as goal

pub returns-in_default : goal.returns-in_default
returns-in_default g c = rw (← c.self.view_is) (none_from (seat_in c.self.inside.rows) c.args.place c.self.inside.line (sym c.in_default.is ∙ c.first_from.ensures))

pub unreachable-requires : goal.unreachable-requires
unreachable-requires g c =
    first_some (seat_in c.self.inside.rows) c.args.place c.self.inside.line c.in-Some.at c.in-Some.waiting c.self.invariant.are_named (sym c.in-Some.is ∙ c.first_from.ensures)
    (ap (λ slots. key_of (seat_at slots c.in-Some.waiting.key)) (sym c.seats.ensures) ∙ sym c.key_at.ensures ∙ c.in_default-key_at.is)

pub returns : goal.returns
returns g c =
    rw (← c.self.view_is)
    (first_from_at (seat_in c.self.inside.rows) c.args.place c.self.inside.line c.in-Some.at c.in-Some.waiting c.in-Some-key_at.key (sym c.in-Some.is ∙ c.first_from.ensures)
    (ap (λ slots. key_of (seat_at slots c.in-Some.waiting.key)) (sym c.seats.ensures) ∙ sym c.key_at.ensures ∙ c.in-Some-key_at.is))
