use Rattle.std.proofs.Common.{Some, sym, ap, ◌∙◌}
use Rattle.std.specs.Ordering.{is_eq}
use Rattle.ug_adjout.specs.TableLaws.{one_key}
use Rattle.ug_adjout.specs.Seats.{seat_at}
use Rattle.ug_adjout.proofs.Seated.{only_handle}
use Rattle.ug_adjout.proofs.rows.Rows.is_at.Goals as goal

pub returns-in-Some : goal.returns-in-Some
returns-in-Some g c =
    rw (← c.self.view_is)
    (λ t. only_handle g.met.K.Ord.total g.met.K.OutKey.exact c.self.inside.index.entries (seat_at c.self.inside.seats.slots) c.self.invariant.seats c.args.key.now c.args.handle
    (sym c.in-Some.ensures ∙ ap Some (sym (one_key g.met.K.Ord.total g.met.K.OutKey.exact c.args.key.now c.in-Some.there (ap is_eq (sym c.cmp.ensures) ∙ sym c.is_eq.ensures ∙ t)))))
