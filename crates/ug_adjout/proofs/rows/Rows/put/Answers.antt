use Rattle.std.proofs.Common.{◌<◌, is_some, Some, sym, ap, subst, ◌∙◌}
use Rattle.ug_adjout.specs.Seats.{seat_at, rows_by}
use Rattle.ug_adjout.specs.Stored.{formatted_of, mark_of, of_row}
use Rattle.ug_adjout.proofs.Counts.{some_counted, few_counted}
use Rattle.ug_adjout.proofs.Handles.{key_some}
use Rattle.ug_adjout.proofs.Seated.{seat_found, row_there, rows_length, rows_changed, rows_kept, put_changed, put_keys}
use Rattle.ug_adjout.proofs.Views.{marked}
use Rattle.ug_adjout.proofs.rows.Rows.put.Goals as goal

pub reseat-requires : goal.reseat-requires
reseat-requires g c = key_some _ c.args.key (seat_found g.met.K.Ord.total g.met.K.OutKey.exact c.self.inside.index.entries (seat_at c.self.inside.seats.slots) c.self.invariant.seats c.args.key c.args.handle (rw (← c.self.view_is) at c.requires))

pub recounted-self-inside-requires-clause-counted : goal.recounted-self-inside-requires-clause-counted
recounted-self-inside-requires-clause-counted g c =
    let was = row_there g.met.K.Ord.total g.met.K.OutKey.exact c.self.inside.index.entries (seat_at c.self.inside.seats.slots) c.self.invariant.seats c.args.key c.args.handle (rw (← c.self.view_is) at c.requires) in
    some_counted formatted_of g.K.Ord.cmp (rows_by (seat_at c.self.inside.seats.slots) c.self.inside.index.entries) c.args.key _ c.self.invariant.counts.formatted_len _ (c.is_formatted.ensures ∙ ap (λ o. is_some (of_row formatted_of o)) (c.row_at-was.ensures ∙ sym was))

pub recounted-self-inside-requires-clause-small : goal.recounted-self-inside-requires-clause-small
recounted-self-inside-requires-clause-small g c =
    let was = row_there g.met.K.Ord.total g.met.K.OutKey.exact c.self.inside.index.entries (seat_at c.self.inside.seats.slots) c.self.invariant.seats c.args.key c.args.handle (rw (← c.self.view_is) at c.requires) in
    few_counted formatted_of g.K.Ord.cmp (rows_by (seat_at c.self.inside.seats.slots) c.self.inside.index.entries) c.args.key _ c.self.invariant.counts.formatted_len _ (c.is_formatted.ensures ∙ ap (λ o. is_some (of_row formatted_of o)) (c.row_at-was.ensures ∙ sym was))
    (subst (λ n. n < 9223372036854775808) (c.len-len.ensures.len ∙ sym (rows_length g.met.K.Ord.total g.met.K.OutKey.exact c.self.inside.index.entries (seat_at c.self.inside.seats.slots) c.self.invariant.seats)) c.len-len.ensures.small)

pub recounted-self-inside-requires-2-clause-counted : goal.recounted-self-inside-requires-2-clause-counted
recounted-self-inside-requires-2-clause-counted g c =
    let was = row_there g.met.K.Ord.total g.met.K.OutKey.exact c.self.inside.index.entries (seat_at c.self.inside.seats.slots) c.self.invariant.seats c.args.key c.args.handle (rw (← c.self.view_is) at c.requires) in
    some_counted mark_of g.K.Ord.cmp (rows_by (seat_at c.self.inside.seats.slots) c.self.inside.index.entries) c.args.key _ c.self.invariant.counts.forced_len _ (c.is_forced.ensures ∙ ap (λ o. is_some (of_row mark_of o)) (c.row_at-was.ensures ∙ sym was))

pub recounted-self-inside-requires-2-clause-small : goal.recounted-self-inside-requires-2-clause-small
recounted-self-inside-requires-2-clause-small g c =
    let was = row_there g.met.K.Ord.total g.met.K.OutKey.exact c.self.inside.index.entries (seat_at c.self.inside.seats.slots) c.self.invariant.seats c.args.key c.args.handle (rw (← c.self.view_is) at c.requires) in
    few_counted mark_of g.K.Ord.cmp (rows_by (seat_at c.self.inside.seats.slots) c.self.inside.index.entries) c.args.key _ c.self.invariant.counts.forced_len _ (c.is_forced.ensures ∙ ap (λ o. is_some (of_row mark_of o)) (c.row_at-was.ensures ∙ sym was))
    (subst (λ n. n < 9223372036854775808) (c.len-len.ensures.len ∙ sym (rows_length g.met.K.Ord.total g.met.K.OutKey.exact c.self.inside.index.entries (seat_at c.self.inside.seats.slots) c.self.invariant.seats)) c.len-len.ensures.small)

pub invariant_of-self : goal.invariant_of-self
invariant_of-self g c =
    let found = rw (← c.self.view_is) at c.requires in
    let reseated = rw c.of-kept.ensures at c.reseat.ensures in
    let changed = put_changed g.met.K.Ord.total g.met.K.OutKey.exact c.self.inside.index.entries (seat_at c.self.inside.seats.slots) c.self.invariant.seats _ c.args.handle c.args.key c.args.row found reseated in
    rows_kept g.met.K.Ord.total g.met.K.OutKey.exact c.self.inside.index.entries (seat_at c.self.inside.seats.slots) c.self.invariant.seats _ _ c.args.handle c.args.key _ (Some c.args.row) changed _ _ c.self.invariant.counts
    _ _ _ (c.is_formatted.ensures ∙ ap (λ o. is_some (of_row formatted_of o)) c.row_at-was.ensures) c.is_some.ensures c.recounted-self-inside.ensures
    _ _ _ (c.is_forced.ensures ∙ ap (λ o. is_some (of_row mark_of o)) c.row_at-was.ensures) (sym (marked c.args.row.forced)) c.recounted-self-inside-2.ensures

pub returns-clause-rows : goal.returns-clause-rows
returns-clause-rows g c =
    let found = rw (← c.self.view_is) at c.requires in
    let reseated = rw c.of-kept.ensures at c.reseat.ensures in
    let changed = put_changed g.met.K.Ord.total g.met.K.OutKey.exact c.self.inside.index.entries (seat_at c.self.inside.seats.slots) c.self.invariant.seats _ c.args.handle c.args.key c.args.row found reseated in
    rw (← c.self.view_is) (rows_changed g.met.K.Ord.total g.met.K.OutKey.exact c.self.inside.index.entries (seat_at c.self.inside.seats.slots) c.self.invariant.seats _ _ c.args.handle c.args.key _ (Some c.args.row) changed)

pub returns-clause-keys : goal.returns-clause-keys
returns-clause-keys g c =
    let found = rw (← c.self.view_is) at c.requires in
    let reseated = rw c.of-kept.ensures at c.reseat.ensures in
    rw (← c.self.view_is) (put_keys g.met.K.Ord.total g.met.K.OutKey.exact c.self.inside.index.entries (seat_at c.self.inside.seats.slots) c.self.invariant.seats _ c.args.handle c.args.key c.args.row found reseated)
