use Rattle.std.proofs.Common.{◌<◌, is_some, Some, refl, sym, ap, subst, ◌∙◌}
use Rattle.ug_adjout.specs.Tables.{with_value}
use Rattle.ug_adjout.specs.Seats.{seat_at, row_of, rows_by, named, HaveRows}
use Rattle.ug_adjout.specs.Stepped.{known, stepped, lined, IsReady}
use Rattle.ug_adjout.specs.Stored.{formatted_of, mark_of, of_row}
use Rattle.ug_adjout.proofs.Counts.{some_counted, few_counted}
use Rattle.ug_adjout.proofs.Seated.{seat_found, row_there, rows_length, was_there, rows_changed, rows_kept, line_changed, ready_there}
use Rattle.ug_adjout.proofs.Views.{marked}
use Rattle.ug_adjout.proofs.rows.Rows.step_at.Goals as goal

pub step_seat-requires-clause-ordered : goal.step_seat-requires-clause-ordered
step_seat-requires-clause-ordered g c = c.self.invariant.seats.ordered

pub step_seat-requires-clause-found : goal.step_seat-requires-clause-found
step_seat-requires-clause-found g c = rw (← c.self.view_is) at c.requires.found

pub step_seat-requires-clause-seat : goal.step_seat-requires-clause-seat
step_seat-requires-clause-seat g c = seat_found g.met.K.Ord.total g.met.K.OutKey.exact c.self.inside.index.entries (seat_at c.self.inside.seats.slots) c.self.invariant.seats c.args.key c.args.handle (rw (← c.self.view_is) at c.requires.found)

pub step_seat-requires-clause-ready : goal.step_seat-requires-clause-ready
step_seat-requires-clause-ready g c =
    let found = rw (← c.self.view_is) at c.requires.found in
    let is_lined = rw (← c.self.view_is) at c.requires.lined in
    let ready = rw (← c.self.view_is) at c.requires.ready in
    ready_there g.met.K.Ord.total g.met.K.OutKey.exact c.self.inside.index.entries (seat_at c.self.inside.seats.slots) c.self.invariant.seats c.args.line.now is_lined c.args.key c.args.step c.args.handle (known (row_of (seat_at c.self.inside.seats.slots c.args.handle))).change found
    (subst (λ o. IsReady c.args.step c.args.key (known o) (named (seat_at c.self.inside.seats.slots) c.args.line.now)) (row_there g.met.K.Ord.total g.met.K.OutKey.exact c.self.inside.index.entries (seat_at c.self.inside.seats.slots) c.self.invariant.seats c.args.key c.args.handle found) ready)

pub recounted-self-inside-requires-clause-counted : goal.recounted-self-inside-requires-clause-counted
recounted-self-inside-requires-clause-counted g c =
    let was = was_there g.met.K.Ord.total g.met.K.OutKey.exact c.self.inside.index.entries (seat_at c.self.inside.seats.slots) c.self.invariant.seats _ _ c.args.handle c.args.key (Some c.in_ok-row.row) (stepped c.args.step c.in_ok-row.row) c.in_ok-row.ensures.ok in
    some_counted formatted_of g.K.Ord.cmp (rows_by (seat_at c.self.inside.seats.slots) c.self.inside.index.entries) c.args.key _ c.self.invariant.counts.formatted_len _ (c.is_some.ensures ∙ ap (λ o. is_some (of_row formatted_of o)) (sym was))

pub recounted-self-inside-requires-clause-small : goal.recounted-self-inside-requires-clause-small
recounted-self-inside-requires-clause-small g c =
    let was = was_there g.met.K.Ord.total g.met.K.OutKey.exact c.self.inside.index.entries (seat_at c.self.inside.seats.slots) c.self.invariant.seats _ _ c.args.handle c.args.key (Some c.in_ok-row.row) (stepped c.args.step c.in_ok-row.row) c.in_ok-row.ensures.ok in
    few_counted formatted_of g.K.Ord.cmp (rows_by (seat_at c.self.inside.seats.slots) c.self.inside.index.entries) c.args.key _ c.self.invariant.counts.formatted_len _ (c.is_some.ensures ∙ ap (λ o. is_some (of_row formatted_of o)) (sym was))
    (subst (λ n. n < 9223372036854775808) (c.len-len.ensures.len ∙ sym (rows_length g.met.K.Ord.total g.met.K.OutKey.exact c.self.inside.index.entries (seat_at c.self.inside.seats.slots) c.self.invariant.seats)) c.len-len.ensures.small)

pub recounted-self-inside-requires-2-clause-counted : goal.recounted-self-inside-requires-2-clause-counted
recounted-self-inside-requires-2-clause-counted g c =
    let was = was_there g.met.K.Ord.total g.met.K.OutKey.exact c.self.inside.index.entries (seat_at c.self.inside.seats.slots) c.self.invariant.seats _ _ c.args.handle c.args.key (Some c.in_ok-row.row) (stepped c.args.step c.in_ok-row.row) c.in_ok-row.ensures.ok in
    some_counted mark_of g.K.Ord.cmp (rows_by (seat_at c.self.inside.seats.slots) c.self.inside.index.entries) c.args.key _ c.self.invariant.counts.forced_len _ (sym (marked c.in_ok-row.row.forced) ∙ ap (λ o. is_some (of_row mark_of o)) (sym was))

pub recounted-self-inside-requires-2-clause-small : goal.recounted-self-inside-requires-2-clause-small
recounted-self-inside-requires-2-clause-small g c =
    let was = was_there g.met.K.Ord.total g.met.K.OutKey.exact c.self.inside.index.entries (seat_at c.self.inside.seats.slots) c.self.invariant.seats _ _ c.args.handle c.args.key (Some c.in_ok-row.row) (stepped c.args.step c.in_ok-row.row) c.in_ok-row.ensures.ok in
    few_counted mark_of g.K.Ord.cmp (rows_by (seat_at c.self.inside.seats.slots) c.self.inside.index.entries) c.args.key _ c.self.invariant.counts.forced_len _ (sym (marked c.in_ok-row.row.forced) ∙ ap (λ o. is_some (of_row mark_of o)) (sym was))
    (subst (λ n. n < 9223372036854775808) (c.len-len.ensures.len ∙ sym (rows_length g.met.K.Ord.total g.met.K.OutKey.exact c.self.inside.index.entries (seat_at c.self.inside.seats.slots) c.self.invariant.seats)) c.len-len.ensures.small)

pub invariant_of-self : goal.invariant_of-self
invariant_of-self g c = rw (c.in_err-row.ensures.err_index, c.in_err-row.ensures.err_seats) c.self.invariant

pub invariant_of-self-2 : goal.invariant_of-self-2
invariant_of-self-2 g c =
    rows_kept g.met.K.Ord.total g.met.K.OutKey.exact c.self.inside.index.entries (seat_at c.self.inside.seats.slots) c.self.invariant.seats _ _ c.args.handle c.args.key (Some c.in_ok-row.row) (stepped c.args.step c.in_ok-row.row) c.in_ok-row.ensures.ok _ _ c.self.invariant.counts
    _ _ _ c.is_some.ensures (c.is_formatted.ensures ∙ ap (λ o. is_some (of_row formatted_of o)) c.row-now.ensures) c.recounted-self-inside.ensures
    _ _ _ (sym (marked c.in_ok-row.row.forced)) (c.is_forced.ensures ∙ ap (λ o. is_some (of_row mark_of o)) c.row-now.ensures) c.recounted-self-inside-2.ensures

pub returns-clause-was : goal.returns-clause-was
returns-clause-was g c = rw (← c.self.view_is) (was_there g.met.K.Ord.total g.met.K.OutKey.exact c.self.inside.index.entries (seat_at c.self.inside.seats.slots) c.self.invariant.seats _ _ c.args.handle c.args.key (Some c.in_ok-row.row) (stepped c.args.step c.in_ok-row.row) c.in_ok-row.ensures.ok)

pub returns-clause-rows : goal.returns-clause-rows
returns-clause-rows g c =
    let was = was_there g.met.K.Ord.total g.met.K.OutKey.exact c.self.inside.index.entries (seat_at c.self.inside.seats.slots) c.self.invariant.seats _ _ c.args.handle c.args.key (Some c.in_ok-row.row) (stepped c.args.step c.in_ok-row.row) c.in_ok-row.ensures.ok in
    rw (← c.self.view_is) (rows_changed g.met.K.Ord.total g.met.K.OutKey.exact c.self.inside.index.entries (seat_at c.self.inside.seats.slots) c.self.invariant.seats _ _ c.args.handle c.args.key (Some c.in_ok-row.row) (stepped c.args.step c.in_ok-row.row) c.in_ok-row.ensures.ok ∙ ap (λ o. with_value g.K.Ord.cmp (rows_by (seat_at c.self.inside.seats.slots) c.self.inside.index.entries) c.args.key (stepped c.args.step (known o))) (sym was))

pub returns-clause-line : goal.returns-clause-line
returns-clause-line g c =
    let was = was_there g.met.K.Ord.total g.met.K.OutKey.exact c.self.inside.index.entries (seat_at c.self.inside.seats.slots) c.self.invariant.seats _ _ c.args.handle c.args.key (Some c.in_ok-row.row) (stepped c.args.step c.in_ok-row.row) c.in_ok-row.ensures.ok in
    let is_lined = rw (← c.self.view_is) at c.requires.lined in
    let have = subst (λ o. HaveRows g.K.Ord.cmp (with_value g.K.Ord.cmp (rows_by (seat_at c.self.inside.seats.slots) c.self.inside.index.entries) c.args.key (stepped c.args.step (known o))) (lined c.args.step c.args.key (known o) (named (seat_at c.self.inside.seats.slots) c.args.line.now))) was (rw (← c.self.view_is) at c.requires.kept) in
    rw (← c.self.view_is, c.in_ok-row.ensures.line)
    ((line_changed g.met.K.Ord.total g.met.K.OutKey.exact c.self.inside.index.entries (seat_at c.self.inside.seats.slots) c.self.invariant.seats _ _ c.args.handle c.args.key (Some c.in_ok-row.row) (stepped c.args.step c.in_ok-row.row) c.in_ok-row.ensures.ok c.args.line.now is_lined c.args.step refl c.in_ok-row.row refl have).0
    ∙ ap (λ o. lined c.args.step c.args.key (known o) (named (seat_at c.self.inside.seats.slots) c.args.line.now)) (sym was))

pub returns-clause-lined : goal.returns-clause-lined
returns-clause-lined g c =
    let was = was_there g.met.K.Ord.total g.met.K.OutKey.exact c.self.inside.index.entries (seat_at c.self.inside.seats.slots) c.self.invariant.seats _ _ c.args.handle c.args.key (Some c.in_ok-row.row) (stepped c.args.step c.in_ok-row.row) c.in_ok-row.ensures.ok in
    let is_lined = rw (← c.self.view_is) at c.requires.lined in
    let have = subst (λ o. HaveRows g.K.Ord.cmp (with_value g.K.Ord.cmp (rows_by (seat_at c.self.inside.seats.slots) c.self.inside.index.entries) c.args.key (stepped c.args.step (known o))) (lined c.args.step c.args.key (known o) (named (seat_at c.self.inside.seats.slots) c.args.line.now))) was (rw (← c.self.view_is) at c.requires.kept) in
    rw c.in_ok-row.ensures.line (line_changed g.met.K.Ord.total g.met.K.OutKey.exact c.self.inside.index.entries (seat_at c.self.inside.seats.slots) c.self.invariant.seats _ _ c.args.handle c.args.key (Some c.in_ok-row.row) (stepped c.args.step c.in_ok-row.row) c.in_ok-row.ensures.ok c.args.line.now is_lined c.args.step refl c.in_ok-row.row refl have).1
