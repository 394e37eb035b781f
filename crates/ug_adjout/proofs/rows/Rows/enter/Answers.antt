use Rattle.std.proofs.Common.{ℕ, is_some, false, Some, None, refl, sym, ap, subst, ◌∙◌}
use Rattle.std.specs.Prelude.{if◌then◌else◌}
use Rattle.ug_adjout.specs.Tables.{with_value}
use Rattle.ug_adjout.specs.Seats.{seat_at, rows_by, named}
use Rattle.ug_adjout.specs.Stepped.{known, stepped, lined, IsReady}
use Rattle.ug_adjout.specs.Stored.{formatted_of, mark_of, of_row}
use Rattle.ug_adjout.proofs.Seated.{row_missing, rows_changed, rows_kept, line_put, ready_new}
use Rattle.ug_adjout.proofs.Stepped.{made_row}
use Rattle.ug_adjout.proofs.rows.Rows.enter.Goals as goal

pub enter-requires-clause-ready : goal.enter-requires-clause-ready
enter-requires-clause-ready g c =
    let is_lined = rw (← c.self.view_is) at c.requires.lined in
    let ready = rw (← c.self.view_is) at c.requires.ready in
    λ none handle. ready_new g.met.K.Ord.total g.met.K.OutKey.exact c.self.inside.index.entries (seat_at c.self.inside.seats.slots) c.self.invariant.seats c.args.line.now is_lined c.args.key c.args.step handle
    (subst (λ o. IsReady c.args.step c.args.key (known o) (named (seat_at c.self.inside.seats.slots) c.args.line.now)) (row_missing g.met.K.Ord.total g.met.K.OutKey.exact c.self.inside.index.entries (seat_at c.self.inside.seats.slots) c.self.invariant.seats c.args.key none) ready)

pub invariant_of-self : goal.invariant_of-self
invariant_of-self g c = rw (c.in_err-handle.ensures.err_index, c.in_err-handle.ensures.err_seats) c.self.invariant

pub invariant_of-self-in_default : goal.invariant_of-self-in_default
invariant_of-self-in_default g c =
    let made = rw c.in_default.is at c.in_ok-handle.ensures.made in
    let none = row_missing g.met.K.Ord.total g.met.K.OutKey.exact c.self.inside.index.entries (seat_at c.self.inside.seats.slots) c.self.invariant.seats c.args.key (sym c.in_ok-handle.ensures.found ∙ c.in_default.is) in
    let row = made_row c.args.step c.requires.makes in
    rows_kept g.met.K.Ord.total g.met.K.OutKey.exact c.self.inside.index.entries (seat_at c.self.inside.seats.slots) c.self.invariant.seats _ _ c.self.inside.seats.vacant_key c.args.key None (stepped c.args.step (known None)) made _ _ c.self.invariant.counts
    false false _ refl (sym (ap (λ o. is_some (of_row formatted_of o)) row.1 ∙ ap is_some row.2)) refl
    false false _ refl (sym (ap (λ o. is_some (of_row mark_of o)) row.1 ∙ ap (λ b. is_some {T = ℕ} (if b then Some 0 else None)) row.3)) refl

pub returns-in_default-clause-was : goal.returns-in_default-clause-was
returns-in_default-clause-was g c = rw (← c.self.view_is) (row_missing g.met.K.Ord.total g.met.K.OutKey.exact c.self.inside.index.entries (seat_at c.self.inside.seats.slots) c.self.invariant.seats c.args.key (sym c.in_ok-handle.ensures.found ∙ c.in_default.is))

pub returns-in_default-clause-rows : goal.returns-in_default-clause-rows
returns-in_default-clause-rows g c =
    let made = rw c.in_default.is at c.in_ok-handle.ensures.made in
    let none = row_missing g.met.K.Ord.total g.met.K.OutKey.exact c.self.inside.index.entries (seat_at c.self.inside.seats.slots) c.self.invariant.seats c.args.key (sym c.in_ok-handle.ensures.found ∙ c.in_default.is) in
    let row = made_row c.args.step c.requires.makes in
    rw (← c.self.view_is) (rows_changed g.met.K.Ord.total g.met.K.OutKey.exact c.self.inside.index.entries (seat_at c.self.inside.seats.slots) c.self.invariant.seats _ _ c.self.inside.seats.vacant_key c.args.key None (stepped c.args.step (known None)) made ∙ ap (λ o. with_value g.K.Ord.cmp (rows_by (seat_at c.self.inside.seats.slots) c.self.inside.index.entries) c.args.key (stepped c.args.step (known o))) (sym none))

pub returns-in_default-clause-line : goal.returns-in_default-clause-line
returns-in_default-clause-line g c =
    let made = rw c.in_default.is at c.in_ok-handle.ensures.made in
    let none = row_missing g.met.K.Ord.total g.met.K.OutKey.exact c.self.inside.index.entries (seat_at c.self.inside.seats.slots) c.self.invariant.seats c.args.key (sym c.in_ok-handle.ensures.found ∙ c.in_default.is) in
    let row = made_row c.args.step c.requires.makes in
    let put = rw c.in_default.is at c.in_ok-handle.ensures.made_line in
    let is_lined = rw (← c.self.view_is) at c.requires.lined in
    rw (← c.self.view_is, put)
    ((line_put g.met.K.Ord.total g.met.K.OutKey.exact c.self.inside.index.entries (seat_at c.self.inside.seats.slots) c.self.invariant.seats _ _ c.self.inside.seats.vacant_key c.args.key None (stepped c.args.step (known None)) made c.args.line.now is_lined c.args.step refl row.0 row.1).0 ∙ ap (λ o. lined c.args.step c.args.key (known o) (named (seat_at c.self.inside.seats.slots) c.args.line.now)) (sym none))

pub returns-in_default-clause-lined : goal.returns-in_default-clause-lined
returns-in_default-clause-lined g c =
    let made = rw c.in_default.is at c.in_ok-handle.ensures.made in
    let none = row_missing g.met.K.Ord.total g.met.K.OutKey.exact c.self.inside.index.entries (seat_at c.self.inside.seats.slots) c.self.invariant.seats c.args.key (sym c.in_ok-handle.ensures.found ∙ c.in_default.is) in
    let row = made_row c.args.step c.requires.makes in
    let put = rw c.in_default.is at c.in_ok-handle.ensures.made_line in
    let is_lined = rw (← c.self.view_is) at c.requires.lined in
    rw put (line_put g.met.K.Ord.total g.met.K.OutKey.exact c.self.inside.index.entries (seat_at c.self.inside.seats.slots) c.self.invariant.seats _ _ c.self.inside.seats.vacant_key c.args.key None (stepped c.args.step (known None)) made c.args.line.now is_lined c.args.step refl row.0 row.1).1
