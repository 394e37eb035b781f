use Rattle.std.proofs.Common.{is_some, sym, ap, ◌∙◌, arith}
use Rattle.ug_adjout.proofs.Numbers.{nothing_at, first_known, first_waits, first_is_from, behind_first, place_next, row_known, passed_same, stored_moved, view_moved, passed_moved, behind_moved}
use Rattle.ug_adjout.proofs.table.Table.bring.Goals as goal

pub returns-then-was-place-clause-passed : goal.returns-then-was-place-clause-passed
returns-then-was-place-clause-passed g c =
    let first = first_known c.args.from c.args.place c.self.inside.queue.waiting (rw (← c.self.view_is) at c.requires.from) c.first_from.ensures c.in-Some.is in
    rw (← c.self.view_is)
    (passed_same g.met.K.Ord.total g.met.K.OutKey.exact _ _ _ c.self.invariant c.args.place (c.in-Some.was, c.in-Some.waiting) first c.if-was-place.true
    (rw (← c.self.view_is) at c.requires.some))

pub unreachable-requires-in_default-row : goal.unreachable-requires-in_default-row
unreachable-requires-in_default-row g c =
    let first = first_known c.args.from c.args.place c.self.inside.queue.waiting (rw (← c.self.view_is) at c.requires.from) c.first_from.ensures c.in-Some.is in
    row_known g.met.K.Ord.total g.met.K.OutKey.exact _ _ _ c.self.invariant c.args.place (c.in-Some.was, c.in-Some.waiting) first
    (sym c.row.ensures ∙ c.in_default-row.is)

pub invariant_of-self-2 : goal.invariant_of-self-2
invariant_of-self-2 g c =
    let first = first_known c.args.from c.args.place c.self.inside.queue.waiting (rw (← c.self.view_is) at c.requires.from) c.first_from.ensures c.in-Some.is in
    let lt = behind_first c.args.place c.in-Some.was (first_is_from c.args.place _ (c.in-Some.was, c.in-Some.waiting) first) c.if-was-place.false in
    rw (c.in_ok-bring.ensures.rows, c.in_ok-bring.ensures.waiting)
    (stored_moved g.met.K.Ord.total g.met.K.OutKey.exact _ _ _ c.self.invariant c.args.place (c.in-Some.was, c.in-Some.waiting) first c.in-Some-row.row (sym c.row.ensures ∙ c.in-Some-row.is) lt)

pub returns-clause-same : goal.returns-clause-same
returns-clause-same g c =
    let first = first_known c.args.from c.args.place c.self.inside.queue.waiting (rw (← c.self.view_is) at c.requires.from) c.first_from.ensures c.in-Some.is in
    let lt = behind_first c.args.place c.in-Some.was (first_is_from c.args.place _ (c.in-Some.was, c.in-Some.waiting) first) c.if-was-place.false in
    rw (c.in_ok-bring.ensures.rows, c.in_ok-bring.ensures.waiting, ← c.self.view_is)
    (view_moved g.met.K.Ord.total g.met.K.OutKey.exact _ _ _ c.self.invariant c.args.place (c.in-Some.was, c.in-Some.waiting) first c.in-Some-row.row (sym c.row.ensures ∙ c.in-Some-row.is) lt)

pub returns-clause-passed : goal.returns-clause-passed
returns-clause-passed g c =
    let first = first_known c.args.from c.args.place c.self.inside.queue.waiting (rw (← c.self.view_is) at c.requires.from) c.first_from.ensures c.in-Some.is in
    let lt = behind_first c.args.place c.in-Some.was (first_is_from c.args.place _ (c.in-Some.was, c.in-Some.waiting) first) c.if-was-place.false in
    rw (c.in_ok-bring.ensures.waiting, ← c.self.view_is)
    (passed_moved g.met.K.Ord.total g.met.K.OutKey.exact _ _ _ c.self.invariant c.args.place (c.in-Some.was, c.in-Some.waiting) first c.in-Some-row.row (sym c.row.ensures ∙ c.in-Some-row.is) lt
    (rw (← c.self.view_is) at c.requires.some))

pub returns-clause-from : goal.returns-clause-from
returns-clause-from g c =
    let first = first_known c.args.from c.args.place c.self.inside.queue.waiting (rw (← c.self.view_is) at c.requires.from) c.first_from.ensures c.in-Some.is in
    let lt = behind_first c.args.place c.in-Some.was (first_is_from c.args.place _ (c.in-Some.was, c.in-Some.waiting) first) c.if-was-place.false in
    rw (c.in_ok-bring.ensures.waiting)
    (behind_moved g.met.K.Ord.total g.met.K.OutKey.exact _ _ _ c.self.invariant c.args.place (c.in-Some.was, c.in-Some.waiting) first c.in-Some-row.row (sym c.row.ensures ∙ c.in-Some-row.is) lt)

pub bring-requires-clause-waits : goal.bring-requires-clause-waits
bring-requires-clause-waits g c =
    let first = first_known c.args.from c.args.place c.self.inside.queue.waiting (rw (← c.self.view_is) at c.requires.from) c.first_from.ensures c.in-Some.is in
    first_waits c.args.place _ (c.in-Some.was, c.in-Some.waiting) c.self.invariant.in_line first

pub bring-requires-clause-free : goal.bring-requires-clause-free
bring-requires-clause-free g c =
    let first = first_known c.args.from c.args.place c.self.inside.queue.waiting (rw (← c.self.view_is) at c.requires.from) c.first_from.ensures c.in-Some.is in
    let lt = behind_first c.args.place c.in-Some.was (first_is_from c.args.place _ (c.in-Some.was, c.in-Some.waiting) first) c.if-was-place.false in
    nothing_at c.args.place _ (c.in-Some.was, c.in-Some.waiting) c.self.invariant.in_line first lt

pub bring-requires-clause-there : goal.bring-requires-clause-there
bring-requires-clause-there g c = ap is_some (sym c.row.ensures ∙ c.in-Some-row.is)

pub overflow_add-result : goal.overflow_add-result
overflow_add-result g c =
    let first = first_known c.args.from c.args.place c.self.inside.queue.waiting (rw (← c.self.view_is) at c.requires.from) c.first_from.ensures c.in-Some.is in
    let lt = place_next g.met.K.Ord.total g.met.K.OutKey.exact _ _ _ c.self.invariant c.args.place (c.in-Some.was, c.in-Some.waiting) first in
    let small = c.self.ranges.1.0.1 in
    omega (arith, lt, small, c.if-was-place.true)

pub overflow_add-result-2 : goal.overflow_add-result-2
overflow_add-result-2 g c =
    let first = first_known c.args.from c.args.place c.self.inside.queue.waiting (rw (← c.self.view_is) at c.requires.from) c.first_from.ensures c.in-Some.is in
    let lt = place_next g.met.K.Ord.total g.met.K.OutKey.exact _ _ _ c.self.invariant c.args.place (c.in-Some.was, c.in-Some.waiting) first in
    let small = c.self.ranges.1.0.1 in
    omega (arith, lt, small)
