use Rattle.std.proofs.Common.{◌≡◌, ◌+◌, ◌-◌, ◌<◌, ◌≤◌, length, min, ◌∙◌, arith}
use Rattle.ug_adjout.proofs.Placed.{placed_below, placed_read, placed_numbered, none_more, none_at_all}
use Rattle.ug_adjout.proofs.by_place.ByPlace.first_between.Goals as goal

pub loop-at-init : goal.loop-at-init
loop-at-init c = λ q from to.
    rw (← c.self.view_is) (placed_below c.self.inside.start q c.self.inside.values.items (omega (arith, c.from.ensures, c.max-from.ensures, from, to)))

pub returns-in-Some-clause-value : goal.returns-in-Some-clause-value
returns-in-Some-clause-value c =
    let row = c.self.inside in
    let e : row.start + (c.loop-at.at - row.start) ≡ c.loop-at.at = omega (arith, c.max-from.ensures, c.loop-at.auto.at) in
    let lt : c.loop-at.at - row.start < length row.values.items = omega (arith, row.values.ok.0, c.len.ensures, c.min-end.ensures, c.max-from.ensures, c.loop-at.auto.at, c.loop-at-test.true) in
    rw (← c.self.view_is) (placed_read row.start c.loop-at.at _ row.values.items c.index.result.now e lt c.index.ensures ∙ c.in-Some.is)

pub returns-in-Some-clause-small : goal.returns-in-Some-clause-small
returns-in-Some-clause-small c = rw (← c.self.view_is) (placed_numbered _ _ c.self.invariant)

pub loop-at-preserved : goal.loop-at-preserved
loop-at-preserved c =
    let row = c.self.inside in
    let e : row.start + (c.loop-at.at - row.start) ≡ c.loop-at.at = omega (arith, c.max-from.ensures, c.loop-at.auto.at) in
    let lt : c.loop-at.at - row.start < length row.values.items = omega (arith, row.values.ok.0, c.len.ensures, c.min-end.ensures, c.max-from.ensures, c.loop-at.auto.at, c.loop-at-test.true) in
    none_more _ c.args.place c.loop-at.at c.loop-at.invariant
    (rw (← c.self.view_is) (placed_read row.start c.loop-at.at _ row.values.items c.index.result.now e lt c.index.ensures ∙ c.in_default.is))

pub returns-clause-none : goal.returns-clause-none
returns-clause-none c =
    let row = c.self.inside in
    let last : min c.args.end (row.start + length row.values.items) ≤ c.loop-at.at = omega (arith, row.values.ok.0, c.len.ensures, c.min-end.ensures, c.loop-at-test.false) in
    let before = rw (← c.self.view_is) at c.loop-at.invariant in
    rw (← c.self.view_is) (none_at_all row.start row.values.items c.args.place c.loop-at.at c.args.end before last)

pub returns-clause-small : goal.returns-clause-small
returns-clause-small c = rw (← c.self.view_is) (placed_numbered _ _ c.self.invariant)
