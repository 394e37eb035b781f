use Rattle.std.proofs.Common.{◌≡◌, ◌+◌, ◌-◌, ◌<◌, length, None, ap, ◌∙◌, arith}
use Rattle.std.specs.Map.{remove_entry}
use Rattle.std.specs.Ordering.{nat_cmp}
use Rattle.std.specs.BTreeMap.{is_at}
use Rattle.ug_adjout.proofs.Placed.{placed_below, placed_past, placed_without, placed_set}
use Rattle.ug_adjout.proofs.by_place.ByPlace.remove.Goals as goal

pub returns-then-place-self : goal.returns-then-place-self
returns-then-place-self c =
    let row = c.self.inside in
    rw (← c.self.view_is)
    (placed_without row.start c.args.place row.values.items (placed_below row.start c.args.place row.values.items (omega (arith, c.from-place.ensures, c.if-place-self.true))))

pub returns-then-at-len : goal.returns-then-at-len
returns-then-at-len c =
    let row = c.self.inside in
    rw (← c.self.view_is)
    (placed_without row.start c.args.place row.values.items (placed_past row.start c.args.place row.values.items (omega (arith, row.values.ok.0, c.len.ensures, c.from-place.ensures, c.if-place-self.false, c.if-at-len.true))))

pub returns : goal.returns
returns c =
    let row = c.self.inside in
    let at = c.from-place.result - row.start in
    let e : row.start + at ≡ c.args.place = omega (arith, c.from-place.ensures, c.if-place-self.false) in
    let lt : at < length row.values.items = omega (arith, row.values.ok.0, c.len.ensures, c.if-at-len.false) in
    c.trim_back.ensures.same ∙ c.trim_front-start.ensures.same ∙ placed_set row.start c.args.place at None row.values.items e lt
    ∙ ap (λ l. remove_entry (is_at (nat_cmp c.args.place)) l) c.self.view_is
