use Rattle.std.proofs.Common.{◌≡◌, ◌+◌, ◌-◌, ◌<◌, length, Some, ap, ◌∙◌, arith}
use Rattle.std.specs.Ordering.{nat_cmp}
use Rattle.std.specs.BTreeMap.{insert_entry}
use Rattle.ug_adjout.proofs.Placed.{placed_set}
use Rattle.ug_adjout.proofs.by_place.ByPlace.insert.Goals as goal

pub returns-clause-ok : goal.returns-clause-ok
returns-clause-ok c =
    let start = c.in_ok-start.start in
    let row = c.make_place.new.values in
    let at = c.from-place.result - start in
    let e : start + at ≡ c.args.place = omega (arith, c.from-place.ensures, c.in_ok-start.ensures.from) in
    let lt : at < length row.items = omega (arith, c.in_ok-start.ensures.from, c.in_ok-start.ensures.to) in
    placed_set start c.args.place at (Some c.args.value) row.items e lt
    ∙ ap (λ l. insert_entry nat_cmp l c.args.place c.args.value) (c.in_ok-start.ensures.same ∙ c.self.view_is)
