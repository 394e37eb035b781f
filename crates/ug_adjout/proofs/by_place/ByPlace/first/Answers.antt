use Rattle.std.proofs.Common.{◌<◌, ◌≤◌, length, sym, ◌∙◌, arith}
use Rattle.ug_adjout.proofs.Placed.{first_here, first_nowhere, first_placed}
use Rattle.ug_adjout.proofs.by_place.ByPlace.first.Goals as goal

pub returns-in-Some : goal.returns-in-Some
returns-in-Some c =
    let row = c.self.inside.values in
    let inside : c.loop-at.at < length row.items = omega (arith, row.ok.0, c.len-at-end.ensures, c.loop-at-test.true) in
    rw (← c.self.view_is) (first_here row.items c.loop-at.at c.in-Some.value c.index.result.now inside c.index.ensures c.in-Some.is c.loop-at.invariant ∙ sym (first_placed c.self.inside.start row.items))

pub returns : goal.returns
returns c =
    let row = c.self.inside.values in
    let past : length row.items ≤ c.loop-at.at = omega (arith, row.ok.0, c.len-at-end.ensures, c.loop-at-test.false) in
    rw (← c.self.view_is) (first_nowhere row.items c.loop-at.at past c.loop-at.invariant ∙ sym (first_placed c.self.inside.start row.items))
