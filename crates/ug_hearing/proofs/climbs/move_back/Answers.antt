use Rattle.std.proofs.Common.{◌-◌, List, map, get_or, sym, ap, subst, arith}
use Rattle.ug_hearing.specs.declared.row.Moved.{Moved}
use Rattle.ug_hearing.specs.declared.climbs.Move.{Move}
use Rattle.ug_hearing.specs.Climbed.{shift_of, IsPart}
use Rattle.ug_hearing.proofs.Chains.{next-of, within, at-index, one-move, all-back}
use Rattle.ug_hearing.proofs.climbs.move_back.Goals as goal

abbrev empty : Moved
empty = record { message = 0; place = 0; before = 0 }

pub returns-then-at-all : goal.returns-then-at-all
returns-then-at-all c = λ shifts chain.
    let n = next-of c.args.all.now c.loop-at.at (map shift_of c.loop-at.moves.items) shifts c.loop-at-test.true (c.loop-at.invariant shifts chain) in
    let few = within c.args.all.now c.loop-at.at (map shift_of c.loop-at.moves.items) shifts n c.loop-at-test.true in
    let far = c.if-at-all.true in absurd (omega arith)

pub returns-then-moved-at : goal.returns-then-moved-at
returns-then-moved-at c = λ shifts chain.
    let n = next-of c.args.all.now c.loop-at.at (map shift_of c.loop-at.moves.items) shifts c.loop-at-test.true (c.loop-at.invariant shifts chain) in
    let same = ap (λ (m : Moved). m.before) (at-index c.args.all.now c.loop-at.at (map shift_of c.loop-at.moves.items) shifts n c.loop-at-test.true empty) in
    let low = n.low in
    let far = c.if-moved-at.true in absurd (omega (arith, same, low, far))

pub loop-at-preserved : goal.loop-at-preserved
loop-at-preserved c = λ shifts chain.
    let n = next-of c.args.all.now c.loop-at.at (map shift_of c.loop-at.moves.items) shifts c.loop-at-test.true (c.loop-at.invariant shifts chain) in
    let same = at-index c.args.all.now c.loop-at.at (map shift_of c.loop-at.moves.items) shifts n c.loop-at-test.true empty in
    subst (λ (ms : List Move). IsPart c.args.all.now (get_or c.args.all.now (c.loop-at.at - 1) empty).before (map shift_of ms) shifts) (sym c.in_ok-push.ensures.items)
    (one-move c.args.all.now c.loop-at.at c.loop-at.moves.items shifts n (get_or c.args.all.now (c.loop-at.at - 1) empty) same)

pub returns : goal.returns
returns c = λ shifts chain. all-back c.args.all.now c.loop-at.at c.loop-at.moves.items c.reverse.new.self.items shifts c.loop-at-test.false (c.loop-at.invariant shifts chain) c.reverse.ensures.items
