use Rattle.std.proofs.Common.{◌-◌, arith}
use Rattle.ug_adjout.proofs.Placed.{blanks_before, blanks_behind}
use Rattle.ug_adjout.proofs.by_place.make_place.Goals as goal

pub returns-then-place-start-clause-same : goal.returns-then-place-start-clause-same
returns-then-place-start-clause-same c =
    rw c.in_ok-grow_front.ensures.ok (blanks_before (c.args.start - c.args.place) c.args.place c.args.start c.args.values.now.items (omega (arith, c.if-place-start.true)))

pub returns-in_ok-grow_back-clause-same : goal.returns-in_ok-grow_back-clause-same
returns-in_ok-grow_back-clause-same c = rw c.in_ok-grow_back.ensures.ok (blanks_behind _ c.args.start c.args.values.now.items)
