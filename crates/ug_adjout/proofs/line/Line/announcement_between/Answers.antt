use Rattle.std.proofs.Common.{sym}
use Rattle.ug_adjout.proofs.FirstFrom.{none_announced, announced_numbered, announced_slot, first_announcement_is}
use Rattle.ug_adjout.proofs.line.Line.announcement_between.Goals as goal

pub returns-in_default-clause-none : goal.returns-in_default-clause-none
returns-in_default-clause-none g c = rw (← c.self.view_is) (none_announced _ _ c.self.invariant c.args.place c.args.end c.in_default.ensures.none)

pub returns-in_default-clause-numbered : goal.returns-in_default-clause-numbered
returns-in_default-clause-numbered g c = rw (← c.self.view_is) (announced_numbered _ _ c.self.invariant c.args.place c.in_default.ensures.small)

pub unreachable-requires : goal.unreachable-requires
unreachable-requires g c =
    let none = rw c.of-slot.ensures at c.in_default-get.ensures.value in
    announced_slot _ _ c.self.invariant c.args.place _ _ c.in-Some.ensures.value (sym none)

pub returns-clause-first : goal.returns-clause-first
returns-clause-first g c =
    let some = rw c.of-slot.ensures at c.in-Some-get.ensures.value in
    rw (← c.self.view_is) (first_announcement_is _ _ c.self.invariant c.args.place _ _ _ c.in-Some.ensures.above c.in-Some.ensures.least (sym some))

pub returns-clause-numbered : goal.returns-clause-numbered
returns-clause-numbered g c = rw (← c.self.view_is) (announced_numbered _ _ c.self.invariant c.args.place c.in-Some.ensures.small)
