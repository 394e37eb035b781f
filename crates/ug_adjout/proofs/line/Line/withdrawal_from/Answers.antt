use Rattle.std.proofs.Common.{sym, ◌∙◌}
use Rattle.ug_adjout.proofs.FirstFrom.{none_withdrawn, none_before, first_withdrawal_is}
use Rattle.ug_adjout.proofs.line.Line.withdrawal_from.Goals as goal

pub returns-in_default : goal.returns-in_default
returns-in_default g c =
    let none = rw c.of-start.ensures at c.in_default.ensures.none in
    rw (← c.self.view_is) (none_withdrawn _ _ c.self.invariant.indexed c.args.place none)

pub returns-then-is_some : goal.returns-then-is_some
returns-then-is_some g c =
    let least = rw c.of-start.ensures at c.in-Some.ensures.least in
    let some = rw c.value.ensures at (sym c.is_some.ensures ∙ c.if-is_some.true) in
    rw (← c.self.view_is) (none_before _ _ c.self.invariant.indexed c.args.place _ c.in-Some.key.now least some)

pub returns : goal.returns
returns g c =
    let least = rw c.of-start.ensures at c.in-Some.ensures.least in
    let above = rw c.of-start.ensures at c.in-Some.ensures.above in
    let none = rw c.value.ensures at (sym c.is_some.ensures ∙ c.if-is_some.false) in
    rw (← c.self.view_is, c.place.ensures) (first_withdrawal_is _ _ c.self.invariant.indexed c.args.place _ _ least none above c.in-Some.ensures.row)
