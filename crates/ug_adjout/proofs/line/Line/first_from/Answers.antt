use Rattle.std.proofs.Common.{subst, arith}
use Rattle.std.specs.Ordering.{nat_cmp}
use Rattle.ug_adjout.specs.Tables.{IsTable}
use Rattle.ug_adjout.proofs.FirstFrom.{found, no_withdrawal, first_of_all, withdrawal_first, announcement_first}
use Rattle.ug_adjout.proofs.line.Line.first_from.Goals as goal

pub returns-in_default : goal.returns-in_default
returns-in_default g c =
    let rest = c.announcement_between.ensures in
    found c.args.place c.args.self.now _ (subst (IsTable nat_cmp) c.self.view_is c.self.invariant.indexed.in_line)
    (no_withdrawal c.args.place c.args.self.now _ c.in_default.ensures (first_of_all c.args.place c.args.self.now _ rest.first rest.none rest.numbered))

pub returns-in_default-announcement_between : goal.returns-in_default-announcement_between
returns-in_default-announcement_between g c =
    found c.args.place c.args.self.now _ (subst (IsTable nat_cmp) c.self.view_is c.self.invariant.indexed.in_line)
    (withdrawal_first c.args.place c.args.self.now _ c.in-Some.ensures (rw c.from-end.ensures at c.in_default-announcement_between.ensures.none))

pub returns : goal.returns
returns g c =
    found c.args.place c.args.self.now _ (subst (IsTable nat_cmp) c.self.view_is c.self.invariant.indexed.in_line)
    (announcement_first c.args.place c.args.self.now _ _ c.in-Some.ensures c.in-Some-announcement_between.ensures.first
    (let lt = c.in-Some-announcement_between.ensures.before in let end = c.from-end.ensures in omega (arith, lt, end)))
