use Rattle.std.proofs.Common.{◌≡◌, sym, ap, ◌∙◌, arith, Some}
use Rattle.ug_groups.specs.Members.{is_sub}
use Rattle.ug_groups.proofs.Queued.{apart-test}
use Rattle.ug_groups.proofs.Seats.{sits-sub}
use Rattle.ug_groups.proofs.Slowed.{not-first}
use Rattle.ug_groups.proofs.slowing.is_first.Goals as goal

pub returns-in_default : goal.returns-in_default
returns-in_default c = λ r row. not-first c.args.subgroups.now c.args.members.now c.args.id c.args.sub r c.requires row (ap (is_sub c.args.sub) (sym c.in_default.ensures))

pub returns-then-own-sub : goal.returns-then-own-sub
returns-then-own-sub c = λ r row.
    let other = c.if-own-sub.true in
    not-first c.args.subgroups.now c.args.members.now c.args.id c.args.sub r c.requires row
    (ap (is_sub c.args.sub) (sym c.in-Some.ensures) ∙ apart-test c.in-Some.own c.args.sub (λ e. absurd (omega (arith, e, other))))

pub at_front-requires : goal.at_front-requires
at_front-requires c =
    let same : c.in-Some.own ≡ c.args.sub = omega (arith, c.if-own-sub.false) in
    sits-sub c.args.subgroups.now c.args.members.now c.args.id c.args.sub (sym c.in-Some.ensures ∙ ap (λ k. Some k) same) c.requires
