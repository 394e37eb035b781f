use Rattle.std.proofs.Common.{ap, sym, ◌∙◌}
use Rattle.ug_types.specs.Ip.{IpPrefix}
use Rattle.ug_world.proofs.Families.{all_ordered, found_v4, found_v6, put_v4, put_v6, kept_put_v4, kept_put_v6}
use Rattle.ug_world.proofs.row_trees.RowTrees.insert.Goals as goal

pub returns-in_err-insert-in-V4-clause-was_ordered : goal.returns-in_err-insert-in-V4-clause-was_ordered
returns-in_err-insert-in-V4-clause-was_ordered c = all_ordered c.self.inside.v4.entries c.self.inside.v6.entries c.args.self.now c.self.invariant c.self.view_is

pub invariant_of-self-in-V4 : goal.invariant_of-self-in-V4
invariant_of-self-in-V4 c =
    let family = ap (λ (p : IpPrefix). p.family) (sym c.prefix.view_is) ∙ c.in-V4.is in
    kept_put_v4 c.self.inside.v4.entries c.self.inside.v6.entries c.args.self.now c.self.invariant c.self.view_is c.narrow.result c.args.prefix c.narrow.ensures c.insert.new.self.entries c.insert.ensures.ordered family c.args.best c.in_ok-insert-in-V4.ensures.entries

pub returns-in_ok-insert-in-V4-clause-old : goal.returns-in_ok-insert-in-V4-clause-old
returns-in_ok-insert-in-V4-clause-old c =
    let family = ap (λ (p : IpPrefix). p.family) (sym c.prefix.view_is) ∙ c.in-V4.is in
    c.in_ok-insert-in-V4.ensures.old ∙ found_v4 c.self.inside.v4.entries c.self.inside.v6.entries c.args.self.now c.self.invariant c.self.view_is c.narrow.result c.args.prefix c.narrow.ensures family

pub returns-in_ok-insert-in-V4-clause-entries : goal.returns-in_ok-insert-in-V4-clause-entries
returns-in_ok-insert-in-V4-clause-entries c =
    let family = ap (λ (p : IpPrefix). p.family) (sym c.prefix.view_is) ∙ c.in-V4.is in
    put_v4 c.self.inside.v4.entries c.self.inside.v6.entries c.args.self.now c.self.invariant c.self.view_is c.narrow.result c.args.prefix c.narrow.ensures c.insert.new.self.entries family c.args.best c.in_ok-insert-in-V4.ensures.entries

pub returns-in_ok-insert-in-V4-clause-was_ordered : goal.returns-in_ok-insert-in-V4-clause-was_ordered
returns-in_ok-insert-in-V4-clause-was_ordered c = all_ordered c.self.inside.v4.entries c.self.inside.v6.entries c.args.self.now c.self.invariant c.self.view_is

pub returns-in_err-insert-in-V6-clause-was_ordered : goal.returns-in_err-insert-in-V6-clause-was_ordered
returns-in_err-insert-in-V6-clause-was_ordered c = all_ordered c.self.inside.v4.entries c.self.inside.v6.entries c.args.self.now c.self.invariant c.self.view_is

pub invariant_of-self-in-V6 : goal.invariant_of-self-in-V6
invariant_of-self-in-V6 c =
    let family = ap (λ (p : IpPrefix). p.family) (sym c.prefix.view_is) ∙ c.in-V6.is in
    kept_put_v6 c.self.inside.v4.entries c.self.inside.v6.entries c.args.self.now c.self.invariant c.self.view_is c.narrow-in-V6.result c.args.prefix c.narrow-in-V6.ensures c.insert-in-V6.new.self.entries c.insert-in-V6.ensures.ordered family c.args.best c.in_ok-insert-in-V6.ensures.entries

pub returns-in_ok-insert-in-V6-clause-old : goal.returns-in_ok-insert-in-V6-clause-old
returns-in_ok-insert-in-V6-clause-old c =
    let family = ap (λ (p : IpPrefix). p.family) (sym c.prefix.view_is) ∙ c.in-V6.is in
    c.in_ok-insert-in-V6.ensures.old ∙ found_v6 c.self.inside.v4.entries c.self.inside.v6.entries c.args.self.now c.self.invariant c.self.view_is c.narrow-in-V6.result c.args.prefix c.narrow-in-V6.ensures family

pub returns-in_ok-insert-in-V6-clause-entries : goal.returns-in_ok-insert-in-V6-clause-entries
returns-in_ok-insert-in-V6-clause-entries c =
    let family = ap (λ (p : IpPrefix). p.family) (sym c.prefix.view_is) ∙ c.in-V6.is in
    put_v6 c.self.inside.v4.entries c.self.inside.v6.entries c.args.self.now c.self.invariant c.self.view_is c.narrow-in-V6.result c.args.prefix c.narrow-in-V6.ensures c.insert-in-V6.new.self.entries family c.args.best c.in_ok-insert-in-V6.ensures.entries

pub returns-in_ok-insert-in-V6-clause-was_ordered : goal.returns-in_ok-insert-in-V6-clause-was_ordered
returns-in_ok-insert-in-V6-clause-was_ordered c = all_ordered c.self.inside.v4.entries c.self.inside.v6.entries c.args.self.now c.self.invariant c.self.view_is
