use Rattle.std.proofs.Common.{ap, sym, ◌∙◌}
use Rattle.ug_types.specs.Ip.{IpPrefix}
use Rattle.ug_world.proofs.Families.{found_v4, found_v6, taken_v4, taken_v6, kept_taken_v4, kept_taken_v6}
use Rattle.ug_world.proofs.row_trees.RowTrees.remove.Goals as goal

pub invariant_of-self : goal.invariant_of-self
invariant_of-self c = kept_taken_v4 c.self.inside.v4.entries c.self.inside.v6.entries c.args.self.now c.self.invariant c.self.view_is c.narrow.result c.args.prefix.now c.narrow.ensures c.remove.new.self.entries c.remove.ensures.ordered c.remove.ensures.entries

pub returns-in-V4-clause-value : goal.returns-in-V4-clause-value
returns-in-V4-clause-value c =
    let family = ap (λ (p : IpPrefix). p.family) (sym c.prefix.view_is) ∙ c.in-V4.is in
    c.remove.ensures.value ∙ found_v4 c.self.inside.v4.entries c.self.inside.v6.entries c.args.self.now c.self.invariant c.self.view_is c.narrow.result c.args.prefix.now c.narrow.ensures family

pub returns-in-V4-clause-entries : goal.returns-in-V4-clause-entries
returns-in-V4-clause-entries c =
    let family = ap (λ (p : IpPrefix). p.family) (sym c.prefix.view_is) ∙ c.in-V4.is in
    taken_v4 c.self.inside.v4.entries c.self.inside.v6.entries c.args.self.now c.self.invariant c.self.view_is c.narrow.result c.args.prefix.now c.narrow.ensures c.remove.new.self.entries family c.remove.ensures.entries

pub invariant_of-self-in-V6 : goal.invariant_of-self-in-V6
invariant_of-self-in-V6 c = kept_taken_v6 c.self.inside.v4.entries c.self.inside.v6.entries c.args.self.now c.self.invariant c.self.view_is c.narrow-in-V6.result c.args.prefix.now c.narrow-in-V6.ensures c.remove-in-V6.new.self.entries c.remove-in-V6.ensures.ordered c.remove-in-V6.ensures.entries

pub returns-in-V6-clause-value : goal.returns-in-V6-clause-value
returns-in-V6-clause-value c =
    let family = ap (λ (p : IpPrefix). p.family) (sym c.prefix.view_is) ∙ c.in-V6.is in
    c.remove-in-V6.ensures.value ∙ found_v6 c.self.inside.v4.entries c.self.inside.v6.entries c.args.self.now c.self.invariant c.self.view_is c.narrow-in-V6.result c.args.prefix.now c.narrow-in-V6.ensures family

pub returns-in-V6-clause-entries : goal.returns-in-V6-clause-entries
returns-in-V6-clause-entries c =
    let family = ap (λ (p : IpPrefix). p.family) (sym c.prefix.view_is) ∙ c.in-V6.is in
    taken_v6 c.self.inside.v4.entries c.self.inside.v6.entries c.args.self.now c.self.invariant c.self.view_is c.narrow-in-V6.result c.args.prefix.now c.narrow-in-V6.ensures c.remove-in-V6.new.self.entries family c.remove-in-V6.ensures.entries
