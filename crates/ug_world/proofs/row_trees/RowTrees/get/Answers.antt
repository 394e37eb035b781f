use Rattle.std.proofs.Common.{ap, sym, ◌∙◌}
use Rattle.ug_types.specs.Ip.{IpPrefix}
use Rattle.ug_world.proofs.Families.{found_v4, found_v6}
use Rattle.ug_world.proofs.row_trees.RowTrees.get.Goals as goal

pub returns-in-V4 : goal.returns-in-V4
returns-in-V4 c =
    let family = ap (λ (p : IpPrefix). p.family) (sym c.prefix.view_is) ∙ c.in-V4.is in
    c.get.ensures.value ∙ found_v4 c.self.inside.v4.entries c.self.inside.v6.entries c.args.self.now c.self.invariant c.self.view_is c.narrow.result c.args.prefix.now c.narrow.ensures family

pub returns-in-V6 : goal.returns-in-V6
returns-in-V6 c =
    let family = ap (λ (p : IpPrefix). p.family) (sym c.prefix.view_is) ∙ c.in-V6.is in
    c.get-in-V6.ensures.value ∙ found_v6 c.self.inside.v4.entries c.self.inside.v6.entries c.args.self.now c.self.invariant c.self.view_is c.narrow-in-V6.result c.args.prefix.now c.narrow-in-V6.ensures family
