use Rattle.std.proofs.Common.{ap, ◌∙◌}
use Rattle.ug_types.specs.Ip.{IpPrefix}
use Rattle.ug_world.proofs.Narrow.{prefix_again, same_again}
use Rattle.ug_world.proofs.v4_prefix.V4Prefix.narrow.Goals as goal

pub invariant_of-result : goal.invariant_of-result
invariant_of-result c =
    let p = c.prefix.inside in
    prefix_again p.family p.bits p.len (ap (λ (x : IpPrefix). x.family) c.prefix.view_is ∙ c.requires) c.prefix.invariant

pub returns : goal.returns
returns c =
    let p = c.prefix.inside in
    same_again p.family p.bits p.len c.args.prefix.now (ap (λ (x : IpPrefix). x.family) c.prefix.view_is ∙ c.requires) c.prefix.invariant c.prefix.view_is
