use Rattle.std.proofs.Common.{ap, ◌∙◌}
use Rattle.ug_types.specs.Ip.{IpAddress}
use Rattle.ug_types.proofs.Routers.{address_again}
use Rattle.ug_types.proofs.router_id.RouterId.of.Goals as goal

pub returns : goal.returns
returns c =
    let a = c.address.inside in
    address_again a.family a.bits c.args.address (ap (λ (x : IpAddress). x.family) c.address.view_is ∙ c.requires) c.address.invariant c.address.view_is
