use Rattle.std.proofs.Common.{ap, ◌∙◌, arith}
use Rattle.ug_types.specs.Ip.{IpPrefix}
use Rattle.ug_short_key.proofs.Narrow.{wide_again, wide_key_again}
use Rattle.ug_short_key.proofs.v6_key.V6Key.new.Goals as goal

pub invariant_of-result : goal.invariant_of-result
invariant_of-result c =
    let p = c.prefix.inside in
    (wide_again p.family p.bits p.len (ap (λ (x : IpPrefix). x.family) c.prefix.view_is ∙ c.requires) c.prefix.invariant, omega arith)

pub returns : goal.returns
returns c =
    let p = c.prefix.inside in
    wide_key_again p.family p.bits p.len c.args.id c.args.prefix (ap (λ (x : IpPrefix). x.family) c.prefix.view_is ∙ c.requires) c.prefix.view_is
