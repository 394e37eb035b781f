use Rattle.std.proofs.Common.{◌≤◌, sym, ap, ◌∙◌, arith}
use Rattle.ug_types.specs.declared.key.Key.{Key}
use Rattle.ug_update.proofs.Routes.{width_of-le, length-route}
use Rattle.ug_update.proofs.route_writing.size.Goals as goal

pub returns-clause-length : goal.returns-clause-length
returns-clause-length c =
    let same = ap (λ (k : Key). k.prefix.len) c.key.view_is in
    let short : c.args.key.now.prefix.len ≤ 128 = omega (arith, same, c.key.invariant.short, width_of-le) in
    c.weight.ensures ∙ sym (length-route c.args.key.now short)
