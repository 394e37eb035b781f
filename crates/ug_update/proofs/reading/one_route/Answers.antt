use Rattle.std.proofs.Common.{ap, arith}
use Rattle.ug_message.specs.Walking.{Fault}
use Rattle.ug_update.proofs.RouteFaults.{route_fault_within}
use Rattle.ug_update.proofs.reading.one_route.Goals as goal

pub returns-in-Err-clause-within : goal.returns-in-Err-clause-within
returns-in-Err-clause-within c =
    let is = ap (λ (f : Fault). f.place) c.route_fault.ensures in
    omega (arith, is, route_fault_within c.args.family c.args.add_path c.args.place c.in-Err.refusal.number c.args.bytes.now c.in-Err.ensures.exact)
