use Rattle.std.proofs.Common.{◌+◌, ◌≤◌, ap, ◌∙◌, arith, length}
use Rattle.ug_message.specs.Kind.{Placed}
use Rattle.ug_message.specs.AttributesRead.{has_routes}
use Rattle.ug_update.specs.AttrsViews.{so_far}
use Rattle.ug_update.proofs.Faults.{multiprotocol_fails}
use Rattle.ug_update.proofs.attrs_reading.read_attrs6.Goals as goal

pub returns-in-Err-clause-exact : goal.returns-in-Err-clause-exact
returns-in-Err-clause-exact c =
    let bytes = c.args.bytes.now in
    let announced = c.announced_in-announced.result in
    let inside : announced.place + announced.size ≤ length bytes = omega (arith, c.announced_in-announced.ensures.within, c.in_ok-found.ensures.limit) in
    let needed = c.has_routes-need.ensures bytes inside ∙ ap (λ (p : Placed). has_routes p) (c.announced_in-announced.ensures.is bytes) in
    multiprotocol_fails c.in-Err.e bytes (so_far bytes c.in_ok-found.found) c.has_routes-need.result c.next_hop_in-next_hop.result c.in_ok-found.ensures.exact needed
    (c.next_hop_in-next_hop.ensures bytes) (c.in-Err.ensures.exact bytes)
