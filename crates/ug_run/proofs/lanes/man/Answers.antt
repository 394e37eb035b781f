use Rattle.std.proofs.Common.{◌≡◌, ◌+◌, ◌-◌, ◌∷◌, ◌++◌, [], length, arith, ◌∙◌, ap, subst}
use Rattle.std.proofs.lemmas.List.{length-append}
use Rattle.std.specs.Vec.Iter.{into_iter_items, into_iter_len}
use Rattle.ug_sender.specs.Lanes.{fresh_lane}
use Rattle.ug_run.specs.Lanes.{ArePassesFrom}
use Rattle.ug_run.proofs.LaneLaws.{lanes_grow}
use Rattle.ug_run.proofs.Wired.{new_wires_rest}
use Rattle.ug_run.proofs.lanes.man.Goals as goal

pub loop-wire-preserved : goal.loop-wire-preserved
loop-wire-preserved g c =
    let lanes = c.loop-wire.lanes.items in
    let wire = c.in-Some.wire in
    let pass = c.in-Some-next-2.pass in
    let wires_is : into_iter_items c.loop-wire.wire-iterator ≡ wire ∷ into_iter_items c.next.new.self = c.in-Some.ensures.steps.0 in
    let passes_is : into_iter_items c.loop-wire.passes ≡ pass ∷ into_iter_items c.next-in-loop-wire-2.new.self = c.in-Some-next-2.ensures.cases.0 in
    let fresh = subst (ArePassesFrom (length lanes + 1)) passes_is c.loop-wire.invariant.4 in
    let number : pass.number ≡ length lanes + 1 = fresh.0 in
    let read : c.number-peer.result ≡ pass.number = c.number-peer.ensures in
    let place : c.number-peer.result - 1 ≡ length lanes = omega arith in
    let lane_is = c.over.ensures ∙ ap (λ n. fresh_lane wire (g.W.Wire.made_for wire) pass n) place in
    let grown_is : c.push.new.self.items ≡ lanes ++ c.over.result ∷ [] = c.in-Ok.ensures.ok in
    let longer : length c.push.new.self.items ≡ length lanes + 1 = ap length grown_is ∙ length-append lanes (c.over.result ∷ []) in
    let wires_len : into_iter_len c.next.new.self + 1 ≡ into_iter_len c.loop-wire.wire-iterator = c.in-Some.ensures.steps.1 in
    let passes_len : into_iter_len c.next-in-loop-wire-2.new.self + 1 ≡ into_iter_len c.loop-wire.passes = c.in-Some-next-2.ensures.cases.1 in
    let buffers_len : into_iter_len c.next-in-loop-wire.new.self + 1 ≡ into_iter_len c.loop-wire.buffers = c.in-Some-next.ensures.cases.1 in
    let alike = c.loop-wire.invariant.5 in
    let buffers = c.loop-wire.invariant.6 in
    let spare = c.loop-wire.invariant.7 in
    let kept = c.push.ensures.spare in (
      tt,
      tt,
      lanes_grow g.W.Wire.made_for lanes _ c.push.new.self.items wire pass c.over.result _ _ _ _ wires_is passes_is lane_is grown_is c.loop-wire.invariant.2,
      new_wires_rest g.W.Wire.sessions g.W.Wire.begun g.W.Wire.faults _ _ wire wires_is c.loop-wire.invariant.3,
      rw longer fresh.3,
      omega arith,
      omega arith,
      omega arith,
    )
