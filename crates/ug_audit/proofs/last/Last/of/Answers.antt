use Rattle.std.proofs.Common.{◌≡◌, ◌∷◌, [], length, List, ap, sym, ◌∙◌, arith, length-append}
use Rattle.std.specs.Prelude.{slice_get}
use Rattle.ug_audit.specs.declared.last.LastPeer.{LastPeer}
use Rattle.ug_audit.proofs.Placed.{kept_too}
use Rattle.ug_audit.proofs.last.Last.of.Goals as goal

pub loop-id-preserved : goal.loop-id-preserved
loop-id-preserved c =
    let pushed = c.in_ok-push.ensures.items in
    let many = c.loop-id.invariant.many in
    let size = ap (λ (xs : List LastPeer). length xs) pushed ∙ length-append c.loop-id.peers.items (c.in_ok-peer.peer ∷ []) in
    let inside = c.loop-id-test.true in
    let all = c.peers-id-end.ensures in
    record {
      many = omega (arith, size, many);
      inside = omega (arith, inside, all);
      each = λ p s kept at there.
          kept_too c.args.world.peers c.loop-id.peers.items c.in_ok-peer.peer c.loop-id.id many c.in_ok-peer.ensures c.loop-id.invariant.each p s kept at (ap (λ (xs : List LastPeer). slice_get xs p) (sym pushed) ∙ there);
    }
