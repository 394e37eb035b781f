use Rattle.std.proofs.Common.{◌∷◌, [], length, List, ap, sym, ◌∙◌, arith, length-append}
use Rattle.std.specs.Prelude.{slice_get}
use Rattle.ug_audit_rules.specs.declared.seat.Seat.{Seat}
use Rattle.ug_audit_rules.proofs.HistorySteps.{new-added}
use Rattle.ug_audit_rules.proofs.history.new_seats.Goals as goal

pub loop-id-preserved : goal.loop-id-preserved
loop-id-preserved c =
    let pushed = c.in_ok-push.ensures.items in
    let many = c.loop-id.invariant.many in
    let size = ap (λ (xs : List Seat). length xs) pushed ∙ length-append c.loop-id.seats.items (c.new.result ∷ []) in
    let inside = c.loop-id-test.true in
    let all = c.peers-id-end.ensures in
    record {
      many = omega (arith, size, many);
      inside = omega (arith, inside, all);
      each = λ p s seat at there.
          new-added c.args.first.now.peers c.loop-id.seats.items c.new.result c.loop-id.id c.peer.result.now c.ends-ends.result many c.peer.ensures c.ends-ends.ensures c.new.ensures c.loop-id.invariant.each p s seat at
          (ap (λ (xs : List Seat). slice_get xs p) (sym pushed) ∙ there);
    }
