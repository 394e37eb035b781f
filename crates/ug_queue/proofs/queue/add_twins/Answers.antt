use Rattle.std.proofs.Common.{◌+◌, ◌++◌, ◌∷◌, [], length, drop, ap, ◌∙◌, arith, length-append, length-drop}
use Rattle.ug_queue.proofs.Kept.{twin_next}
use Rattle.ug_queue.proofs.queue.add_twins.Goals as goal

pub append-requires-clause-room : goal.append-requires-clause-room
append-requires-clause-room g c =
    let ps = c.args.line.now.packets in let cs = c.loop-place.copy.packets in let place = c.loop-place.place in
    omega (
      arith,
      ap length c.loop-place.invariant.packets,
      length-append cs (drop place ps),
      length-append c.args.copy.now.packets (drop c.args.from ps),
      length-drop place ps,
      length-drop c.args.from ps,
      c.requires.room,
      c.loop-place.invariant.limit,
      c.loop-place-test.true,
      c.len-place-end.ensures,
    )

pub loop-place-preserved : goal.loop-place-preserved
loop-place-preserved g c =
    let ps = c.args.line.now.packets in let cs = c.loop-place.copy.packets in let place = c.loop-place.place in
    record {
      packets = ap (λ v. v.packets ++ drop (place + 1) ps) c.in-Ok.ensures.ok ∙ ap (λ x. (cs ++ x ∷ []) ++ drop (place + 1) ps) c.in_ok-packet.ensures
          ∙ twin_next cs ps place c.packet.result.now c.packet.ensures ∙ c.loop-place.invariant.packets;
      places = ap (λ v. v.places) c.in-Ok.ensures.ok ∙ c.loop-place.invariant.places;
      limit = ap (λ v. v.limit) c.in-Ok.ensures.ok ∙ c.loop-place.invariant.limit;
    }
