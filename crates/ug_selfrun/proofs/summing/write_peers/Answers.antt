use Rattle.std.proofs.Common.{◌≡◌, ◌≤◌, length, arith, refl, sym, ap, ◌∙◌, map, Some}
use Rattle.std.specs.Prelude.{slice_get}
use Rattle.std.specs.Option.{option_map}
use Rattle.std.proofs.lemmas.Option.{slice_get-map, slice_get_read}
use Rattle.std.proofs.lemmas.Bool.{ltb-true}
use Rattle.std.specs.String.{string_bytes}
use Rattle.ug_selfrun.proofs.Going.{goes_step, goes_last}
use Rattle.ug_selfrun.proofs.summing.write_peers.Goals as goal

pub loop-place-preserved : goal.loop-place-preserved
loop-place-preserved c =
    let w = c.args.world.now in
    goes_step w w.peers (map (λ wire. wire.sessions) c.args.wires.now) (string_bytes c.args.out.now) c.loop-place.place c.peer-peer.result.now c.is_up.result c.in-Some.wire.now.sessions c.in_ok-standing.standing
    (string_bytes c.loop-place.out) (string_bytes c.write_peer.new.out) c.peer-peer.ensures c.is_up.ensures
    (slice_get-map (λ wire. wire.sessions) c.args.wires.now c.loop-place.place ∙ ap (option_map (λ wire. wire.sessions))
    (slice_get_read c.args.wires.now (length c.args.wires.now) c.loop-place.place c.in-Some.wire.now refl (ltb-true c.loop-place.place (length c.args.wires.now) (sym c.in-Some.ensures.lookup.0)) c.in-Some.ensures.lookup.1)) (c.in_ok-standing.ensures w c.loop-place.place) c.in_ok-write_peer.ensures c.loop-place.invariant

pub returns : goal.returns
returns c =
    let w = c.args.world.now in
    goes_last w w.peers (map (λ wire. wire.sessions) c.args.wires.now) (string_bytes c.args.out.now) c.loop-place.place (string_bytes c.loop-place.out) (let bound = c.peers-place-end.ensures in let at = c.loop-place.auto in omega arith) c.loop-place.invariant
