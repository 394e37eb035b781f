use Rattle.std.proofs.Common.{ap, sym, ◌∙◌}
use Rattle.ug_types.specs.Bytes.{same_bytes}
use Rattle.ug_world.specs.declared.peer_state.PeerState.{PeerState}
use Rattle.ug_world.proofs.Changing.{index_any}
use Rattle.ug_world.proofs.peers.place_of.Goals as goal

pub returns-then-eq : goal.returns-then-eq
returns-then-eq c = record {
  inside = c.loop-place-test.true;
  named = λ s.
      ap (λ (t : PeerState). same_bytes t.peer.name c.args.name.now) (index_any c.args.seats.now c.loop-place.place s c.index-seats-place.result c.loop-place-test.true)
      ∙ sym c.eq.ensures ∙ c.if-eq.true;
}
