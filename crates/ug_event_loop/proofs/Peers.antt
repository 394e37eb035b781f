-- A peer after many events.
use Rattle.std.proofs.Common.{◌≡◌, ℕ, List, [], ◌∷◌, slice_get, Some, refl, ◌∙◌, ap}
use Rattle.std.specs.Option.{option_map}
use Rattle.ug_events.specs.Events.{Happening}
use Rattle.ug_world.specs.declared.peer_state.PeerState.{PeerState}
use Rattle.ug_world.specs.World.{World}
use Rattle.ug_world.specs.After.{after}
use Rattle.ug_speaker.specs.Speech.{capabilities_of}
use Rattle.ug_speaker.specs.Told.{world_after}
use Rattle.ug_speaker.proofs.Peers.{peer_after, peers-after, next-of}

-- It is the same peer: its sessions are opened with the same capabilities, and it has the same name.
pub record IsSamePeer (s s' : PeerState) : Type 0 where
  pub capabilities : capabilities_of s'.peer ≡ capabilities_of s.peer
  pub named : s'.peer.name ≡ s.peer.name

-- A peer is there after all events.
pub peer-through : (w : World) (es : List Happening) (p : ℕ) (s : PeerState) → slice_get w.peers p ≡ Some s
    → (s' : PeerState) × (slice_get (world_after w es).peers p ≡ Some s') × IsSamePeer s s'
peer-through w [] p s is = (s, is, record { capabilities = refl; named = refl })
peer-through w (e ∷ es) p s is =
    let next = next-of e s in
    let there : slice_get (after w e).peers p ≡ Some (peer_after e s) = peers-after e w p ∙ ap (option_map (peer_after e)) is in
    let rest = peer-through (after w e) es p (peer_after e s) there in (
      rest.0,
      rest.1,
      record {
        capabilities = rest.2.capabilities ∙ next.capabilities;
        named = rest.2.named ∙ next.named;
      },
    )
