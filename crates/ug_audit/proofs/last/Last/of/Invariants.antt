use Rattle.std.proofs.Common.{◌≡◌, ℕ, ◌≤◌, length, slice_get, Some}
use Rattle.ug_world.specs.declared.peer_state.PeerState.{PeerState}
use Rattle.ug_audit.specs.declared.last.LastPeer.{LastPeer}
use Rattle.ug_audit.specs.Last.{last_peer}
use Rattle.ug_audit.proofs.last.Last.of.Given as goal

-- the peers so far are kept
abbrev pub invariant-loop-id : goal.invariant-loop-id
invariant-loop-id l = record {
  many : length l.peers.items ≡ l.id;
  inside : l.id ≤ length l.fn.world.peers;
  each : (p : ℕ) (s : PeerState) (kept : LastPeer) → slice_get l.fn.world.peers p ≡ Some s → slice_get l.peers.items p ≡ Some kept → kept ≡ last_peer s;
}
