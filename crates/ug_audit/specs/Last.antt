-- What is kept of the world to which the events lead.
use Rattle.std.specs.Prelude.{◌≡◌, ℕ, length, slice_get, Some}
use Rattle.ug_world.specs.declared.peer_state.PeerState.{PeerState}
use Rattle.ug_world.specs.World.{World}
use Rattle.ug_audit_rules.specs.Audited.{opened_with}
use Rattle.ug_audit.specs.declared.last.LastPeer.{LastPeer}
use Rattle.ug_audit.specs.declared.last.Last.{Last}

abbrev pub last_peer : PeerState → LastPeer
last_peer s = record { name = s.peer.name; capabilities = opened_with s.peer; up = s.up; sessions = s.sessions }

-- It is kept of this world.
pub record IsLast (w : World) (last : Last) : Type 0 where
  pub many : length last.peers.items ≡ length w.peers
  pub each : (p : ℕ) (s : PeerState) (kept : LastPeer) → slice_get w.peers p ≡ Some s → slice_get last.peers.items p ≡ Some kept → kept ≡ last_peer s
  pub version : last.version ≡ w.version
