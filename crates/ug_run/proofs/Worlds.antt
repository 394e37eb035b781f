-- What a world has to be of, so that a report can tell of it.
use Rattle.std.proofs.Common.{◌≡◌, ℕ, ◌<◌, true, slice_get, Some}
use Rattle.ug_world.specs.declared.peer_state.PeerState.{PeerState}
use Rattle.ug_world.specs.World.{World}
use Rattle.ug_report.specs.Report.{names_in, name_at}
use Rattle.ug_audit_rules.specs.Reports.{place_from, IsWord}

-- The name of the peer at a place is a word, and the peer is found by it.
pub record IsNamed (last : World) (p : ℕ) : Type 0 where
  pub word : IsWord (name_at (names_in last) p)
  pub found : place_from 0 (names_in last) (name_at (names_in last) p) ≡ Some p

-- All peers have such names, and versions and sessions are of 64 bits.
pub record CanBeTold (last : World) : Type 0 where
  pub named : (p : ℕ) (s : PeerState) → slice_get last.peers p ≡ Some s → IsNamed last p
  pub version : last.version < 18446744073709551616
  pub sessions : (p : ℕ) (s : PeerState) → slice_get last.peers p ≡ Some s → s.sessions < 18446744073709551616

-- Each peer that is up had a session.
abbrev pub EachHad : World → Type 0
EachHad w = (p : ℕ) (s : PeerState) → slice_get w.peers p ≡ Some s → s.up ≡ true → 0 < s.sessions
