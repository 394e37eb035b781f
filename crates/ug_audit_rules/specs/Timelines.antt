-- What a peer should have, version by version, and when its sessions were.
use Rattle.std.specs.Prelude.{◌≡◌, ℕ, suc, ◌+◌, true, false, List, ◌∷◌, ◌++◌, length, map, filter, slice_get, Some, None, unwrap_or}
use Rattle.ug_types.specs.declared.key.Key.{Key}
use Rattle.ug_hearing.specs.Logs.{IsLog}
use Rattle.ug_world.specs.declared.peer_state.PeerState.{PeerState}
use Rattle.ug_world.specs.World.{World}
use Rattle.ug_world.specs.Names.{are_distinct}
use Rattle.ug_world.specs.Kept.{peer_name}
use Rattle.ug_world.specs.Private.{private_table}
use Rattle.ug_world.specs.Worlds.{in_session}
use Rattle.ug_audit_rules.specs.declared.timeline.Timeline.{Timeline}

-- Before all events: nobody is up or was, and no two peers have one name.
pub record IsFirst (w : World) : Type 0 where
  pub version : w.version ≡ 0
  pub down : (p : ℕ) (s : PeerState) → slice_get w.peers p ≡ Some s → s.up ≡ false
  pub none : (p : ℕ) (s : PeerState) → slice_get w.peers p ≡ Some s → s.sessions ≡ 0
  pub distinct : are_distinct (map peer_name w.peers) ≡ true

-- The worlds of session `n` of the peer stand together: behind the world of version `from`, in which the peer isn't up,
-- and before that of version `to`.
pub record IsSpan (p n : ℕ) (ws : List World) (from to : ℕ) : Type 0 where
  pub before : List World
  pub first : World
  pub inside : List World
  pub behind : List World
  pub parts : ws ≡ before ++ first ∷ (inside ++ behind)
  pub from_is : from ≡ length before
  pub to_is : to ≡ length before + 1 + length inside
  pub kept : filter (in_session p n) ws ≡ inside
  pub empty : (key : Key) → private_table p first key ≡ None

-- the first version behind a session, where it is over, and else behind all
abbrev pub end_of : List ℕ → ℕ → ℕ → ℕ
end_of ended i all = unwrap_or (slice_get ended i) all

pub record IsTimeline (p : ℕ) (ws : List World) (t : Timeline) : Type 0 where
  pub log : IsLog t.changes (map (private_table p) ws)
  pub spans : (i from : ℕ) → slice_get t.begun.items i ≡ Some from → IsSpan p (suc i) ws from (end_of t.ended.items i (length ws))

-- It knows of each session that the peer had.
abbrev pub HasSessions : ℕ → World → Timeline → Type 0
HasSessions p last t = (s : PeerState) → slice_get last.peers p ≡ Some s → length t.begun.items ≡ s.sessions
