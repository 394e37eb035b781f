-- How far a timeline has come.
use Rattle.std.specs.Prelude.{◌≡◌, ℕ, suc, ◌-◌, ◌<◌, nat_lt, ◌&&◌, not, true, List, [], ◌∷◌, ◌++◌, length, map, filter, slice_get, Some, if◌then◌else◌}
use Rattle.ug_types.specs.declared.key.Key.{Key}
use Rattle.ug_hearing.specs.declared.change.Change.{Change}
use Rattle.ug_hearing.specs.Logs.{IsLog, AreNoted}
use Rattle.ug_world.specs.declared.peer_state.PeerState.{PeerState}
use Rattle.ug_world.specs.World.{World}
use Rattle.ug_world.specs.Names.{are_distinct}
use Rattle.ug_world.specs.Kept.{peer_name}
use Rattle.ug_world.specs.Private.{private_table}
use Rattle.ug_world.specs.Worlds.{in_session}
use Rattle.ug_audit_rules.specs.declared.progress.Progress.{Progress}
use Rattle.ug_audit_rules.specs.Timelines.{IsSpan, end_of}

-- how many sessions are over
abbrev pub over : PeerState → ℕ
over s = if s.up then s.sessions - 1 else s.sessions

-- These worlds came, the last of them `w`, and this is known of the sessions of the peer.
pub record StandsBy (p : ℕ) (ws : List World) (w : World) (t : Progress) : Type 0 where
  pub spans : (i from : ℕ) → slice_get t.begun.items i ≡ Some from → IsSpan p (suc i) ws from (end_of t.ended.items i (length ws))
  pub front : List World
  pub parts : ws ≡ front ++ w ∷ []
  pub version : w.version ≡ length front
  pub state : PeerState
  pub there : slice_get w.peers p ≡ Some state
  pub some : state.up ≡ true → 0 < state.sessions
  pub begun : length t.begun.items ≡ state.sessions
  pub ended : length t.ended.items ≡ over state
  pub later : (n : ℕ) → state.sessions < n → filter (in_session p n) ws ≡ []
  pub distinct : are_distinct (map peer_name w.peers) ≡ true

-- So it is, and of what it should have.
pub record StandsAt (p : ℕ) (ws : List World) (w : World) (t : Progress) : Type 0 where
  pub log : IsLog t.log.changes (map (private_table p) ws)
  pub by : StandsBy p ws w t

-- What the peer should have under these keys was noted.
abbrev pub IsNotedFor : ℕ → World → List Key → List (Key × List Change) → List (Key × List Change) → Type 0
IsNotedFor p w keys old new = AreNoted w.version keys (map (private_table p w) keys) old new

-- A session begins with the world of this version, or is over there, where the peer has had one more, or isn't up.
pub record IsMarked (s : PeerState) (version : ℕ) (old new : Progress) : Type 0 where
  pub log : new.log ≡ old.log
  pub begun : new.begun.items ≡ (if nat_lt (length old.begun.items) s.sessions then old.begun.items ++ (version - 1) ∷ [] else old.begun.items)
  pub ended : new.ended.items ≡ (if not s.up && nat_lt (length old.ended.items) (length new.begun.items) then old.ended.items ++ version ∷ [] else old.ended.items)
