-- What a machine counts of a peer's sessions.
use Rattle.std.specs.Prelude.{ℕ, ◌+◌, ◌==◌, nat_le, Bool, ◌&&◌, not, List, [], ◌∷◌, ◌++◌, filter, slice_get, Option, Some, None}
use Rattle.std.specs.List.{list_any}
use Rattle.ug_world.specs.declared.peer_state.PeerState.{PeerState}
use Rattle.ug_world.specs.World.{World}

-- How many sessions were begun, which of them aren't lost, and how many messages were handed out in the last of them.
pub record Counts : Type 0 where
  pub begun : ℕ
  pub unlost : List ℕ
  pub handed : ℕ

abbrev pub sessions_had : Option PeerState → ℕ
sessions_had None = 0
sessions_had (Some s) = s.sessions

-- how many sessions a peer has had
abbrev pub sessions_at : ℕ → World → ℕ
sessions_at p w = sessions_had (slice_get w.peers p)

-- this number stands in the list
abbrev pub has : List ℕ → ℕ → Bool
has numbers n = list_any (λ (m : ℕ). m == n) numbers

-- the session was begun, and is lost
abbrev pub is_lost_at : Counts → ℕ → Bool
is_lost_at t n = nat_le 1 n && (nat_le n t.begun && not (has t.unlost n))

-- one session more is begun
abbrev pub with_session : Counts → Counts
with_session t = record { begun = t.begun + 1; unlost = t.unlost ++ (t.begun + 1) ∷ []; handed = 0 }

-- the loss of a session is noted
abbrev pub with_loss : ℕ → Counts → Counts
with_loss n t = record t { unlost = filter (λ (m : ℕ). not (m == n)) t.unlost }
