-- Peers before any session.
use Rattle.std.specs.Prelude.{◌≡◌, ℕ, ◌≤◌, List, [], ◌∷◌, None}
use Rattle.ug_world.specs.declared.peer_state.PeerState.{PeerState}
use Rattle.ug_groups.specs.declared.member.Member.{Member}

-- with room for so many sessions
pub record IsFresh (sessions : ℕ) (m : Member) : Type 0 where
  pub begun : m.begun ≡ 0
  pub unlost : m.unlost.items ≡ []
  pub spare : sessions ≤ m.unlost.spare
  pub handed : m.handed ≡ 0
  pub sub : m.sub ≡ None

-- each of these peers is
abbrev pub AreFresh : List PeerState → List Member → Type 0
AreFresh [] [] = Unit {0}
AreFresh [] (m ∷ members) = ⊥
AreFresh (s ∷ peers) [] = ⊥
AreFresh (s ∷ peers) (m ∷ members) = IsFresh s.sessions m × AreFresh peers members
