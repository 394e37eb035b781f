-- The sessions of a run, in the order in which they are heard, and the files in which their bytes are.
use Rattle.std.specs.Prelude.{ℕ, zero, suc, ◌+◌, List, [], ◌∷◌, ◌++◌, codes}
use Rattle.std.specs.Fmt.{decimal}
use Rattle.ug_world.specs.declared.peer_state.PeerState.{PeerState}
use Rattle.ug_world.specs.World.{World}

-- a session: the place of its peer, that peer as the run left it, and its number
pub record SessionOf : Type 0 where
  pub place : ℕ
  pub state : PeerState
  pub number : ℕ

-- so many sessions of a peer, from this number on
abbrev pub sessions_from : ℕ → PeerState → ℕ → ℕ → List SessionOf
sessions_from p s number zero = []
sessions_from p s number (suc more) = record { place = p; state = s; number = number } ∷ sessions_from p s (number + 1) more

-- all sessions of these peers, of which the first stands at that place
abbrev pub sessions_of_peers : ℕ → List PeerState → List SessionOf
sessions_of_peers p [] = []
sessions_of_peers p (s ∷ peers) = sessions_from p s 1 s.sessions ++ sessions_of_peers (p + 1) peers

-- all sessions of a run that led to this world: by peer in configured order, and then by number
abbrev pub sessions_of : World → List SessionOf
sessions_of last = sessions_of_peers 0 last.peers

-- `DIR/PEER.NUMBER`
unfoldable pub file_name : List ℕ → List ℕ → ℕ → List ℕ
file_name dir peer number = dir ++ codes "/" ++ peer ++ codes "." ++ decimal number

-- the name of the file of a session
abbrev pub file_of : List ℕ → SessionOf → List ℕ
file_of dir x = file_name dir x.state.peer.name x.number
