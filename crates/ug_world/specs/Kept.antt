-- What each world keeps.
use Rattle.std.specs.Prelude.{◌≡◌, ℕ, ◌<◌, nat_le, Bool, true, ◌&&◌, List, length, map, slice_index_or, is_none}
use Rattle.std.specs.List.{list_all}
use Rattle.ug_types.specs.declared.named.Named.{Named}
use Rattle.ug_types.specs.Bytes.{same_bytes}
use Rattle.ug_policy.specs.Named.{NamedList}
use Rattle.ug_outbound.specs.declared.policy.Policy.{Policy}
use Rattle.ug_world.specs.declared.peer_state.PeerState.{PeerState}
use Rattle.ug_world.specs.Names.{are_distinct}
use Rattle.ug_world.specs.World.{Routes}
use Rattle.ug_world.specs.Verdicts.{path_count}

abbrev pub peer_name : PeerState → List ℕ
peer_name s = s.peer.name

abbrev pub name_of : {T : Type 0} → Named T → List ℕ
name_of x = x.name

-- at most 64 peers, each of another name
abbrev pub are_peers : List PeerState → Bool
are_peers peers = are_distinct (map peer_name peers) && nat_le (length peers) 64

abbrev pub ArePeers : List PeerState → Type 0
ArePeers peers = are_peers peers ≡ true

-- a peer of that name stands at that place
pub record IsPlaceOf (peers : List PeerState) (name : List ℕ) (place : ℕ) : Type 0 where
  pub inside : place < length peers
  pub named : (s : PeerState) → same_bytes (slice_index_or peers place s).peer.name name ≡ true

-- a peer has had at most as many sessions as there were events
abbrev pub has_sessions_within : ℕ → PeerState → Bool
has_sessions_within version s = nat_le s.sessions version

abbrev pub are_sessions_within : ℕ → List PeerState → Bool
are_sessions_within version peers = list_all (has_sessions_within version) peers

abbrev pub is_no_policy : Policy → Bool
is_no_policy p = is_none p.list && is_none p.map

-- What stands for the policy of a peer that has none; the sessions that the peers have had; and that no two lists have
-- one name.
abbrev pub IsWorld : Policy → ℕ → List PeerState → List NamedList → Type 0
IsWorld none version peers lists = (is_no_policy none && (are_sessions_within version peers && are_distinct (map name_of lists))) ≡ true

-- a list of that name stands at that place
pub record IsListAt (lists : List NamedList) (name : List ℕ) (place : ℕ) : Type 0 where
  pub inside : place < length lists
  pub named : (l : NamedList) → same_bytes (slice_index_or lists place l).name name ≡ true

abbrev pub with_value : {T : Type 0} → T → Named T → Named T
with_value value x = record x { value = value }

-- the number of paths that is counted beside the routes
abbrev pub IsCounted : ℕ → Routes → Type 0
IsCounted count routes = count ≡ path_count routes
