-- What a world is made of.
use Rattle.std.specs.Prelude.{◌≡◌, ℕ, nat_le, Bool, true, false, ◌&&◌, not, List, [], length, map, codes, Option, Some, None}
use Rattle.std.specs.List.{list_all}
use Rattle.ug_types.specs.Ip.{IpAddress, same_family}
use Rattle.ug_types.specs.declared.family.Family.{Family}
use Rattle.ug_types.specs.declared.family.Family.TheVariants.{V4, V6}
use Rattle.ug_types.specs.declared.named.Named.{Named}
use Rattle.ug_types.specs.Bytes.{same_bytes}
use Rattle.ug_policy.specs.Rules.{MapRule}
use Rattle.ug_policy.specs.NamedMaps.{NamedMap}
use Rattle.ug_outbound.specs.Policies.{NamedPolicy}
use Rattle.ug_outbound.specs.declared.settings.Local.{Local}
use Rattle.ug_outbound.specs.declared.peer.Peer.{Peer}
use Rattle.ug_world.specs.declared.parts.WorldParts.{WorldParts}
use Rattle.ug_world.specs.declared.peer_state.PeerState.{PeerState}
use Rattle.ug_world.specs.World.{World}
use Rattle.ug_world.specs.Names.{is_name_among, are_distinct}
use Rattle.ug_world.specs.Kept.{name_of}

abbrev pub is_between : ℕ → ℕ → ℕ → Bool
is_between low high n = nat_le low n && nat_le n high

abbrev pub is_ipv4 : IpAddress → Bool
is_ipv4 a = same_family a.family V4

-- the speaker's AS is not 0, its identifiers are IPv4 addresses, and its numbers lie in their ranges
abbrev pub is_local_good : Local → Bool
is_local_good l =
    nat_le 1 l.asn && (is_ipv4 l.router_id && (is_ipv4 l.cluster_id && (is_between 20 100 l.queue_limit && (is_between 1 4096 l.coalesce && is_between 1 1000 l.slow_after))))

-- at most 64, each of another name
abbrev pub are_few : List (List ℕ) → Bool
are_few names = are_distinct names && nat_le (length names) 64

abbrev pub names_of : {T : Type 0} → List (Named T) → List (List ℕ)
names_of xs = map name_of xs

abbrev pub peer_names : List Peer → List (List ℕ)
peer_names peers = map (λ (p : Peer). p.name) peers

-- no name, or one of these
abbrev pub is_one_of : List (List ℕ) → Option (List ℕ) → Bool
is_one_of names None = true
is_one_of names (Some name) = is_name_among names name

-- filters of a peer's own are for IPv4 alone
abbrev pub may_filter : Family → Bool → Bool
may_filter V4 orf = true
may_filter V6 orf = not orf

-- A peer isn't named `local`, its AS is not 0, its router id is an IPv4 address, its addresses and subnet are of its
-- family, and its policy is there.
abbrev pub is_peer_good : List (List ℕ) → Peer → Bool
is_peer_good policies p =
    not (same_bytes p.name (codes "local")) && (nat_le 1 p.asn && (is_ipv4 p.router_id && (same_family p.address.family p.family && (same_family p.local_address.family p.family
    && (same_family p.subnet.family p.family && (may_filter p.family p.orf && is_one_of policies p.policy))))))

abbrev pub is_policy_good : List (List ℕ) → List (List ℕ) → NamedPolicy → Bool
is_policy_good lists maps p = is_one_of lists p.value.list && is_one_of maps p.value.map

abbrev pub is_map_good : List (List ℕ) → NamedMap → Bool
is_map_good lists m = list_all (λ (r : MapRule). is_one_of lists r.match_prefix_list) m.value

-- Names are distinct, every name that is used is there, each value lies in its range, and there are at most 64 each of
-- lists, maps, policies and peers.
abbrev pub is_good : WorldParts → Bool
is_good p =
    is_local_good p.local
    && (are_few (names_of p.lists.items)
    && (are_few (names_of p.maps.items)
    && (are_few (names_of p.policies.items)
    && (are_few (peer_names p.peers.items)
    && (list_all (is_map_good (names_of p.lists.items)) p.maps.items
    && (list_all (is_policy_good (names_of p.lists.items) (names_of p.maps.items)) p.policies.items
    && list_all (is_peer_good (names_of p.policies.items)) p.peers.items))))))

abbrev pub IsGood : WorldParts → Type 0
IsGood p = is_good p ≡ true

-- a peer before any session
abbrev pub fresh : Peer → PeerState
fresh p = record { peer = p; up = false; sessions = 0; filter = []; waiting = [] }

-- the world before any event
abbrev pub first_world : WorldParts → World
first_world p = record {
  local = p.local;
  tables = record { lists = p.lists.items; maps = p.maps.items };
  policies = p.policies.items;
  peers = map fresh p.peers.items;
  routes = [];
  version = 0;
}
