-- Which events a world refuses, and why.
use Rattle.std.specs.Prelude.{ℕ, nat_lt, Bool, ◌||◌, not, List, [], length, map, sum_by, Option, Some, None, is_some, if◌then◌else◌}
use Rattle.std.specs.List.{list_all}
use Rattle.std.specs.Map.{lookup, values_of}
use Rattle.std.specs.BTreeMap.{insert_entry}
use Rattle.ug_types.specs.Ip.{IpPrefix}
use Rattle.ug_types.specs.Keys.{prefix_cmp, same_prefix}
use Rattle.ug_types.specs.declared.route.Learned.{Learned}
use Rattle.ug_types.specs.declared.route.Learned.TheVariants as learned
use Rattle.ug_types.specs.declared.route.Path.{Path}
use Rattle.ug_policy.specs.Order.{repeats}
use Rattle.ug_policy.specs.Named.{value_named}
use Rattle.ug_outbound.specs.declared.settings.Local.{Local}
use Rattle.ug_policy.specs.OrfChanges.{OrfRequest}
use Rattle.ug_policy.specs.OrfApplying.{applied}
use Rattle.ug_events.specs.Events.{GivenPath, Happening, ComesUp, GoesDown, HasPaths, HasNone, HasPolicy, HasEntries, AsksAgain, SendsRequest, SendsList}
use Rattle.ug_world.specs.declared.peer_state.PeerState.{PeerState}
use Rattle.ug_world.specs.World.{Routes, World, peer_named, learned_from}

-- where a path is learned from whose sender is this peer, or the speaker itself
abbrev pub learned_of : Local → Option PeerState → Learned
learned_of local None = learned.Local
learned_of local (Some s) = learned_from local s

abbrev pub sender : List PeerState → Option (List ℕ) → Option PeerState
sender peers None = None
sender peers (Some name) = peer_named peers name

-- a path as it stands among the routes
abbrev pub path_of : World → GivenPath → Path
path_of w g = record { id = g.id; learned = learned_of w.local (sender w.peers g.from); attrs = g.attrs }

abbrev pub with_paths : World → IpPrefix → List GivenPath → Routes
with_paths w prefix paths = insert_entry prefix_cmp w.routes prefix (map (path_of w) paths)

abbrev pub path_count : Routes → ℕ
path_count routes = sum_by length (values_of routes)

-- over 1,048,576 prefixes, or over 2,097,152 paths
abbrev pub is_overfull : Routes → Bool
is_overfull routes = nat_lt 1048576 (length routes) || nat_lt 2097152 (path_count routes)

-- the speaker itself, or a peer that there is
abbrev pub is_sender_known : List PeerState → GivenPath → Bool
is_sender_known peers g = not (is_some g.from) || is_some (sender peers g.from)

abbrev pub given_id : GivenPath → ℕ
given_id g = g.id

abbrev pub paths_refusal : World → IpPrefix → List GivenPath → Option ℕ
paths_refusal w prefix paths =
    if not (list_all (is_sender_known w.peers) paths) then Some 1
    else if repeats given_id paths then Some 7
    else if nat_lt 8 (length paths) then Some 8
    else if is_overfull (with_paths w prefix paths) then Some 9
    else None

-- what is asked of a peer that there is
abbrev pub of_peer : Option PeerState → (PeerState → Option ℕ) → Option ℕ
of_peer None asked = Some 1
of_peer (Some s) asked = asked s

abbrev pub unless_down : PeerState → Option ℕ
unless_down s = if s.up then Some 2 else None

abbrev pub unless_up : PeerState → Option ℕ
unless_up s = if s.up then None else Some 3

abbrev pub unless_known : Bool → ℕ → Option ℕ
unless_known known number = if known then None else Some number

abbrev pub policy_refusal : World → Option (List ℕ) → Option ℕ
policy_refusal w None = None
policy_refusal w (Some name) = unless_known (is_some (value_named w.policies name)) 5

abbrev pub orf_refusal : OrfRequest → PeerState → Option ℕ
orf_refusal request s =
    if not s.up then Some 3
    else if not s.peer.orf then Some 11
    else if nat_lt 1024 (length (applied request.entries s.waiting)) then Some 12
    else None

-- The refusal of an event, the lowest number that holds: 1 unknown-peer, 2 already-up, 3 not-up, 4 no-such-prefix,
-- 5 unknown-policy, 6 unknown-list, 7 same-path-id, 8 too-many-paths, 9 table-full, 11 no-orf, 12 orf-full.
unfoldable pub verdict : World → Happening → Option ℕ
verdict w (ComesUp name) = of_peer (peer_named w.peers name) unless_down
verdict w (GoesDown name) = of_peer (peer_named w.peers name) unless_up
verdict w (AsksAgain name) = of_peer (peer_named w.peers name) unless_up
verdict w (SendsRequest name) = of_peer (peer_named w.peers name) unless_up
verdict w (SendsList name request) = of_peer (peer_named w.peers name) (orf_refusal request)
verdict w (HasPolicy name policy) = of_peer (peer_named w.peers name) (λ _. policy_refusal w policy)
verdict w (HasEntries name entries) = unless_known (is_some (value_named w.tables.lists name)) 6
verdict w (HasPaths prefix paths) = paths_refusal w prefix paths
verdict w (HasNone prefix) = unless_known (is_some (lookup (same_prefix prefix) w.routes)) 4
