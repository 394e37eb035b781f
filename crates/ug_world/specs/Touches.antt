-- Which peers and which routes an event can change.
use Rattle.std.specs.Prelude.{ℕ, Bool, false, ◌||◌, List, Option, Some, None}
use Rattle.std.specs.List.{list_any}
use Rattle.ug_types.specs.Keys.{same_prefix}
use Rattle.ug_types.specs.declared.key.Key.{Key}
use Rattle.ug_types.specs.Bytes.{same_bytes}
use Rattle.ug_policy.specs.Named.{value_named}
use Rattle.ug_policy.specs.Rules.{MapRule}
use Rattle.ug_outbound.specs.Tables.{Tables}
use Rattle.ug_outbound.specs.declared.key.GroupKey.{GroupKey}
use Rattle.ug_events.specs.Events.{Happening, ComesUp, GoesDown, HasPaths, HasNone, HasPolicy, HasEntries, AsksAgain, SendsRequest, SendsList}
use Rattle.ug_world.specs.declared.peer_state.PeerState.{PeerState}

-- the event is of this peer
abbrev pub is_about : Happening → PeerState → Bool
is_about (ComesUp name) s = same_bytes s.peer.name name
is_about (GoesDown name) s = same_bytes s.peer.name name
is_about (AsksAgain name) s = same_bytes s.peer.name name
is_about (SendsRequest name) s = same_bytes s.peer.name name
is_about (SendsList name request) s = same_bytes s.peer.name name
is_about (HasPolicy name policy) s = same_bytes s.peer.name name
is_about (HasEntries name entries) s = false
is_about (HasPaths prefix paths) s = false
is_about (HasNone prefix) s = false

abbrev pub is_called : List ℕ → Option (List ℕ) → Bool
is_called name None = false
is_called name (Some other) = same_bytes other name

-- an entry of a route map asks the prefix list of that name
abbrev pub asks : List ℕ → MapRule → Bool
asks name r = is_called name r.match_prefix_list

abbrev pub is_asked_by : List ℕ → Option (List MapRule) → Bool
is_asked_by name None = false
is_asked_by name (Some rules) = list_any (asks name) rules

abbrev pub is_asked_in : Tables → List ℕ → Option (List ℕ) → Bool
is_asked_in tables name None = false
is_asked_in tables name (Some map) = is_asked_by name (value_named tables.maps map)

-- the prefix list of that name is the one of the key, or its route map asks it
abbrev pub decides_for : Tables → GroupKey → List ℕ → Bool
decides_for tables group name = is_called name group.list || is_asked_in tables name group.map

-- The event can change what the peers of a group key should have of a route.
abbrev pub touches : Happening → Tables → GroupKey → Key → Bool
touches (HasPaths prefix paths) tables group key = same_prefix key.prefix prefix
touches (HasNone prefix) tables group key = same_prefix key.prefix prefix
touches (HasEntries name entries) tables group key = decides_for tables group name
touches (ComesUp name) tables group key = false
touches (GoesDown name) tables group key = false
touches (AsksAgain name) tables group key = false
touches (SendsRequest name) tables group key = false
touches (SendsList name request) tables group key = false
touches (HasPolicy name policy) tables group key = false
