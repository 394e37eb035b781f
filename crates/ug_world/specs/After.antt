-- What an event makes of the world that accepts it.
use Rattle.std.specs.Prelude.{ℕ, ◌+◌, true, false, List, [], map, Option, if◌then◌else◌}
use Rattle.std.specs.Map.{remove_entry}
use Rattle.ug_types.specs.Keys.{same_prefix}
use Rattle.ug_types.specs.Bytes.{same_bytes}
use Rattle.ug_policy.specs.Order.{ascending}
use Rattle.ug_policy.specs.Lists.{seq_of}
use Rattle.ug_policy.specs.Named.{NamedList}
use Rattle.ug_policy.specs.declared.list_entry.ListEntry.{ListEntry}
use Rattle.ug_policy.specs.OrfChanges.{OrfRequest}
use Rattle.ug_policy.specs.OrfApplying.{applied}
use Rattle.ug_events.specs.Events.{Happening, ComesUp, GoesDown, HasPaths, HasNone, HasPolicy, HasEntries, AsksAgain, SendsRequest, SendsList}
use Rattle.ug_world.specs.declared.peer_state.PeerState.{PeerState}
use Rattle.ug_world.specs.World.{Routes, World}
use Rattle.ug_types.specs.declared.route.Path.{Path}
use Rattle.ug_world.specs.Verdicts.{path_of, with_paths}

-- up, in one session more, with no filter of its own
abbrev pub come_up : PeerState → PeerState
come_up s = record s { up = true; sessions = s.sessions + 1; filter = []; waiting = [] }

abbrev pub gone_down : PeerState → PeerState
gone_down s = record s { up = false }

abbrev pub with_policy : Option (List ℕ) → PeerState → PeerState
with_policy policy s = record s { peer = record s.peer { policy = policy } }

-- a request puts the entries that wait in force
abbrev pub refiltered : PeerState → PeerState
refiltered s = record s { filter = s.waiting }

-- entries for the filter wait for the next request, unless they are to be in force at once
abbrev pub with_orf : OrfRequest → PeerState → PeerState
with_orf request s =
    let waiting = applied request.entries s.waiting in
    record s { waiting = waiting; filter = if request.now then waiting else s.filter }

-- the peers, of which the one of that name is changed
abbrev pub changed_peer : List ℕ → (PeerState → PeerState) → PeerState → PeerState
changed_peer name change s = if same_bytes s.peer.name name then change s else s

abbrev pub with_peer : World → List ℕ → (PeerState → PeerState) → World
with_peer w name change = record w { peers = map (changed_peer name change) w.peers }

-- the list of that name has these entries
abbrev pub relisted : List ℕ → List ListEntry → NamedList → NamedList
relisted name entries l = if same_bytes l.name name then record l { value = ascending seq_of entries } else l

abbrev pub with_list : World → List ℕ → List ListEntry → World
with_list w name entries = record w { tables = record { lists = map (relisted name entries) w.tables.lists; maps = w.tables.maps } }

abbrev pub with_routes : World → Routes → World
with_routes w routes = record w { routes = routes }

abbrev pub changed : World → Happening → World
changed w (ComesUp name) = with_peer w name come_up
changed w (GoesDown name) = with_peer w name gone_down
changed w (AsksAgain name) = with_peer w name refiltered
changed w (SendsRequest name) = with_peer w name refiltered
changed w (SendsList name request) = with_peer w name (with_orf request)
changed w (HasPolicy name policy) = with_peer w name (with_policy policy)
changed w (HasEntries name entries) = with_list w name entries
changed w (HasPaths prefix paths) = with_routes w (with_paths w prefix paths)
changed w (HasNone prefix) = with_routes w (remove_entry (same_prefix prefix) w.routes)

-- the paths that an event tells of its prefix, and none where it tells none
abbrev pub told_row : World → Happening → List Path
told_row w (HasPaths prefix paths) = map (path_of w) paths
told_row w (HasNone prefix) = []
told_row w (ComesUp name) = []
told_row w (GoesDown name) = []
told_row w (HasPolicy name policy) = []
told_row w (HasEntries name entries) = []
told_row w (AsksAgain name) = []
told_row w (SendsRequest name) = []
told_row w (SendsList name request) = []

-- the world after an event that it accepts
unfoldable pub after : World → Happening → World
after w e = record (changed w e) { version = w.version + 1 }
