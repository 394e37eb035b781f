-- The keys under which an event can change what a peer should have.
use Rattle.std.specs.Prelude.{ℕ, Bool, List, [], if◌then◌else◌}
use Rattle.ug_types.specs.Bytes.{same_bytes}
use Rattle.ug_types.specs.declared.key.Key.{Key}
use Rattle.ug_outbound.specs.declared.peer.Peer.{Peer}
use Rattle.ug_events.specs.Events.{Happening, ComesUp, GoesDown, HasPaths, HasNone, HasPolicy, HasEntries, AsksAgain, SendsRequest, SendsList}
use Rattle.ug_world.specs.World.{World, paths_to}
use Rattle.ug_world.specs.Private.{keys_to, keys_of}

-- all keys of the world, where the peer has that name
abbrev pub keys_where : List ℕ → Peer → World → List Key
keys_where name peer w = if same_bytes peer.name name then keys_of peer.add_path w.routes else []

-- those of the event's prefix; all where it is about the peer, or about a prefix list
abbrev pub keys_at : Happening → Peer → World → List Key
keys_at (HasPaths prefix paths) peer w = keys_to peer.add_path prefix (paths_to w.routes prefix)
keys_at (HasNone prefix) peer w = keys_to peer.add_path prefix (paths_to w.routes prefix)
keys_at (HasEntries name entries) peer w = keys_of peer.add_path w.routes
keys_at (ComesUp name) peer w = keys_where name peer w
keys_at (GoesDown name) peer w = keys_where name peer w
keys_at (HasPolicy name policy) peer w = keys_where name peer w
keys_at (AsksAgain name) peer w = keys_where name peer w
keys_at (SendsRequest name) peer w = keys_where name peer w
keys_at (SendsList name request) peer w = keys_where name peer w

-- those under which it can change what the peers of a group key should have
abbrev pub keys_touched : Happening → Bool → World → List Key
keys_touched (HasPaths prefix paths) add_path w = keys_to add_path prefix (paths_to w.routes prefix)
keys_touched (HasNone prefix) add_path w = keys_to add_path prefix (paths_to w.routes prefix)
keys_touched (HasEntries name entries) add_path w = keys_of add_path w.routes
keys_touched (ComesUp name) add_path w = []
keys_touched (GoesDown name) add_path w = []
keys_touched (HasPolicy name policy) add_path w = []
keys_touched (AsksAgain name) add_path w = []
keys_touched (SendsRequest name) add_path w = []
keys_touched (SendsList name request) add_path w = []
