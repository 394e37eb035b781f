-- What a peer should have of the routes in a world.
use Rattle.std.specs.Prelude.{ℕ, ◌==◌, Bool, true, false, List, [], ◌∷◌, map, find, slice_get, Option, Some, None, option_and_then, if◌then◌else◌}
use Rattle.std.specs.Option.{option_map}
use Rattle.std.specs.List.{flat_map}
use Rattle.ug_types.specs.Ip.{IpPrefix}
use Rattle.ug_types.specs.Attributes.{Attributes}
use Rattle.ug_types.specs.declared.key.Key.{Key}
use Rattle.ug_types.specs.declared.route.Path.{Path}
use Rattle.ug_types.specs.declared.route.OutAttrs.{OutAttrs}
use Rattle.ug_policy.specs.Order.{ascending}
use Rattle.ug_message.specs.NextHops.{told_to}
use Rattle.ug_outbound.specs.Outbound.{out}
use Rattle.ug_outbound.specs.Keys.{ends_of}
use Rattle.ug_outbound.specs.declared.key.GroupKey.{GroupKey}
use Rattle.ug_message.specs.Tables.{Table}
use Rattle.ug_world.specs.declared.peer_state.PeerState.{PeerState}
use Rattle.ug_world.specs.World.{Routes, World, paths_to, key_in}

-- Without ADD-PATH a prefix's first path stands under identifier 0; with it each path stands under its own (RFC 7911).
abbrev pub path_at : Bool → ℕ → List Path → Option Path
path_at false id [] = None
path_at false id (path ∷ paths) = if id == 0 then Some path else None
path_at true id paths = find (λ (path : Path). path.id == id) paths

-- the keys of paths to a prefix under their own identifiers
abbrev pub own_keys : IpPrefix → List Path → List Key
own_keys prefix paths = map (λ (path : Path). record { prefix = prefix; id = path.id }) paths

-- the keys under which the paths to a prefix can stand, in their order: identifier 0, or with ADD-PATH their own (RFC 7911)
abbrev pub keys_to : Bool → IpPrefix → List Path → List Key
keys_to false prefix paths = record { prefix = prefix; id = 0 } ∷ []
keys_to true prefix paths = own_keys prefix (ascending (λ (path : Path). path.id) paths)

abbrev pub keys_of : Bool → Routes → List Key
keys_of add_path routes = flat_map (λ (r : IpPrefix × List Path). keys_to add_path r.0 r.1) routes

-- What the peers of a group key should have, each but for its next hops.
unfoldable pub wanted : GroupKey → World → Key → Option OutAttrs
wanted group w key = option_and_then (out group w.tables w.local key.prefix) (path_at group.add_path key.id (paths_to w.routes key.prefix))

-- what a peer is told of a path to a prefix
abbrev pub told_of : World → PeerState → Key → Path → Option Attributes
told_of w s key path = option_map (told_to (ends_of s.peer)) (out (key_in w s) w.tables w.local key.prefix path)

abbrev pub table_of_peer : World → Option PeerState → Table
table_of_peer w None key = None
table_of_peer w (Some s) key = if s.up then option_and_then (told_of w s key) (path_at s.peer.add_path key.id (paths_to w.routes key.prefix)) else None

-- A peer's private table: nothing where it isn't up, and else each prefix's path, or paths, by the outbound rules and
-- then by the rule of next hops. It is worked out for this peer alone.
unfoldable pub private_table : ℕ → World → Table
private_table p w = table_of_peer w (slice_get w.peers p)
