-- How often an event runs the outbound rules: once a group key and path, however many peers and subgroups have the key.
use Rattle.std.specs.Prelude.{ℕ, min, Bool, true, false, List, [], ◌∷◌, length, Option, Some, None, if◌then◌else◌}
use Rattle.std.specs.List.{list_any, sum_by}
use Rattle.ug_types.specs.Ip.{IpPrefix}
use Rattle.ug_types.specs.declared.route.Path.{Path}
use Rattle.ug_outbound.specs.declared.key.GroupKey.{GroupKey}
use Rattle.ug_events.specs.Events.{Happening, ComesUp, GoesDown, HasPaths, HasNone, HasPolicy, HasEntries, AsksAgain, SendsRequest, SendsList}
use Rattle.ug_world.specs.World.{World, Routes, paths_to}
use Rattle.ug_world.specs.Touches.{decides_for}
use Rattle.ug_group_rules.specs.Packets.{same_group}
use Rattle.ug_group_rules.specs.Machine.{Subgroup, System, take_event}

abbrev pub has_key : List GroupKey → GroupKey → Bool
has_key keys key = list_any (same_group key) keys

-- the keys of these subgroups but those that stand before, each once
abbrev pub keys_from : List GroupKey → List (Option Subgroup) → List GroupKey
keys_from before [] = []
keys_from before (None ∷ xs) = keys_from before xs
keys_from before (Some x ∷ xs) = if has_key before x.key then keys_from before xs else x.key ∷ keys_from (x.key ∷ before) xs

-- the keys of all live peers, each once: a live peer sits in a subgroup of its key
abbrev pub live_keys : System → List GroupKey
live_keys s = keys_from [] s.subgroups

-- without ADD-PATH the first path alone
abbrev pub paths_heeded : Bool → List Path → ℕ
paths_heeded true paths = length paths
paths_heeded false paths = min 1 (length paths)

abbrev pub all_heeded : Bool → Routes → ℕ
all_heeded add_path routes = sum_by (λ (r : IpPrefix × List Path). paths_heeded add_path r.1) routes

-- The paths of the world after an event, of which it has to be asked anew what goes out of them to the peers of a key. A
-- prefix list matters to a key alone whose list it is, or whose route map asks it.
abbrev pub paths_touched : Happening → GroupKey → World → ℕ
paths_touched (HasPaths prefix paths) key w = paths_heeded key.add_path (paths_to w.routes prefix)
paths_touched (HasEntries name entries) key w = if decides_for w.tables key name then all_heeded key.add_path w.routes else 0
paths_touched (HasNone prefix) key w = 0
paths_touched (ComesUp name) key w = 0
paths_touched (GoesDown name) key w = 0
paths_touched (HasPolicy name policy) key w = 0
paths_touched (AsksAgain name) key w = 0
paths_touched (SendsRequest name) key w = 0
paths_touched (SendsList name request) key w = 0

-- all paths for a key that no live peer had before
abbrev pub evaluations_for : Happening → List GroupKey → World → GroupKey → ℕ
evaluations_for e before w key = if has_key before key then paths_touched e key w else all_heeded key.add_path w.routes

abbrev pub evaluations : Happening → System → ℕ
evaluations e s = let next = take_event e s in sum_by (evaluations_for e (live_keys s) next.world) (live_keys next)
