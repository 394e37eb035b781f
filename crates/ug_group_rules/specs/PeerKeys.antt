-- The pairs of a group key and a path that an event asks, by the keys of the peers: whoever shares a key, and in how many
-- subgroups, counts once.
use Rattle.std.specs.Prelude.{ℕ, ◌+◌, ◌*◌, Bool, true, false, not, List, [], ◌∷◌, ◌++◌, map, filter, length}
use Rattle.std.specs.List.{sum_by}
use Rattle.std.specs.Set.{unique_keys}
use Rattle.ug_types.specs.declared.route.Path.{Path}
use Rattle.ug_board.specs.declared.steps.BoardStep.{BoardStep}
use Rattle.ug_board.specs.declared.steps.BoardStep.TheVariants.{Job as DoJob, Lane as LaneTakes}
use Rattle.ug_board.specs.Entry.{Entry}
use Rattle.ug_board.specs.History.{after_step}
use Rattle.ug_board.specs.Deeds.{when}
use Rattle.ug_outbound.specs.declared.key.GroupKey.{GroupKey}
use Rattle.ug_outbound.specs.Tables.{Tables}
use Rattle.ug_events.specs.Events.{Happening, ComesUp, GoesDown, HasPaths, HasNone, HasPolicy, HasEntries, AsksAgain, SendsRequest, SendsList}
use Rattle.ug_world.specs.declared.peer_state.PeerState.{PeerState}
use Rattle.ug_world.specs.World.{World, Routes, key_in, paths_to}
use Rattle.ug_world.specs.Verdicts.{path_count}
use Rattle.ug_world.specs.After.{after}
use Rattle.ug_world.specs.Touches.{decides_for}
use Rattle.ug_speaker.specs.Told.{is_live, world_at}
use Rattle.ug_group_rules.specs.Packets.{same_group}
use Rattle.ug_group_rules.specs.Machine.{System, Job, Said}
use Rattle.ug_group_rules.specs.Evaluations.{has_key, paths_heeded, all_heeded}
use Rattle.ug_group_rules.specs.Rules.{evaluations_of, group_rules, group_speech}

-- ---- the keys of peers

-- the keys in this world of those of these peers that are live, the first of which stands at place `p`
abbrev pub keys_of_live : World → ℕ → List PeerState → World → List (Entry Job Said) → List GroupKey
keys_of_live w p [] opening history = []
keys_of_live w p (s ∷ peers) opening history = when (is_live group_rules group_speech p s opening history) (key_in w s ∷ []) ++ keys_of_live w (p + 1) peers opening history

-- the keys of the live peers at the end of a history, each once
abbrev pub peer_keys : World → List (Entry Job Said) → List GroupKey
peer_keys opening history = let w = world_at group_rules group_speech opening history in unique_keys same_group (keys_of_live w 0 w.peers opening history)

-- the keys of the peers that are up in this world, each once
abbrev pub up_keys : World → List GroupKey
up_keys w = unique_keys same_group (map (key_in w) (filter (λ (s : PeerState). s.up) w.peers))

-- those of the keys now that are none of those before
abbrev pub new_keys : List GroupKey → List GroupKey → List GroupKey
new_keys before now = filter (λ (key : GroupKey). not (has_key before key)) now

-- those whose prefix list has that name, or whose route map asks it
abbrev pub keys_decided : Tables → List ℕ → List GroupKey → List GroupKey
keys_decided tables name keys = filter (λ (key : GroupKey). decides_for tables key name) keys

-- ---- pairs of a key and a path

-- each of these keys with each of these paths, or with the first of them where the key is without ADD-PATH
abbrev pub pairs_with : List Path → List GroupKey → ℕ
pairs_with paths keys = sum_by (λ (key : GroupKey). paths_heeded key.add_path paths) keys

-- each of these keys with each path of the Loc-RIB, or with the first of each prefix
abbrev pub pairs_with_all : Routes → List GroupKey → ℕ
pairs_with_all routes keys = sum_by (λ (key : GroupKey). all_heeded key.add_path routes) keys

-- What an event asks, by the keys of the live peers before it and after it, and the world after it: where a prefix has
-- other paths, each key with those; where a prefix list has other entries, each key that it decides for with all paths; else
-- each key that is new with all paths.
abbrev pub pairs_asked : Happening → List GroupKey → List GroupKey → World → ℕ
pairs_asked (HasPaths prefix paths) before now w = pairs_with (paths_to w.routes prefix) now
pairs_asked (HasEntries name entries) before now w = pairs_with_all w.routes (keys_decided w.tables name now)
pairs_asked (HasNone prefix) before now w = pairs_with_all w.routes (new_keys before now)
pairs_asked (ComesUp name) before now w = pairs_with_all w.routes (new_keys before now)
pairs_asked (GoesDown name) before now w = pairs_with_all w.routes (new_keys before now)
pairs_asked (HasPolicy name policy) before now w = pairs_with_all w.routes (new_keys before now)
pairs_asked (AsksAgain name) before now w = pairs_with_all w.routes (new_keys before now)
pairs_asked (SendsRequest name) before now w = pairs_with_all w.routes (new_keys before now)
pairs_asked (SendsList name request) before now w = pairs_with_all w.routes (new_keys before now)

-- ---- bounds

-- The paths that an event can touch, of the routes after it: by a withdrawal, or where a session goes down, none. Where a
-- request or a list puts another filter in force, the peer can have a key that none had: then all.
abbrev pub paths_at_most : Happening → Routes → ℕ
paths_at_most (HasPaths prefix paths) routes = length (paths_to routes prefix)
paths_at_most (HasEntries name entries) routes = path_count routes
paths_at_most (HasNone prefix) routes = 0
paths_at_most (ComesUp name) routes = path_count routes
paths_at_most (GoesDown name) routes = 0
paths_at_most (HasPolicy name policy) routes = path_count routes
paths_at_most (AsksAgain name) routes = path_count routes
paths_at_most (SendsRequest name) routes = path_count routes
paths_at_most (SendsList name request) routes = path_count routes

-- the events by which a filter is put in force
abbrev pub sets_filter : Happening → Bool
sets_filter (HasPaths prefix paths) = false
sets_filter (HasEntries name entries) = false
sets_filter (HasNone prefix) = false
sets_filter (ComesUp name) = false
sets_filter (GoesDown name) = false
sets_filter (HasPolicy name policy) = false
sets_filter (AsksAgain name) = true
sets_filter (SendsRequest name) = true
sets_filter (SendsList name request) = true

-- ---- whole histories

-- what a step evaluates: a lane's nothing
abbrev pub evaluated_by : BoardStep Job → System → ℕ
evaluated_by (DoJob job) s = evaluations_of job s
evaluated_by (LaneTakes step) s = 0

-- what these steps evaluate, one after another from this state on
abbrev pub evaluated_from : System → List (Entry Job Said) → ℕ
evaluated_from s [] = 0
evaluated_from s (entry ∷ entries) = evaluated_by entry.step s + evaluated_from (after_step group_rules entry.step s) entries

-- the bounds of these events, one after another from this world on
abbrev pub most_along : World → List Happening → ℕ
most_along w [] = 0
most_along w (e ∷ events) = let next = after w e in length (up_keys next) * paths_at_most e next.routes + most_along next events
