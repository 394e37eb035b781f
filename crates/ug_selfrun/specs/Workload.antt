-- The events of the drawn workload.
use Rattle.std.specs.Prelude.{ℕ, zero, suc, ◌+◌, ◌*◌, ◌==◌, nat_lt, Bool, true, false, List, [], ◌∷◌, ◌++◌, replicate, slice_get, slice_set, Some, None, unwrap_or, codes, if◌then◌else◌}
use Rattle.rand_pcg.specs.Lcg.{Lcg}
use Rattle.ug_types.specs.Ip.{IpPrefix, ipv4}
use Rattle.ug_types.specs.Attributes.{plain_attributes}
use Rattle.ug_events.specs.Events.{GivenPath, Happening, ComesUp, GoesDown, HasPaths, HasNone, HasPolicy, HasEntries, AsksAgain}
use Rattle.ug_selfrun.specs.Draws.{draw, seeded}
use Rattle.ug_selfrun.specs.Configuration.{slash24, peer_name, list_entry}

-- ---- one event, and the numbers that are left to be drawn

-- 10.x.y.0/24
abbrev pub route : ℕ → ℕ → IpPrefix
route x y = slash24 (0x0A0000 + x * 256 + y)

-- 10.x.y.0/24, with x below 16
unfoldable pub prefix_drawn : Lcg → IpPrefix × Lcg
prefix_drawn g =
    let x = draw 16 g in
    let y = draw 256 x.1 in
    (route x.0 y.0, y.1)

-- a path of the speaker's own, with next hop 0.0.0.0, ORIGIN IGP, an empty AS_PATH and this MED
abbrev pub own_path : ℕ → ℕ → GivenPath
own_path id med = record { id = id; from = None; attrs = record (plain_attributes 0 [] (ipv4 0)) { med = Some med } }

-- one path or two, each with a MED below 8
unfoldable pub paths_drawn : Lcg → List GivenPath × Lcg
paths_drawn g =
    let more = draw 2 g in
    let first = draw 8 more.1 in
    let second = draw 8 first.1 in
    if more.0 == 0 then (own_path 1 first.0 ∷ [], first.1) else (own_path 1 first.0 ∷ own_path 2 second.0 ∷ [], second.1)

-- a prefix has paths
abbrev pub routes_drawn : Lcg → Happening × Lcg
routes_drawn g =
    let prefix = prefix_drawn g in
    let paths = paths_drawn prefix.1 in
    (HasPaths prefix.0 paths.0, paths.1)

-- a prefix has no path any more
abbrev pub withdrawal_drawn : Lcg → Happening × Lcg
withdrawal_drawn g =
    let prefix = prefix_drawn g in
    (HasNone prefix.0, prefix.1)

-- one of so many peers asks for all routes again
abbrev pub refresh_drawn : ℕ → Lcg → Happening × Lcg
refresh_drawn peers g =
    let k = draw peers g in
    (AsksAgain (peer_name (1 + k.0)), k.1)

-- one of so many peers has no policy, or `gp`
abbrev pub policy_drawn : ℕ → Lcg → Happening × Lcg
policy_drawn peers g =
    let k = draw peers g in
    let named = draw 2 k.1 in
    (HasPolicy (peer_name (1 + k.0)) (if named.0 == 0 then None else Some (codes "gp")), named.1)

-- the list `gl` has one entry, up to a length from 16 to 32
abbrev pub list_drawn : Lcg → Happening × Lcg
list_drawn g =
    let length = draw 17 g in
    (HasEntries (codes "gl") (list_entry (16 + length.0) ∷ []), length.1)

-- ---- the events

-- What is known between two events: the numbers that are left to be drawn, and for each peer whether it was put up last.
pub record Drawing : Type 0 where
  pub draws : Lcg
  pub up : List Bool

abbrev pub is_up : List Bool → ℕ → Bool
is_up up k = unwrap_or (slice_get up k) false

abbrev pub session_event : Bool → List ℕ → Happening
session_event up name = if up then GoesDown name else ComesUp name

-- one of so many peers goes down where it was put up last, and else comes up
abbrev pub session_drawn : ℕ → List Bool → Lcg → Happening × Drawing
session_drawn peers up g =
    let k = draw peers g in
    let was = is_up up k.0 in
    (session_event was (peer_name (1 + k.0)), record { draws = k.1; up = slice_set up k.0 (if was then false else true) })

-- an event that puts no peer up or down
abbrev pub beside : List Bool → Happening × Lcg → Happening × Drawing
beside up drawn = (drawn.0, record { draws = drawn.1; up = up })

-- One event. Of a hundred 60 tell paths, 25 withdraw, 5 ask for all routes again, 5 change a policy, 3 are of a session
-- and 2 of the list.
abbrev pub event_by : ℕ → ℕ → List Bool → Lcg → Happening × Drawing
event_by a peers up g =
    if nat_lt a 60 then beside up (routes_drawn g)
    else if nat_lt a 85 then beside up (withdrawal_drawn g)
    else if nat_lt a 90 then beside up (refresh_drawn peers g)
    else if nat_lt a 95 then beside up (policy_drawn peers g)
    else if nat_lt a 98 then session_drawn peers up g
    else beside up (list_drawn g)

unfoldable pub event_drawn : ℕ → Drawing → Happening × Drawing
event_drawn peers d =
    let a = draw 100 d.draws in
    event_by a.0 peers d.up a.1

-- so many events
abbrev pub events_from : ℕ → ℕ → Drawing → List Happening
events_from peers zero d = []
events_from peers (suc count) d = (event_drawn peers d).0 ∷ events_from peers count (event_drawn peers d).1

-- so many peers come up, the first of which has this number
abbrev pub ups_from : ℕ → ℕ → List Happening
ups_from i zero = []
ups_from i (suc count) = ComesUp (peer_name i) ∷ ups_from (i + 1) count

-- all peers come up, and then so many events are drawn
unfoldable pub workload : ℕ → ℕ → ℕ → List Happening
workload seed peers events = ups_from 1 peers ++ events_from peers events (record { draws = seeded seed; up = replicate peers true })
