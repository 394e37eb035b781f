-- The events of a workload keep their rules.
use Rattle.std.proofs.Common.{◌≡◌, ℕ, zero, suc, ◌+◌, ◌*◌, ◌/◌, ◌%◌, ◌^◌, ◌<◌, ◌≤◌, Bool, true, false, ◌&&◌, List, [], ◌∷◌, ◌++◌, Option, Some, None, refl, ap, arith, nat_lt}
use Rattle.std.specs.Prelude.{nat_le, ◌==◌, is_none, if◌then◌else◌}
use Rattle.std.proofs.lemmas.Bool.Decides.{nat_tests}
use Rattle.rand_pcg.specs.Lcg.{Lcg}
use Rattle.rand_pcg.specs.Pcg.{pcg32}
use Rattle.ug_types.specs.Ip.{IpPrefix, cleared}
use Rattle.ug_types.specs.declared.family.Family.TheVariants.{V4}
use Rattle.ug_message.specs.Spellable.{is_prefix, can_be_spelled, has_ipv4_addresses}
use Rattle.ug_policy.specs.Lists.{list_refusal}
use Rattle.ug_events.specs.Events.{GivenPath, Happening, HasPaths, IsEvent, IsGiven, is_in_range}
use Rattle.ug_speaker.specs.Owes.{AreEvents}
use Rattle.ug_selfrun.specs.Draws.{draw}
use Rattle.ug_selfrun.specs.Configuration.{slash24, list_entry}
use Rattle.ug_selfrun.specs.Workload.{route, prefix_drawn, paths_drawn, own_path, routes_drawn, withdrawal_drawn, refresh_drawn, policy_drawn, list_drawn, session_drawn, session_event, is_up, Drawing, beside, event_by, event_drawn, events_from, ups_from, workload}
use Rattle.ug_selfrun.proofs.Counted.{at_each}
use Rattle.ug_selfrun.proofs.Prefixes.{none_past}

both : (a b : Bool) → a ≡ true → b ≡ true → (a && b) ≡ true
both a b e f = cc

-- ---- what is drawn is below its bound

mod_below : (x n : ℕ) → 0 < n → x % n < n
mod_below x n h = omega arith

draw_below : (n : ℕ) (g : Lcg) → 0 < n → (draw n g).0 < n
unfolding draw
draw_below n g h = mod_below (pcg32 g).0 n h

-- ---- prefixes and paths

same_is : (a b : ℕ) → a ≡ b → (a == b) ≡ true
same_is a b e = grind (arith, nat_tests)

below_is : (a b : ℕ) → a < b → nat_lt a b ≡ true
below_is a b e = grind (arith, nat_tests)

is_short : (n : ℕ) → n < 2 ^ 24 → n * 2 ^ 104 < 2 ^ 128
is_short n h = omega arith

slash24_is : (n : ℕ) → n < 2 ^ 24 → is_prefix V4 (slash24 n) ≡ true
slash24_is n h = both _ _ (same_is _ _ (none_past n)) (below_is (n * 2 ^ 104) (2 ^ 128) (is_short n h))

route_is : (x y : ℕ) → x < 16 → y < 256 → is_prefix V4 (route x y) ≡ true
route_is x y hx hy = slash24_is (0x0A0000 + x * 256 + y) (omega arith)

in_range_1 : (med : ℕ) → med < 8 → is_in_range V4 (own_path 1 med) ≡ true
unfolding can_be_spelled
in_range_1 med h = at_each (λ (n : ℕ). is_in_range V4 (own_path 1 n)) 7 med refl (omega arith)

in_range_2 : (med : ℕ) → med < 8 → is_in_range V4 (own_path 2 med) ≡ true
unfolding can_be_spelled
in_range_2 med h = at_each (λ (n : ℕ). is_in_range V4 (own_path 2 n)) 7 med refl (omega arith)

given_is : (id med : ℕ) → 0 < id → IsGiven (own_path id med)
unfolding has_ipv4_addresses
given_is id med h = (h, refl, refl)

paths_are : (x y first second : ℕ) (g g' : Lcg) (alone : Bool) → x < 16 → y < 256 → first < 8 → second < 8
    → let drawn : List GivenPath × Lcg = if alone then (own_path 1 first ∷ [], g) else (own_path 1 first ∷ own_path 2 second ∷ [], g') in IsEvent (HasPaths (route x y) drawn.0)
paths_are x y first second g g' true hx hy h1 h2 =
    (refl, ((given_is 1 first (omega arith), tt), both _ _ (route_is x y hx hy) (both _ true (in_range_1 first h1) refl)))
paths_are x y first second g g' false hx hy h1 h2 =
    (refl, ((given_is 1 first (omega arith), (given_is 2 second (omega arith), tt)), both _ _ (route_is x y hx hy) (both _ _ (in_range_1 first h1) (both _ true (in_range_2 second h2) refl))))

routes_are : (g : Lcg) → IsEvent (routes_drawn g).0
unfolding prefix_drawn paths_drawn
routes_are g =
    let x = draw 16 g in
    let y = draw 256 x.1 in
    let more = draw 2 y.1 in
    let first = draw 8 more.1 in
    let second = draw 8 first.1 in
    paths_are x.0 y.0 first.0 second.0 first.1 second.1 (more.0 == 0) (draw_below 16 g (omega arith)) (draw_below 256 x.1 (omega arith)) (draw_below 8 more.1 (omega arith)) (draw_below 8 first.1 (omega arith))

-- ---- the list

none_is : (o : Option ℕ) → is_none o ≡ true → o ≡ None
none_is None h = refl
none_is (Some n) h = absurd cc

entry_is : (k : ℕ) → k < 17 → list_refusal (list_entry (16 + k) ∷ []) ≡ None
entry_is k h = none_is _ (at_each (λ (n : ℕ). is_none (list_refusal (list_entry (16 + n) ∷ []))) 16 k refl (omega arith))

-- ---- the events

session_is : (up : Bool) (name : List ℕ) → IsEvent (session_event up name)
session_is true name = tt
session_is false name = tt

by_share : (a b c d e : Bool) (peers : ℕ) (up : List Bool) (g : Lcg)
    → let drawn : Happening × Drawing = if a then beside up (routes_drawn g) else if b then beside up (withdrawal_drawn g) else if c then beside up (refresh_drawn peers g)
    else if d then beside up (policy_drawn peers g) else if e then session_drawn peers up g else beside up (list_drawn g) in IsEvent drawn.0
by_share true b c d e peers up g = routes_are g
by_share false true c d e peers up g = tt
by_share false false true d e peers up g = tt
by_share false false false true e peers up g = tt
by_share false false false false true peers up g = session_is (is_up up (draw peers g).0) _
by_share false false false false false peers up g = entry_is (draw 17 g).0 (draw_below 17 g (omega arith))

event_is : (peers : ℕ) (d : Drawing) → IsEvent (event_drawn peers d).0
unfolding event_drawn
event_is peers d =
    let a = draw 100 d.draws in
    by_share (nat_lt a.0 60) (nat_lt a.0 85) (nat_lt a.0 90) (nat_lt a.0 95) (nat_lt a.0 98) peers d.up a.1

drawn_are : (peers count : ℕ) (d : Drawing) → AreEvents (events_from peers count d)
drawn_are peers zero d = tt
drawn_are peers (suc count) d = (event_is peers d, drawn_are peers count (event_drawn peers d).1)

ups_are : (i count : ℕ) (more : List Happening) → AreEvents more → AreEvents (ups_from i count ++ more)
ups_are i zero more h = h
ups_are i (suc count) more h = (tt, ups_are (i + 1) count more h)

pub workload_is_sound : (seed peers count : ℕ) → AreEvents (workload seed peers count)
unfolding workload
workload_is_sound seed peers count = ups_are 1 peers _ (drawn_are peers count _)
