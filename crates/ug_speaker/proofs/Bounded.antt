-- In the worlds that events lead through paths are within bounds.
use Rattle.std.proofs.Common.{◌≡◌, ℕ, ◌<◌, inl, inr, Bool, true, false, cond, List, [], ◌∷◌, map, Option, Some, None, Ordering, sym, subst}
use Rattle.std.specs.Prelude.{◌==◌, find, unwrap_or, if◌then◌else◌}
use Rattle.std.specs.Map.{lookup, remove_entry}
use Rattle.std.specs.BTreeMap.{insert_entry}
use Rattle.std.specs.Ordering.{match_ordering}
use Rattle.std.specs.declared.cmp.Ordering.TheVariants.{Less, Equal, Greater}
use Rattle.ug_types.specs.Ip.{IpPrefix}
use Rattle.ug_types.specs.Attributes.{refusal_of}
use Rattle.ug_types.specs.Keys.{same_prefix, prefix_cmp}
use Rattle.ug_types.specs.declared.route.Path.{Path}
use Rattle.ug_board.specs.Deeds.{Each}
use Rattle.ug_outbound.specs.Bounds.{SetsFew}
use Rattle.ug_events.specs.Events.{GivenPath, Happening, ComesUp, GoesDown, HasPaths, HasNone, HasPolicy, HasEntries, AsksAgain, SendsRequest, SendsList, IsEvent, AreGiven}
use Rattle.ug_world.specs.World.{Routes, World, paths_to}
use Rattle.ug_world.specs.Verdicts.{path_of}
use Rattle.ug_world.specs.After.{after}
use Rattle.ug_world.specs.Private.{path_at}
use Rattle.ug_speaker.specs.Told.{worlds_through}
use Rattle.ug_speaker.specs.Right.{IsAmong}
use Rattle.ug_speaker.specs.Owes.{IsOpening, AreEvents}

-- It has an identifier, and its attributes are within the bounds of those from within.
abbrev pub IsWithin : Path → Type 0
IsWithin path = (0 < path.id) × (refusal_of path.attrs ≡ None)

abbrev pub AreWithin : Routes → Type 0
AreWithin routes = Each (λ (r : IpPrefix × List Path). Each IsWithin r.1) routes

-- Paths are within bounds, and route maps set little.
pub record IsBounded (w : World) : Type 0 where
  pub few : (map : Option (List ℕ)) → SetsFew w.tables.maps map
  pub paths : AreWithin w.routes

given_within : (w : World) (given : List GivenPath) → AreGiven given → Each IsWithin (map (path_of w) given)
given_within w [] h = tt
given_within w (g ∷ given) h = ((h.0.0, h.0.1), given_within w given h.1)

inserted : (routes : Routes) (prefix : IpPrefix) (paths : List Path) → AreWithin routes → Each IsWithin paths → AreWithin (insert_entry prefix_cmp routes prefix paths)
inserted [] prefix paths h new = (new, tt)
inserted (r ∷ routes) prefix paths h new = by (prefix_cmp prefix r.0) (inserted routes prefix paths h.1 new)
  where
    by : (o : Ordering) → AreWithin (insert_entry prefix_cmp routes prefix paths) → AreWithin (match_ordering o ((prefix, paths) ∷ r ∷ routes) ((r.0, paths) ∷ routes) (r ∷ insert_entry prefix_cmp routes prefix paths))
    by Less rest = (new, h)
    by Equal rest = (new, h.1)
    by Greater rest = (h.0, rest)

removed : (test : IpPrefix → Bool) (routes : Routes) → AreWithin routes → AreWithin (remove_entry test routes)
removed test [] h = tt
removed test (r ∷ routes) h = by (test r.0) (removed test routes h.1)
  where
    by : (b : Bool) → AreWithin (remove_entry test routes) → AreWithin (cond b routes (r ∷ remove_entry test routes))
    by true rest = h.1
    by false rest = (h.0, rest)

bounded_after : (w : World) (e : Happening) → IsEvent e → IsBounded w → IsBounded (after w e)
unfolding after
bounded_after w (ComesUp name) is b = record { few = b.few; paths = b.paths }
bounded_after w (GoesDown name) is b = record { few = b.few; paths = b.paths }
bounded_after w (AsksAgain name) is b = record { few = b.few; paths = b.paths }
bounded_after w (SendsRequest name) is b = record { few = b.few; paths = b.paths }
bounded_after w (SendsList name request) is b = record { few = b.few; paths = b.paths }
bounded_after w (HasPolicy name policy) is b = record { few = b.few; paths = b.paths }
bounded_after w (HasEntries name entries) is b = record { few = b.few; paths = b.paths }
bounded_after w (HasPaths prefix paths) is b = record { few = b.few; paths = inserted w.routes prefix (map (path_of w) paths) b.paths (given_within w paths is.1.0) }
bounded_after w (HasNone prefix) is b = record { few = b.few; paths = removed (same_prefix prefix) w.routes b.paths }

pub bounded_through : (w x : World) (es : List Happening) → AreEvents es → IsBounded w → IsAmong x (worlds_through w es) → IsBounded x
bounded_through w x [] are b is = elim is [ inl here ↦ subst IsBounded (sym here) b | inr none ↦ absurd none ]
bounded_through w x (e ∷ es) are b is = elim is [ inl here ↦ subst IsBounded (sym here) b | inr there ↦ bounded_through (after w e) x es are.1 (bounded_after w e are.0 b) there ]

pub bounded_first : (w : World) → IsOpening w → IsBounded w
bounded_first w opens = record { few = opens.few_sets; paths = subst (λ (x : World). AreWithin x.routes) (sym opens.first) tt }

-- ---- the paths to a prefix

found_within : (id : ℕ) (paths : List Path) (path : Path) → Each IsWithin paths → find (λ (path : Path). path.id == id) paths ≡ Some path → IsWithin path
found_within id [] path h is = absurd cc
found_within id (x ∷ paths) path h is = by (x.id == id) is (λ rest. found_within id paths path h.1 rest)
  where
    by : (b : Bool) → (if b then Some x else find (λ (path : Path). path.id == id) paths) ≡ Some path → (find (λ (path : Path). path.id == id) paths ≡ Some path → IsWithin path) → IsWithin path
    by true is rest = let same : x ≡ path = cc in subst IsWithin same h.0
    by false is rest = rest is

pub at_within : (add_path : Bool) (id : ℕ) (paths : List Path) (path : Path) → Each IsWithin paths → path_at add_path id paths ≡ Some path → IsWithin path
at_within true id paths path h is = found_within id paths path h is
at_within false id [] path h is = absurd cc
at_within false id (x ∷ paths) path h is = by (id == 0) is
  where
    by : (b : Bool) → (if b then Some x else None) ≡ Some path → IsWithin path
    by true is = let same : x ≡ path = cc in subst IsWithin same h.0
    by false is = absurd cc

pub to_within : (routes : Routes) (prefix : IpPrefix) → AreWithin routes → Each IsWithin (paths_to routes prefix)
to_within [] prefix h = tt
to_within (r ∷ routes) prefix h = by (same_prefix prefix r.0) (to_within routes prefix h.1)
  where
    by : (b : Bool) → Each IsWithin (paths_to routes prefix) → Each IsWithin (unwrap_or (cond b (Some r.1) (lookup (same_prefix prefix) routes)) [])
    by true rest = h.0
    by false rest = rest
