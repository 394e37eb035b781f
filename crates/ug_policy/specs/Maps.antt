-- Route maps: what one makes of a path's attributes.
use Rattle.std.specs.Prelude.{ℕ, nat_lt, ◌==◌, Bool, true, false, ◌&&◌, ◌||◌, not, List, [], ◌∷◌, ◌++◌, Option, Some, None, is_some, unwrap_or, if◌then◌else◌}
use Rattle.std.specs.List.{list_any}
use Rattle.std.specs.Option.{option_or}
use Rattle.ug_types.specs.Ip.{IpPrefix}
use Rattle.ug_types.specs.Attributes.{PathSegment, Attributes}
use Rattle.ug_policy.specs.Paths.{prepended}
use Rattle.ug_policy.specs.Named.{NamedList, is_permitted}
use Rattle.ug_policy.specs.declared.map_entry.OnMatch.{OnMatch}
use Rattle.ug_policy.specs.declared.map_entry.OnMatch.TheVariants as on_matches
use Rattle.ug_policy.specs.declared.mapped.Mapped.{Mapped}
use Rattle.ug_policy.specs.Rules.{MapRule}

-- ---- when an entry is met: where all its matches hold

abbrev pub holds : ℕ → List ℕ → Bool
holds n ns = list_any (λ m. m == n) ns

-- nothing is asked, or the number is the one that is asked for
abbrev pub is_wanted : Option ℕ → ℕ → Bool
is_wanted None n = true
is_wanted (Some wanted) n = n == wanted

abbrev pub holds_wanted : Option ℕ → List ℕ → Bool
holds_wanted None ns = true
holds_wanted (Some wanted) ns = holds wanted ns

-- nothing is asked, or there is a number and it is the one
abbrev pub has_wanted : Option ℕ → Option ℕ → Bool
has_wanted None n = true
has_wanted (Some wanted) None = false
has_wanted (Some wanted) (Some n) = n == wanted

-- LOCAL_PREF counts as 100 where it is absent.
abbrev pub is_met_by : Attributes → MapRule → Bool
is_met_by a r =
    holds_wanted r.match_community a.communities && is_wanted r.match_origin a.origin && has_wanted r.match_med a.med && is_wanted r.match_local_pref (unwrap_or a.local_pref 100)

abbrev pub is_met : List NamedList → IpPrefix → Attributes → MapRule → Bool
is_met lists p a r = is_permitted lists p r.match_prefix_list && is_met_by a r

-- ---- what an entry sets

-- put in front one by one, the last first, so that the first listed number stands first
abbrev pub all_prepended : List ℕ → List PathSegment → List PathSegment
all_prepended [] path = path
all_prepended (n ∷ ns) path = prepended n (all_prepended ns path)

-- at the end, where it is not there yet
abbrev pub with_one : ℕ → List ℕ → List ℕ
with_one n there = if holds n there then there else there ++ n ∷ []

-- those that are not there yet come to the end, in their order
abbrev pub added : List ℕ → List ℕ → List ℕ
added [] there = there
added (n ∷ ns) there = added ns (with_one n there)

-- The sets of one entry. Of the communities those that are set come first, and then those that are added.
abbrev pub with_sets : MapRule → Attributes → Attributes
with_sets r a = record {
  origin = unwrap_or r.set_origin a.origin;
  path = all_prepended (unwrap_or r.set_prepend []) a.path;
  next_hop = unwrap_or r.set_next_hop a.next_hop;
  med = option_or r.set_med a.med;
  local_pref = option_or r.set_local_pref a.local_pref;
  atomic = a.atomic;
  aggregator = a.aggregator;
  communities = added (unwrap_or r.add_communities []) (unwrap_or r.set_communities a.communities);
  originator = a.originator;
  clusters = a.clusters;
}

abbrev pub mapped_by : MapRule → Mapped → Mapped
mapped_by r m = record {
  attrs = with_sets r m.attrs;
  set_next_hop = m.set_next_hop || is_some r.set_next_hop;
  set_med = m.set_med || is_some r.set_med;
}

-- ---- the walk

abbrev pub unmapped : Attributes → Mapped
unmapped a = record { attrs = a; set_next_hop = false; set_med = false }

-- what the permit entries made so far, or the attributes as they came
abbrev pub so_far : Attributes → Option Mapped → Mapped
so_far given None = unmapped given
so_far given (Some m) = m

-- where the walk goes on after a permit entry that is met: at the next entry, at the first that has at least that
-- number, or nowhere
abbrev pub goes_to : OnMatch → ℕ → Option ℕ
goes_to on_matches.End least = None
goes_to on_matches.Next least = Some least
goes_to (on_matches.Goto n) least = Some n

abbrev pub goes_on : (ℕ → Option Mapped) → Mapped → Option ℕ → Option Mapped
goes_on walk m None = Some m
goes_on walk m (Some least) = walk least

-- The entries are tried by ascending number, from `least` on. One that isn't met is passed over. A met deny entry gives
-- none, whatever it sets. A met permit entry does its sets at once; then the map ends with the result, goes on at the next
-- entry, or at the first whose number is at least the given one. At the end there is a result where a permit entry was met,
-- and none otherwise. This is this project's profile.
abbrev pub map_walk : (Attributes → MapRule → Bool) → Attributes → ℕ → Option Mapped → List MapRule → Option Mapped
map_walk met given least mapped [] = mapped
map_walk met given least mapped (r ∷ rules) =
    if nat_lt r.seq least || not (met (so_far given mapped).attrs r) then map_walk met given least mapped rules
    else (if r.permit then goes_on (λ n. map_walk met given n (Some (mapped_by r (so_far given mapped))) rules) (mapped_by r (so_far given mapped)) (goes_to r.on_match least) else None)

abbrev pub map_result : List NamedList → List MapRule → Attributes → IpPrefix → Option Mapped
map_result lists rules given p = map_walk (is_met lists p) given 0 None rules
