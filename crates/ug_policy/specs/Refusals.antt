-- Which entries are a route map.
use Rattle.std.specs.Prelude.{◌≡◌, ℕ, ◌+◌, nat_lt, nat_le, Bool, true, ◌&&◌, not, List, [], length, sum_by, Option, Some, None, unwrap_or, if◌then◌else◌}
use Rattle.std.specs.List.{list_all, list_any}
use Rattle.ug_policy.specs.Order.{repeats, rises}
use Rattle.ug_types.specs.Bytes.{same_bytes}
use Rattle.ug_policy.specs.declared.map_entry.OnMatch.{OnMatch}
use Rattle.ug_policy.specs.declared.map_entry.OnMatch.TheVariants as on_matches
use Rattle.ug_policy.specs.declared.map_refusal.MapRefusal.{MapRefusal}
use Rattle.ug_policy.specs.declared.map_refusal.MapRefusal.TheVariants as answers
use Rattle.ug_policy.specs.Rules.{MapRule, rule_seq}

-- a goto leads past its own entry
abbrev pub leads_ahead : ℕ → OnMatch → Bool
leads_ahead seq on_matches.End = true
leads_ahead seq on_matches.Next = true
leads_ahead seq (on_matches.Goto n) = nat_lt seq n

abbrev pub is_ahead : MapRule → Bool
is_ahead r = leads_ahead r.seq r.on_match

abbrev pub is_among : List (List ℕ) → Option (List ℕ) → Bool
is_among names None = true
is_among names (Some name) = list_any (λ n. same_bytes n name) names

-- the list that an entry names is one of these
abbrev pub is_known : List (List ℕ) → MapRule → Bool
is_known names r = is_among names r.match_prefix_list

abbrev pub count_in : Option (List ℕ) → ℕ
count_in given = length (unwrap_or given [])

abbrev pub prepends_in : List MapRule → ℕ
prepends_in rules = sum_by (λ (r : MapRule). count_in r.set_prepend) rules

abbrev pub communities_in : List MapRule → ℕ
communities_in rules = sum_by (λ (r : MapRule). count_in r.set_communities + count_in r.add_communities) rules

-- at most 16 prepended numbers and at most 16 set and added communities in the whole map
abbrev pub has_few_sets : List MapRule → Bool
has_few_sets rules = nat_le (prepends_in rules) 16 && nat_le (communities_in rules) 16

-- Why entries are no map, the lowest number first: 1 two have one sequence number, 2 a goto is not ahead of its entry,
-- 3 there are over 256, 4 an unknown list is named, 5 over 16 numbers are prepended, or over 16 communities set and added.
abbrev pub refusal_where : Bool → List (List ℕ) → List MapRule → Option ℕ
refusal_where repeated names rules =
    if repeated then Some 1
    else if not (list_all is_ahead rules) then Some 2
    else if nat_lt 256 (length rules) then Some 3
    else if not (list_all (is_known names) rules) then Some 4
    else if not (has_few_sets rules) then Some 5
    else None

abbrev pub map_refusal : List (List ℕ) → List MapRule → Option ℕ
map_refusal names rules = refusal_where (repeats rule_seq rules) names rules

-- The same of entries in ascending order: the numbers rise where none repeats.
abbrev pub refusal_in_order : List (List ℕ) → List MapRule → Option ℕ
refusal_in_order names rules = refusal_where (not (rises rule_seq rules)) names rules

-- an origin that is set has a meaning
abbrev pub is_origin : Option ℕ → Bool
is_origin None = true
is_origin (Some origin) = nat_le origin 2

abbrev pub sets_origin : MapRule → Bool
sets_origin r = is_origin r.set_origin

abbrev pub SetOrigins : List MapRule → Type 0
SetOrigins rules = list_all sets_origin rules ≡ true

-- what a map keeps: its entries rise by their sequence numbers, there are at most 256, their gotos lead ahead, and they
-- set few numbers and origins that have a meaning
abbrev pub is_route_map : List MapRule → Bool
is_route_map rules = rises rule_seq rules && list_all is_ahead rules && nat_le (length rules) 256 && has_few_sets rules && list_all sets_origin rules

abbrev pub IsRouteMap : List MapRule → Type 0
IsRouteMap rules = is_route_map rules ≡ true

-- a refusal tells its number; running out of memory may come at any entries
abbrev pub IsRefusal : MapRefusal → Option ℕ → Type 0
IsRefusal (answers.Refused number) refusal = refusal ≡ Some number
IsRefusal answers.NoMemory refusal = Unit {0}
