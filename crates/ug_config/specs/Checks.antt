-- What is asked of all tables together, once each can be read.
use Rattle.std.specs.Prelude.{◌≡◌, ℕ, ◌+◌, nat_lt, ◌==◌, Bool, ◌&&◌, ◌||◌, not, List, [], ◌∷◌, ◌++◌, length, take, Option, Some, None, Result, Ok, Err, codes, if◌then◌else◌}
use Rattle.std.specs.List.{list_any}
use Rattle.std.specs.Option.{option_or}
use Rattle.ug_types.specs.declared.named.Named.{Named}
use Rattle.ug_policy.specs.declared.list_entry.ListEntry.{ListEntry}
use Rattle.ug_policy.specs.Lists.{seq_of}
use Rattle.ug_policy.specs.Rules.{MapRule, rule_seq}
use Rattle.ug_policy.specs.Refusals.{has_few_sets}
use Rattle.ug_outbound.specs.declared.peer.Peer.{Peer}
use Rattle.ug_outbound.specs.Policies.{NamedPolicy}
use Rattle.ug_world.specs.Names.{is_name_among}
use Rattle.ug_world.specs.Parts.{is_one_of, names_of, peer_names}
use Rattle.ug_config.specs.declared.refusals.ConfigRefusal.{ConfigRefusal}
use Rattle.ug_config.specs.Gives.{Tells}
use Rattle.ug_config.specs.Reads.{Reads, ◌>>=◌, Refusal, way_into}
use Rattle.ug_config.specs.Tables.{document}
use Rattle.ug_config.specs.Readings.{Tables, tables}

abbrev pub refused_where : Bool → ℕ → List ℕ → Option Refusal
refused_where fails number field = if fails then Some (record { number = number; field = field }) else None

-- the first fault of those at each place
abbrev pub first_fault : {A : Type 0} → (ℕ → A → Option Refusal) → ℕ → List A → Option Refusal
first_fault fault place [] = None
first_fault fault place (x ∷ xs) = option_or (fault place x) (first_fault fault (place + 1) xs)

-- ---- 5: a name, or a sequence number, that stands before

unfoldable pub repeated_name : List ℕ → List (List ℕ) → ℕ → List ℕ → Option Refusal
repeated_name array names place name = refused_where (is_name_among (take place names) name) 5 (way_into array place ++ codes "name")

abbrev pub stands_before : {E : Type 0} → (E → ℕ) → List E → ℕ → ℕ → Bool
stands_before seq entries place n = list_any (λ e. seq e == n) (take place entries)

unfoldable pub repeated_sequence : {E : Type 0} → (E → ℕ) → List ℕ → List E → ℕ → E → Option Refusal
repeated_sequence seq array entries place e = refused_where (stands_before seq entries place (seq e)) 5 (way_into array place ++ codes "seq")

unfoldable pub repeated_in : {E : Type 0} → (E → ℕ) → List ℕ → List (List ℕ) → ℕ → Named (List E) → Option Refusal
repeated_in seq array names place x =
    option_or (repeated_name array names place x.name) (first_fault (repeated_sequence seq (way_into array place ++ codes "entry") x.value) 0 x.value)

-- ---- 6: a name of a list, map or policy that isn't there

unfoldable pub unknown_list : List ℕ → List (List ℕ) → ℕ → MapRule → Option Refusal
unknown_list array lists place r = refused_where (not (is_one_of lists r.match_prefix_list)) 6 (way_into array place ++ codes "match_prefix_list")

unfoldable pub unknown_in_map : List (List ℕ) → ℕ → Named (List MapRule) → Option Refusal
unknown_in_map lists place m = first_fault (unknown_list (way_into (codes "route_map") place ++ codes "entry") lists) 0 m.value

unfoldable pub unknown_in_policy : List (List ℕ) → List (List ℕ) → ℕ → NamedPolicy → Option Refusal
unknown_in_policy lists maps place p =
    option_or (refused_where (not (is_one_of lists p.value.list)) 6 (way_into (codes "policy") place ++ codes "prefix_list"))
    (refused_where (not (is_one_of maps p.value.map)) 6 (way_into (codes "policy") place ++ codes "route_map"))

unfoldable pub unknown_policy : List (List ℕ) → ℕ → Peer → Option Refusal
unknown_policy policies place p = refused_where (not (is_one_of policies p.policy)) 6 (way_into (codes "peer") place ++ codes "policy")

-- ---- 7: over a limit

abbrev pub over : {A : Type 0} → ℕ → List A → List ℕ → Option Refusal
over limit xs array = refused_where (nat_lt limit (length xs)) 7 array

unfoldable pub long_list : ℕ → Named (List ListEntry) → Option Refusal
long_list place l = over 1024 l.value (way_into (codes "prefix_list") place ++ codes "entry")

-- 256 entries, and of prepended numbers, and of set and added communities, 16 in all of them
unfoldable pub long_map : ℕ → Named (List MapRule) → Option Refusal
long_map place m = refused_where (nat_lt 256 (length m.value) || not (has_few_sets m.value)) 7 (way_into (codes "route_map") place ++ codes "entry")

-- ---- 8 and 9: options that are not for such a peer

unfoldable pub wrong_as : ℕ → ℕ → Peer → Option Refusal
wrong_as local_as place p =
    if p.asn == local_as then
    option_or (refused_where p.as_override 8 (way_into (codes "peer") place ++ codes "as_override"))
    (refused_where p.remove_private_as 8 (way_into (codes "peer") place ++ codes "remove_private_as"))
    else None

unfoldable pub wrong_client : ℕ → ℕ → Peer → Option Refusal
wrong_client local_as place p = refused_where (p.client && not (p.asn == local_as)) 9 (way_into (codes "peer") place ++ codes "client")

-- ---- over all tables, in their order

unfoldable pub repeated : Tables → Option Refusal
repeated t =
    option_or (first_fault (repeated_in seq_of (codes "prefix_list") (names_of t.lists)) 0 t.lists)
    (option_or (first_fault (repeated_in rule_seq (codes "route_map") (names_of t.maps)) 0 t.maps)
    (option_or (first_fault (repeated_name (codes "policy") (names_of t.policies)) 0 (names_of t.policies))
    (first_fault (repeated_name (codes "peer") (peer_names t.peers)) 0 (peer_names t.peers))))

unfoldable pub unknown : Tables → Option Refusal
unknown t =
    option_or (first_fault (unknown_in_map (names_of t.lists)) 0 t.maps)
    (option_or (first_fault (unknown_in_policy (names_of t.lists) (names_of t.maps)) 0 t.policies)
    (first_fault (unknown_policy (names_of t.policies)) 0 t.peers))

unfoldable pub over_limit : Tables → Option Refusal
over_limit t =
    option_or (over 64 t.lists (codes "prefix_list"))
    (option_or (first_fault long_list 0 t.lists)
    (option_or (over 64 t.maps (codes "route_map"))
    (option_or (first_fault long_map 0 t.maps)
    (option_or (over 64 t.policies (codes "policy")) (over 64 t.peers (codes "peer"))))))

unfoldable pub misplaced : Tables → Option Refusal
misplaced t = option_or (first_fault (wrong_as t.local.asn) 0 t.peers) (first_fault (wrong_client t.local.asn) 0 t.peers)

-- 5 over all tables, then 6, then 7, then 8, then 9
unfoldable pub fault : Tables → Option Refusal
fault t = option_or (repeated t) (option_or (unknown t) (option_or (over_limit t) (misplaced t)))

abbrev pub where_none : Tables → Option Refusal → Reads Tables
where_none t None = Ok t
where_none t (Some refusal) = Err refusal

-- the tables, where nothing is against them
abbrev pub checked : Tables → Reads Tables
checked t = where_none t (fault t)

-- What a text stands for, or the first refusal.
unfoldable pub setup : List ℕ → Reads Tables
setup bytes = do
  d ← document bytes
  t ← tables d
  checked t

-- What a check answers. Out of memory says nothing of the fault.
abbrev pub Passes : {A : Type 0} → Result A ConfigRefusal → Option Refusal → Type 0
Passes (Ok x) fault = fault ≡ None
Passes (Err e) fault = Tells e fault
