-- Tables that could be read, and against which there is no fault, make a good world.
use Rattle.std.proofs.Common.{◌≡◌, ℕ, Bool, true, false, ◌&&◌, List, [], ◌∷◌, ◌++◌, Option, Some, None, Ok, refl, ap, sym, ◌∙◌, subst}
use Rattle.std.specs.Prelude.{nat_le, not, nat_lt, length, ◌||◌, codes, is_none}
use Rattle.std.specs.List.{list_all}
use Rattle.std.specs.Option.{option_or}
use Rattle.toml.specs.Data.{Data}
use Rattle.ug_types.specs.Ip.{same_family}
use Rattle.ug_types.specs.declared.family.Family.TheVariants.{V4}
use Rattle.ug_types.specs.declared.named.Named.{Named}
use Rattle.ug_types.specs.Bytes.{same_bytes}
use Rattle.ug_policy.specs.declared.list_entry.ListEntry.{ListEntry}
use Rattle.ug_policy.specs.Lists.{seq_of, is_good}
use Rattle.ug_policy.specs.Order.{repeats}
use Rattle.ug_policy.specs.Rules.{MapRule, rule_seq}
use Rattle.ug_policy.specs.Refusals.{is_ahead, is_among, is_known, has_few_sets, sets_origin, map_refusal}
use Rattle.ug_outbound.specs.declared.peer.Peer.{Peer}
use Rattle.ug_outbound.specs.Policies.{NamedPolicy}
use Rattle.ug_world.specs.Parts.{is_local_good, is_ipv4, names_of, peer_names, is_one_of, may_filter, is_map_good, is_policy_good, is_peer_good}
use Rattle.ug_world.specs.Kept.{name_of}
use Rattle.ug_config.specs.Reads.{Refusal, ◌>>=◌, way_into}
use Rattle.ug_config.specs.Kinds.{tables_at}
use Rattle.ug_config.specs.Tables.{document, fields}
use Rattle.ug_config.specs.Rows.{document_rows}
use Rattle.ug_config.specs.Readings.{Tables, local_table, local, lists, maps, policies, peers, tables, named, list_entry, rule, peer}
use Rattle.ug_config.specs.Checks.{first_fault, repeated_in, unknown_list, unknown_in_map, unknown_in_policy, unknown_policy, over, long_list, long_map, repeated, unknown, over_limit, misplaced, fault, where_none, checked, setup}
use Rattle.ug_config.specs.Worlds.{IsSound, sets_origins, is_list, is_map}
use Rattle.ug_config.proofs.Inverting.{ok, ok_is, bound, both, first_of, second_of, all_read}
use Rattle.ug_config.proofs.Sound.{local_good, rule_good, rule_ahead, entry_good, entries_good, peer_good, is_peer_right}
use Rattle.ug_config.proofs.Against.{none_left, none_right, not_refused, was_true, left_false, right_false, was_false, all_pass, distinct, names_pass, few, unrepeated}

all_both : {A : Type 0} (p q r : A → Bool) → ((x : A) → p x ≡ true → q x ≡ true → r x ≡ true) → (xs : List A) → list_all p xs ≡ true → list_all q xs ≡ true → list_all r xs ≡ true
all_both p q r good [] h k = refl
all_both p q r good (x ∷ xs) h k =
    both (r x) (list_all r xs) (good x (first_of (p x) (list_all p xs) h) (first_of (q x) (list_all q xs) k))
    (all_both p q r good xs (second_of (p x) (list_all p xs) h) (second_of (q x) (list_all q xs) k))

one_more : (a b c d e f g i : Bool) → (a && (b && (c && (d && (e && (f && g)))))) ≡ true → i ≡ true → (a && (b && (c && (d && (e && (f && (g && i))))))) ≡ true
one_more true true true true true true true i h k = k
one_more true true true true true true false i h k = absurd cc
one_more true true true true true false g i h k = absurd cc
one_more true true true true false f g i h k = absurd cc
one_more true true true false e f g i h k = absurd cc
one_more true true false d e f g i h k = absurd cc
one_more true false c d e f g i h k = absurd cc
one_more false b c d e f g i h k = absurd cc

peer_whole : (names : List (List ℕ)) (p : Peer) → is_peer_right p ≡ true → is_one_of names p.policy ≡ true → is_peer_good names p ≡ true
peer_whole names p h k =
    one_more (not (same_bytes p.name (codes "local"))) (nat_le 1 p.asn) (is_ipv4 p.router_id) (same_family p.address.family p.family) (same_family p.local_address.family p.family) (same_family p.subnet.family p.family)
    (may_filter p.family p.orf) (is_one_of names p.policy) h k

-- ---- what each table is known to be

abbrev are_good : Named (List ListEntry) → Bool
are_good l = list_all is_good l.value

abbrev are_ahead : Named (List MapRule) → Bool
are_ahead m = list_all is_ahead m.value

abbrev Right : Tables → Type 0
Right t =
    (is_local_good t.local ≡ true) × (list_all sets_origins t.maps ≡ true) × (list_all is_peer_right t.peers ≡ true) × (list_all are_good t.lists ≡ true) × (list_all are_ahead t.maps ≡ true)

lists_right : (d : Data) (ls : List (Named (List ListEntry))) → lists d ≡ ok ls → list_all are_good ls ≡ true
unfolding lists
lists_right d ls h = all_read (named list_entry) are_good (entries_good list_entry is_good entry_good) (codes "prefix_list") 0 (tables_at (codes "prefix_list") d) ls h

maps_right : (d : Data) (p : MapRule → Bool) → ((way : List ℕ) (d : Data) (r : MapRule) → rule way d ≡ ok r → p r ≡ true)
    → (ms : List (Named (List MapRule))) → maps d ≡ ok ms → list_all (λ (m : Named (List MapRule)). list_all p m.value) ms ≡ true
unfolding maps
maps_right d p good ms h = all_read (named rule) (λ (m : Named (List MapRule)). list_all p m.value) (entries_good rule p good) (codes "route_map") 0 (tables_at (codes "route_map") d) ms h

peers_right : (d : Data) (ps : List Peer) → peers d ≡ ok ps → list_all is_peer_right ps ≡ true
unfolding peers
peers_right d ps h = all_read peer is_peer_right peer_good (codes "peer") 0 (tables_at (codes "peer") d) ps h

right : (d : Data) (t : Tables) → tables d ≡ ok t → Right t
unfolding tables
right d t h =
    let es = bound (fields V4 [] document_rows d) _ t h in
    let own = bound (local_table d) _ t es.2 in
    let l = bound (local own.0) _ t own.2 in
    let ls = bound (lists d) _ t l.2 in
    let ms = bound (maps d) _ t ls.2 in
    let pols = bound (policies d) _ t ms.2 in
    let ps = bound (peers d) (λ ps. Ok (record { local = l.0; lists = ls.0; maps = ms.0; policies = pols.0; peers = ps })) t pols.2 in
    subst Right (ok_is (record { local = l.0; lists = ls.0; maps = ms.0; policies = pols.0; peers = ps.0 }) t ps.2)
    (local_good own.0 l.0 l.1, maps_right d sets_origin rule_good ms.0 ms.1, peers_right d ps.0 ps.1, lists_right d ls.0 ls.1, maps_right d is_ahead rule_ahead ms.0 ms.1)

-- ---- what no fault is against

list_known : (array : List ℕ) (names : List (List ℕ)) (place : ℕ) (r : MapRule) → unknown_list array names place r ≡ None → is_one_of names r.match_prefix_list ≡ true
unfolding unknown_list
list_known array names place r h = was_true (is_one_of names r.match_prefix_list) (not_refused _ _ _ h)

map_known : (names : List (List ℕ)) (place : ℕ) (m : Named (List MapRule)) → unknown_in_map names place m ≡ None → is_map_good names m ≡ true
unfolding unknown_in_map
map_known names place m h =
    all_pass (unknown_list (way_into (codes "route_map") place ++ codes "entry") names) (λ (r : MapRule). is_one_of names r.match_prefix_list) (list_known (way_into (codes "route_map") place ++ codes "entry") names) 0 m.value h

policy_known : (lists maps : List (List ℕ)) (place : ℕ) (p : NamedPolicy) → unknown_in_policy lists maps place p ≡ None → is_policy_good lists maps p ≡ true
unfolding unknown_in_policy
policy_known ls ms place p h =
    both (is_one_of ls p.value.list) (is_one_of ms p.value.map) (was_true (is_one_of ls p.value.list) (not_refused _ _ _ (none_left _ _ h))) (was_true (is_one_of ms p.value.map) (not_refused _ _ _ (none_right _ _ h)))

peer_known : (names : List (List ℕ)) (place : ℕ) (p : Peer) → unknown_policy names place p ≡ None → is_one_of names p.policy ≡ true
unfolding unknown_policy
peer_known names place p h = was_true (is_one_of names p.policy) (not_refused _ _ _ h)

-- ---- entries that are a list, and rules that are a map

abbrev is_short : Named (List ListEntry) → Bool
is_short l = not (nat_lt 1024 (length l.value))

list_short : (place : ℕ) (l : Named (List ListEntry)) → long_list place l ≡ None → is_short l ≡ true
unfolding long_list
list_short place l h = ap not (not_refused _ _ _ h)

list_whole : (l : Named (List ListEntry)) → not (repeats seq_of l.value) ≡ true → (are_good l && is_short l) ≡ true → is_list l ≡ true
list_whole l apart rest =
    rw (was_false (repeats seq_of l.value) apart, first_of (are_good l) (is_short l) rest, was_false (nat_lt 1024 (length l.value)) (second_of (are_good l) (is_short l) rest)) refl

lists_whole : (array : List ℕ) (names : List (List ℕ)) (ls : List (Named (List ListEntry)))
    → first_fault (repeated_in seq_of array names) 0 ls ≡ None → first_fault long_list 0 ls ≡ None → list_all are_good ls ≡ true → list_all is_list ls ≡ true
lists_whole array names ls apart short good =
    all_both (λ (l : Named (List ListEntry)). not (repeats seq_of l.value)) (λ (l : Named (List ListEntry)). are_good l && is_short l) is_list list_whole ls
    (all_pass (repeated_in seq_of array names) (λ (l : Named (List ListEntry)). not (repeats seq_of l.value)) (unrepeated seq_of array names) 0 ls apart)
    (all_both are_good is_short (λ (l : Named (List ListEntry)). are_good l && is_short l) (λ l a b. both (are_good l) (is_short l) a b) ls good (all_pass long_list is_short list_short 0 ls short))

abbrev is_small : Named (List MapRule) → Bool
is_small m = not (nat_lt 256 (length m.value) || not (has_few_sets m.value))

map_small : (place : ℕ) (m : Named (List MapRule)) → long_map place m ≡ None → is_small m ≡ true
unfolding long_map
map_small place m h = ap not (not_refused _ _ _ h)

same_known : (names : List (List ℕ)) (rs : List MapRule) → list_all (λ (r : MapRule). is_one_of names r.match_prefix_list) rs ≡ list_all (is_known names) rs
same_known names [] = refl
same_known names (r ∷ rs) = ap (λ (b : Bool). b && list_all (λ (q : MapRule). is_one_of names q.match_prefix_list) rs) (one r.match_prefix_list) ∙ ap (λ (b : Bool). is_known names r && b) (same_known names rs)
  where
    one : (o : Option (List ℕ)) → is_one_of names o ≡ is_among names o
    one None = refl
    one (Some name) = refl

map_whole : (names : List (List ℕ)) (m : Named (List MapRule)) → (not (repeats rule_seq m.value) && are_ahead m) ≡ true → (is_small m && is_map_good names m) ≡ true → is_none (map_refusal names m.value) ≡ true
map_whole names m h k =
    let within : (nat_lt 256 (length m.value) || not (has_few_sets m.value)) ≡ false = was_false _ (first_of (is_small m) (is_map_good names m) k) in
    let known : list_all (is_known names) m.value ≡ true = sym (same_known names m.value) ∙ second_of (is_small m) (is_map_good names m) k in
    rw (
      was_false (repeats rule_seq m.value) (first_of (not (repeats rule_seq m.value)) (are_ahead m) h),
      second_of (not (repeats rule_seq m.value)) (are_ahead m) h,
      left_false (nat_lt 256 (length m.value)) (not (has_few_sets m.value)) within,
      known,
      was_true (has_few_sets m.value) (right_false (nat_lt 256 (length m.value)) (not (has_few_sets m.value)) within),
    ) refl

maps_whole : (array : List ℕ) (names lists : List (List ℕ)) (ms : List (Named (List MapRule)))
    → first_fault (repeated_in rule_seq array names) 0 ms ≡ None → first_fault long_map 0 ms ≡ None → list_all are_ahead ms ≡ true → list_all (is_map_good lists) ms ≡ true → list_all sets_origins ms ≡ true → list_all (is_map lists) ms ≡ true
maps_whole array names ls ms apart small ahead known origins =
    all_both sets_origins (λ (m : Named (List MapRule)). is_none (map_refusal ls m.value)) (is_map ls) (λ m a b. both (sets_origins m) (is_none (map_refusal ls m.value)) a b) ms origins
    (all_both (λ (m : Named (List MapRule)). not (repeats rule_seq m.value) && are_ahead m) (λ (m : Named (List MapRule)). is_small m && is_map_good ls m) (λ (m : Named (List MapRule)). is_none (map_refusal ls m.value)) (map_whole ls) ms
    (all_both (λ (m : Named (List MapRule)). not (repeats rule_seq m.value)) are_ahead (λ (m : Named (List MapRule)). not (repeats rule_seq m.value) && are_ahead m) (λ m a b. both (not (repeats rule_seq m.value)) (are_ahead m) a b) ms
    (all_pass (repeated_in rule_seq array names) (λ (m : Named (List MapRule)). not (repeats rule_seq m.value)) (unrepeated rule_seq array names) 0 ms apart) ahead)
    (all_both is_small (is_map_good ls) (λ (m : Named (List MapRule)). is_small m && is_map_good ls m) (λ m a b. both (is_small m) (is_map_good ls m) a b) ms (all_pass long_map is_small map_small 0 ms small) known))

each_none : (a b c d e f : Option Refusal) → option_or a (option_or b (option_or c (option_or d (option_or e f)))) ≡ None → (a ≡ None) × (b ≡ None) × (c ≡ None) × (d ≡ None) × (e ≡ None) × (f ≡ None)
each_none None None None None None None h = (refl, refl, refl, refl, refl, refl)
each_none None None None None None (Some r) h = absurd cc
each_none None None None None (Some r) f h = absurd cc
each_none None None None (Some r) e f h = absurd cc
each_none None None (Some r) d e f h = absurd cc
each_none None (Some r) c d e f h = absurd cc
each_none (Some r) b c d e f h = absurd cc

sound_tables : (t : Tables) → Right t → repeated t ≡ None → unknown t ≡ None → over_limit t ≡ None → IsSound t
unfolding repeated unknown over_limit
sound_tables t ok_parts r u o =
    let r1 = none_left _ _ r in
    let r2 = none_right _ _ r in
    let r3 = none_right _ _ r2 in
    let limits = each_none (over 64 t.lists (codes "prefix_list")) (first_fault long_list 0 t.lists) (over 64 t.maps (codes "route_map")) (first_fault long_map 0 t.maps) (over 64 t.policies (codes "policy")) (over 64 t.peers (codes "peer")) o in
    let u2 = none_right _ _ u in
    let in_maps_known = all_pass (unknown_in_map (names_of t.lists)) (is_map_good (names_of t.lists)) (map_known (names_of t.lists)) 0 t.maps (none_left _ _ u) in
    record {
      settings = ok_parts.0;
      lists = few name_of t.lists (codes "prefix_list") (distinct (codes "prefix_list") (names_of t.lists) (names_pass seq_of (codes "prefix_list") (names_of t.lists) 0 t.lists r1)) limits.0;
      maps = few name_of t.maps (codes "route_map") (distinct (codes "route_map") (names_of t.maps) (names_pass rule_seq (codes "route_map") (names_of t.maps) 0 t.maps (none_left _ _ r2))) limits.2;
      policies = few name_of t.policies (codes "policy") (distinct (codes "policy") (names_of t.policies) (none_left _ _ r3)) limits.4;
      peers = few (λ (p : Peer). p.name) t.peers (codes "peer") (distinct (codes "peer") (peer_names t.peers) (none_right _ _ r3)) limits.5;
      are_lists = lists_whole (codes "prefix_list") (names_of t.lists) t.lists r1 limits.1 ok_parts.3;
      are_maps = maps_whole (codes "route_map") (names_of t.maps) (names_of t.lists) t.maps (none_left _ _ r2) limits.3 ok_parts.4 in_maps_known ok_parts.1;
      in_maps = in_maps_known;
      in_policies = all_pass (unknown_in_policy (names_of t.lists) (names_of t.maps)) (is_policy_good (names_of t.lists) (names_of t.maps)) (policy_known (names_of t.lists) (names_of t.maps)) 0 t.policies (none_left _ _ u2);
      in_peers = all_both is_peer_right (λ (p : Peer). is_one_of (names_of t.policies) p.policy) (is_peer_good (names_of t.policies)) (peer_whole (names_of t.policies)) t.peers ok_parts.2
          (all_pass (unknown_policy (names_of t.policies)) (λ (p : Peer). is_one_of (names_of t.policies) p.policy) (peer_known (names_of t.policies)) 0 t.peers (none_right _ _ u2));
    }

faultless : (t : Tables) → Right t → fault t ≡ None → IsSound t
unfolding fault
faultless t known h =
    let h2 = none_right (repeated t) (option_or (unknown t) (option_or (over_limit t) (misplaced t))) h in
    let h3 = none_right (unknown t) (option_or (over_limit t) (misplaced t)) h2 in
    sound_tables t known (none_left (repeated t) (option_or (unknown t) (option_or (over_limit t) (misplaced t))) h) (none_left (unknown t) (option_or (over_limit t) (misplaced t)) h2) (none_left (over_limit t) (misplaced t) h3)

passed : (s t : Tables) (o : Option Refusal) → where_none s o ≡ ok t → (s ≡ t) × (o ≡ None)
passed s t None h = (ok_is s t h, refl)
passed s t (Some r) h = absurd cc

-- what could be read is sound
pub sound : (bytes : List ℕ) (t : Tables) → setup bytes ≡ Ok t → IsSound t
unfolding setup
sound bytes t h =
    let d = bound (document bytes) (λ d. tables d >>= λ s. checked s) t h in
    let s = bound (tables d.0) (λ s. checked s) t d.2 in
    let done = passed s.0 t (fault s.0) s.2 in
    subst IsSound done.0 (faultless s.0 (right d.0 s.0 s.1) done.1)
