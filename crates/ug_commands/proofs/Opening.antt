-- A run may begin in the world that a configuration stands for.
use Rattle.std.proofs.Common.{◌≡◌, ℕ, Bool, true, false, ◌&&◌, List, [], ◌∷◌, map, Option, Some, None, Ok, refl, ap, ◌∙◌, subst, nat_lt}
use Rattle.std.specs.Prelude.{nat_le, not, length, is_none, ◌+◌, if◌then◌else◌}
use Rattle.std.specs.List.{list_all}
use Rattle.ug_types.specs.declared.named.Named.{Named}
use Rattle.ug_types.specs.declared.family.Family.TheVariants.{V4}
use Rattle.ug_types.specs.Bytes.{same_bytes}
use Rattle.ug_policy.specs.Named.{value_named}
use Rattle.ug_policy.specs.Order.{ascending, repeats}
use Rattle.ug_policy.specs.Lists.{seq_of}
use Rattle.ug_policy.proofs.Sorting.{ascending_all, ascending_sum}
use Rattle.ug_policy.specs.Rules.{MapRule, rule_seq}
use Rattle.ug_policy.specs.Refusals.{is_ahead, is_known, count_in, has_few_sets, refusal_where, map_refusal}
use Rattle.ug_outbound.specs.declared.peer.Peer.{Peer}
use Rattle.ug_outbound.specs.Outbound.{number_of_address}
use Rattle.ug_outbound.specs.Bounds.{FewSets, SetsFew}
use Rattle.ug_message.specs.Spellable.{is_number, is_address, where_there}
use Rattle.ug_world.specs.declared.parts.WorldParts.{WorldParts}
use Rattle.ug_world.specs.World.{World}
use Rattle.ug_world.specs.Parts.{fresh, names_of}
use Rattle.ug_world.specs.declared.peer_state.PeerState.{PeerState}
use Rattle.ug_world.specs.Good.{is_rule_in_range, is_map_in_range, is_peer_in_range}
use Rattle.ug_speaker.specs.Owes.{IsOpening}
use Rattle.ug_config.specs.Readings.{Tables}
use Rattle.ug_config.specs.Checks.{setup}
use Rattle.ug_config.specs.Worlds.{in_order, world_of, config, sets_origins, is_map, IsSound}
use Rattle.ug_config.proofs.Inverting.{ok_is, bound, both, first_of, second_of}
use Rattle.ug_config.proofs.Good.{sound}
use Rattle.ug_config.proofs.Making.{good_parts}
use Rattle.ug_commands.proofs.Configured.{InRange, in_range}

-- ---- maps set little

few_of : (repeated : Bool) (names : List (List ℕ)) (rules : List MapRule) → is_none (refusal_where repeated names rules) ≡ true → has_few_sets rules ≡ true
few_of repeated names rules = one repeated (not (list_all is_ahead rules)) (nat_lt 256 (length rules)) (not (list_all (is_known names) rules)) (has_few_sets rules)
  where
    one : (a b c d e : Bool) → is_none {T = ℕ} (if a then Some 1 else (if b then Some 2 else (if c then Some 3 else (if d then Some 4 else (if not e then Some 5 else None))))) ≡ true → e ≡ true
    one true b c d e h = absurd cc
    one false true c d e h = absurd cc
    one false false true d e h = absurd cc
    one false false false true e h = absurd cc
    one false false false false true h = refl
    one false false false false false h = absurd cc

same_sets : (rules : List MapRule) → has_few_sets (ascending rule_seq rules) ≡ has_few_sets rules
same_sets rules =
    let prepends = ascending_sum rule_seq (λ (r : MapRule). count_in r.set_prepend) rules in
    let communities = ascending_sum rule_seq (λ (r : MapRule). count_in r.set_communities + count_in r.add_communities) rules in
    λ i. nat_le (prepends i) 16 && nat_le (communities i) 16

few_in : (names : List (List ℕ)) (ms : List (Named (List MapRule))) → list_all (is_map names) ms ≡ true → (name : List ℕ) → FewSets (value_named (map (in_order rule_seq) ms) name)
few_in names [] h name = tt
few_in names (m ∷ ms) h name = one (same_bytes m.name name) (few_in names ms (second_of (is_map names m) (list_all (is_map names) ms) h) name)
  where
    one : (b : Bool) → FewSets (value_named (map (in_order rule_seq) ms) name) → FewSets (if b then Some (ascending rule_seq m.value) else value_named (map (in_order rule_seq) ms) name)
    one true rest =
        same_sets m.value
        ∙ few_of (repeats rule_seq m.value) names m.value (second_of (sets_origins m) (is_none (map_refusal names m.value)) (first_of (is_map names m) (list_all (is_map names) ms) h))
    one false rest = rest

sets_few : (t : Tables) → IsSound t → (map_name : Option (List ℕ)) → SetsFew (map (in_order rule_seq) t.maps) map_name
sets_few t s None = tt
sets_few t s (Some name) = few_in (names_of t.lists) t.maps s.are_maps name

-- ---- the values

maps_range : (ms : List (Named (List MapRule))) → list_all is_map_in_range ms ≡ true → list_all is_map_in_range (map (in_order rule_seq) ms) ≡ true
maps_range [] h = refl
maps_range (m ∷ ms) h =
    both (is_map_in_range (in_order rule_seq m)) (list_all is_map_in_range (map (in_order rule_seq) ms))
    (ascending_all rule_seq is_rule_in_range m.value ∙ first_of (is_map_in_range m) (list_all is_map_in_range ms) h) (maps_range ms (second_of (is_map_in_range m) (list_all is_map_in_range ms) h))

peers_range : (ps : List Peer) → list_all (λ (s : PeerState). is_peer_in_range s.peer) (map fresh ps) ≡ list_all is_peer_in_range ps
peers_range [] = refl
peers_range (p ∷ ps) = ap (λ (b : Bool). is_peer_in_range p && b) (peers_range ps)

-- ---- the world

abbrev parts_of : Tables → WorldParts
parts_of t = record {
  local = t.local;
  lists = record { items = map (in_order seq_of) t.lists; spare = 0 };
  maps = record { items = map (in_order rule_seq) t.maps; spare = 0 };
  policies = record { items = t.policies; spare = 0 };
  peers = record { items = t.peers; spare = 0 };
}

opens : (t : Tables) → IsSound t → InRange t → IsOpening (world_of t)
opens t s ranges = record {
  parts = parts_of t;
  good = good_parts t s (parts_of t) refl refl refl refl refl;
  first = refl;
  few_sets = sets_few t s;
  in_range = record {
    asn = first_of (is_number t.local.asn) (is_number (number_of_address t.local.cluster_id)) ranges.0;
    cluster = second_of (is_number t.local.asn) (is_number (number_of_address t.local.cluster_id)) ranges.0;
    maps = maps_range t.maps ranges.1;
    peers = peers_range t.peers ∙ ranges.2;
  };
}

pub config_opens : (bytes : List ℕ) (w : World) → config bytes ≡ Ok w → IsOpening w
unfolding config
config_opens bytes w h =
    let t = bound (setup bytes) (λ t. Ok (world_of t)) w h in
    subst IsOpening (ok_is (world_of t.0) w t.2) (opens t.0 (sound bytes t.0 t.1) (in_range bytes t.0 t.1))
