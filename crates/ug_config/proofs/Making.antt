-- The parts of a world that sound tables make.
use Rattle.std.proofs.Common.{◌≡◌, ℕ, Bool, true, ◌&&◌, List, [], ◌∷◌, map, refl, ap, ◌∙◌}
use Rattle.std.specs.List.{list_all}
use Rattle.ug_types.specs.declared.named.Named.{Named}
use Rattle.ug_policy.specs.Lists.{seq_of}
use Rattle.ug_policy.specs.Named.{NamedList}
use Rattle.ug_policy.proofs.Sorting.{ascending_all}
use Rattle.ug_policy.specs.Rules.{MapRule, rule_seq}
use Rattle.ug_policy.specs.NamedMaps.{NamedMap}
use Rattle.ug_outbound.specs.declared.settings.Local.{Local}
use Rattle.ug_outbound.specs.declared.peer.Peer.{Peer}
use Rattle.ug_outbound.specs.Policies.{NamedPolicy}
use Rattle.ug_world.specs.declared.parts.WorldParts.{WorldParts}
use Rattle.ug_world.specs.Parts.{is_local_good, are_few, names_of, peer_names, is_one_of, is_map_good, is_policy_good, is_peer_good, IsGood}
use Rattle.ug_config.specs.Readings.{Tables}
use Rattle.ug_config.specs.Worlds.{IsSound, in_order}
use Rattle.ug_config.proofs.Inverting.{both}

same_names : {E : Type 0} (seq : E → ℕ) (xs : List (Named (List E))) → names_of (map (in_order seq) xs) ≡ names_of xs
same_names seq [] = refl
same_names seq (x ∷ xs) = ap (λ (ns : List (List ℕ)). x.name ∷ ns) (same_names seq xs)

same_maps : (names : List (List ℕ)) (ms : List (Named (List MapRule))) → list_all (is_map_good names) (map (in_order rule_seq) ms) ≡ list_all (is_map_good names) ms
same_maps names [] = refl
same_maps names (m ∷ ms) =
    ap (λ (b : Bool). b && list_all (is_map_good names) (map (in_order rule_seq) ms)) (ascending_all rule_seq (λ (r : MapRule). is_one_of names r.match_prefix_list) m.value)
    ∙ ap (λ (b : Bool). is_map_good names m && b) (same_maps names ms)

abbrev good_of : Local → List NamedList → List NamedMap → List NamedPolicy → List Peer → Bool
good_of local ls ms pols ps =
    is_local_good local
    && (are_few (names_of ls)
    && (are_few (names_of ms)
    && (are_few (names_of pols)
    && (are_few (peer_names ps)
    && (list_all (is_map_good (names_of ls)) ms && (list_all (is_policy_good (names_of ls) (names_of ms)) pols && list_all (is_peer_good (names_of pols)) ps))))))

good_whole : (t : Tables) → IsSound t → good_of t.local (map (in_order seq_of) t.lists) (map (in_order rule_seq) t.maps) t.policies t.peers ≡ true
good_whole t s =
    let ls = same_names seq_of t.lists in
    let ms = same_names rule_seq t.maps in
    both _ _ s.settings
    (both _ _ (ap are_few ls ∙ s.lists)
    (both _ _ (ap are_few ms ∙ s.maps)
    (both _ _ s.policies
    (both _ _ s.peers
    (both _ _ (ap (λ (ns : List (List ℕ)). list_all (is_map_good ns) (map (in_order rule_seq) t.maps)) ls ∙ same_maps (names_of t.lists) t.maps ∙ s.in_maps)
    (both _ _ (ap (λ (ns : List (List ℕ)). list_all (is_policy_good ns (names_of (map (in_order rule_seq) t.maps))) t.policies) ls ∙ ap (λ (ns : List (List ℕ)). list_all (is_policy_good (names_of t.lists) ns) t.policies) ms ∙ s.in_policies)
    s.in_peers))))))

pub good_parts : (t : Tables) → IsSound t → (p : WorldParts) → p.local ≡ t.local → p.lists.items ≡ map (in_order seq_of) t.lists → p.maps.items ≡ map (in_order rule_seq) t.maps → p.policies.items ≡ t.policies → p.peers.items ≡ t.peers → IsGood p
good_parts t s p l ls ms pols ps =
    ap (λ (x : Local). good_of x p.lists.items p.maps.items p.policies.items p.peers.items) l
    ∙ ap (λ (x : List NamedList). good_of t.local x p.maps.items p.policies.items p.peers.items) ls
    ∙ ap (λ (x : List NamedMap). good_of t.local (map (in_order seq_of) t.lists) x p.policies.items p.peers.items) ms
    ∙ ap (λ (x : List NamedPolicy). good_of t.local (map (in_order seq_of) t.lists) (map (in_order rule_seq) t.maps) x p.peers.items) pols
    ∙ ap (λ (x : List Peer). good_of t.local (map (in_order seq_of) t.lists) (map (in_order rule_seq) t.maps) t.policies x) ps
    ∙ good_whole t s
