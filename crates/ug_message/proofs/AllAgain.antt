-- All attributes that were written are read again, one after the other.
use Rattle.std.proofs.Common.{◌≡◌, ℕ, ◌+◌, ◌^◌, ◌<◌, Bool, true, false, not, nat_le, nat_lt, List, [], ◌∷◌, ◌++◌, length, Option, Some, None, Result, Ok, refl, sym, ap, ◌∙◌, append_assoc}
use Rattle.std.specs.List.{list_all}
use Rattle.std.proofs.lemmas.List.{append-nil}
use Rattle.ug_types.specs.declared.family.Family.{Family}
use Rattle.ug_types.specs.declared.family.Family.TheVariants.{V4, V6}
use Rattle.ug_types.specs.Ip.{IpAddress}
use Rattle.ug_types.specs.Attributes.{Attributes, is_segment}
use Rattle.ug_message.specs.Walking.{Fault, ◌>>=◌, walk}
use Rattle.ug_message.specs.Kind.{ReadSoFar, nothing_read}
use Rattle.ug_message.specs.AttributeTable.{origin, as_path, next_hop, multi_exit_disc, local_pref, atomic_aggregate, aggregator, communities, originator_id, cluster_list, mp_reach_nlri, mp_unreach_nlri, before_next_hop, after_next_hop}
use Rattle.ug_message.specs.Spelling.{attributes, attributes_but_next_hop}
use Rattle.ug_message.specs.AttributesRead.{attribute_step, attributes_in, at_end, read_attributes, Multiprotocol, nowhere, announced_in, withdrawn_in, has_routes, is_alone_in, read_multiprotocol}
use Rattle.ug_message.specs.Lengths.{HasShortValues}
use Rattle.ug_message.proofs.Formed.{both, IsSpellable}
use Rattle.ug_message.proofs.RowsAgain.{Below, below_next, Went, behind_as_path, behind_next_hop, behind_clusters, behind_reach, behind_unreach, origin_again, as_path_again, next_hop_again, med_again, local_pref_again, atomic_again, aggregator_row_again, communities_again, originator_again, clusters_again, reach_again, unreach_again}

-- what is written before the next hop, and behind it
went_before : (family : Family) (a : Attributes) (rest : List ℕ) → IsSpellable family a → HasShortValues a → Went family 3 nothing_read 0 (before_next_hop a ++ rest) rest (λ p. behind_as_path a)
went_before family a rest s short =
    let formed = both (list_all is_segment a.path) (nat_le a.origin 2) s.well_formed in
    let w1 = origin_again family a 0 (as_path a ++ rest) formed.1 in
    let w2 = as_path_again family a w1.types w1.at rest s short w1.below in
    record {
      at = w2.at;
      value = w2.value;
      types = w2.types;
      below = w2.below;
      same = ap (λ (b : List ℕ). walk (attribute_step family) 0 0 nothing_read b) (append_assoc (origin a) (as_path a) rest) ∙ w1.same ∙ w2.same;
    }

regrouped : (m l t g c r k rest : List ℕ) → m ++ l ++ t ++ g ++ c ++ r ++ k ++ rest ≡ m ++ (l ++ (t ++ (g ++ (c ++ (r ++ (k ++ rest))))))
regrouped m l t g c r k rest = simp append_assoc

went_after : (family : Family) (a : Attributes) (h : Option IpAddress) (types : List ℕ) (place : ℕ) (rest : List ℕ) → IsSpellable family a → HasShortValues a → Below 4 types
    → Went family 11 (behind_next_hop a h types) place (after_next_hop a ++ rest) rest (λ p. behind_clusters a h)
went_after family a h types place rest s short below =
    let k = cluster_list a ++ rest in
    let r = originator_id a ++ k in
    let c = communities a ++ r in
    let g = aggregator a ++ c in
    let t = atomic_aggregate a ++ g in
    let l = local_pref a ++ t in
    let w4 = med_again family a h a.med types place l s.med below in
    let w5 = local_pref_again family a h a.local_pref w4.types w4.at t s.local_pref w4.below in
    let w6 = atomic_again family a h a.atomic w5.types w5.at g w5.below in
    let w7 = aggregator_row_again family a h a.aggregator w6.types w6.at c s.aggregator w6.below in
    let w8 = communities_again family a h a.communities w7.types w7.at r s.communities short.communities w7.below in
    let w9 = originator_again family a h a.originator w8.types w8.at k s.originator w8.below in
    let w10 = clusters_again family a h a.clusters w9.types w9.at rest s.clusters short.clusters w9.below in
    record {
      at = w10.at;
      value = w10.value;
      types = w10.types;
      below = w10.below;
      same =
          ap (λ (b : List ℕ). walk (attribute_step family) 0 place (behind_next_hop a h types) b)
          (regrouped (multi_exit_disc a) (local_pref a) (atomic_aggregate a) (aggregator a) (communities a) (originator_id a) (cluster_list a) rest)
          ∙ w4.same ∙ w5.same ∙ w6.same ∙ w7.same ∙ w8.same ∙ w9.same ∙ w10.same;
    }

end_of : (need : Bool) (a : Attributes) → at_end need (Some a) ≡ Ok (Some a)
end_of true a = refl
end_of false a = refl

-- whether the attributes are needed or not
pub attributes_again : (need : Bool) (a : Attributes) → IsSpellable V4 a → HasShortValues a → read_attributes need (attributes a) ≡ Ok (Some a)
unfolding read_attributes attributes
attributes_again need a s short =
    let after = after_next_hop a ++ [] in
    let w2 = went_before V4 a (next_hop a ++ after) s short in
    let w3 = next_hop_again a w2.types w2.at after s w2.below in
    let w10 = went_after V4 a (Some a.next_hop) w3.types w3.at [] s short w3.below in
    let parts : before_next_hop a ++ next_hop a ++ after_next_hop a ≡ before_next_hop a ++ (next_hop a ++ after) =
    append_assoc (before_next_hop a) (next_hop a) (after_next_hop a) ∙ ap (λ (b : List ℕ). before_next_hop a ++ (next_hop a ++ b)) (sym (append-nil (after_next_hop a))) in
    let whole = ap (λ (b : List ℕ). walk (attribute_step V4) 0 0 nothing_read b) parts ∙ w2.same ∙ w3.same ∙ w10.same in
    ap (λ (x : Result ReadSoFar Fault). x >>= λ r. at_end need (attributes_in V4 r)) whole ∙ end_of need a

-- ---- routes among the attributes

-- what is found where routes are announced among the attributes
pub record FoundAnnounced (a : Attributes) (routes : List ℕ) (found : Multiprotocol) : Type 0 where
  pub attrs : found.attrs ≡ Some a
  pub announced : found.announced.routes ≡ routes
  pub withdrawn : found.withdrawn ≡ nowhere

pub announced_again : (a : Attributes) (routes : List ℕ) → IsSpellable V6 a → HasShortValues a → length routes + 21 < 2 ^ 16
    → (found : Multiprotocol) × (read_multiprotocol (attributes_but_next_hop a ++ mp_reach_nlri a.next_hop routes) ≡ Ok found) × FoundAnnounced a routes found
unfolding read_multiprotocol attributes_but_next_hop
announced_again a routes s short small =
    let last = mp_reach_nlri a.next_hop routes ++ [] in
    let w2 = went_before V6 a (after_next_hop a ++ last) s short in
    let w10 = went_after V6 a None w2.types w2.at last s short (below_next 3 w2.types w2.below) in
    let w14 = reach_again a routes w10.types w10.at s small w10.below in
    let parts : (before_next_hop a ++ after_next_hop a) ++ mp_reach_nlri a.next_hop routes ≡ before_next_hop a ++ (after_next_hop a ++ last) =
    append_assoc (before_next_hop a) (after_next_hop a) (mp_reach_nlri a.next_hop routes) ∙ ap (λ (b : List ℕ). before_next_hop a ++ (after_next_hop a ++ b)) (sym (append-nil (mp_reach_nlri a.next_hop routes))) in
    let whole = ap (λ (b : List ℕ). walk (attribute_step V6) 0 0 nothing_read b) parts ∙ w2.same ∙ w10.same ∙ w14.same in
    let r = behind_reach a routes w14.value w14.types in
    let finish : Result (Option Attributes) Fault → Result Multiprotocol Fault = λ x. x >>= λ attrs. Ok (record { attrs = attrs; withdrawn = nowhere; announced = announced_in r; is_alone = is_alone_in w14.types nowhere }) in (
      record { attrs = Some a; withdrawn = nowhere; announced = announced_in r; is_alone = is_alone_in w14.types nowhere },
      ap (λ (x : Result ReadSoFar Fault). x >>= λ r. (at_end (has_routes (announced_in r)) (attributes_in V6 r) >>= λ attrs. Ok (record { attrs = attrs; withdrawn = withdrawn_in r; announced = announced_in r; is_alone = is_alone_in r.types (withdrawn_in r) }))) whole
          ∙ ap finish (end_of (has_routes (announced_in r)) a),
      record { attrs = refl; announced = refl; withdrawn = refl },
    )

-- what is found where routes are withdrawn among the attributes
pub record FoundWithdrawn (routes : List ℕ) (found : Multiprotocol) : Type 0 where
  pub withdrawn : found.withdrawn.routes ≡ routes
  pub announced : found.announced ≡ nowhere
  pub is_alone : found.is_alone ≡ not (nat_lt 0 (length routes))

pub withdrawn_again : (routes : List ℕ) → length routes + 3 < 2 ^ 16
    → (found : Multiprotocol) × (read_multiprotocol (mp_unreach_nlri routes) ≡ Ok found) × FoundWithdrawn routes found
unfolding read_multiprotocol mp_unreach_nlri
withdrawn_again routes small =
    let text = mp_unreach_nlri routes in
    let w = unreach_again routes small in
    let r = behind_unreach routes w.value (15 ∷ []) in (
      record { attrs = None; withdrawn = withdrawn_in r; announced = nowhere; is_alone = is_alone_in (15 ∷ []) (withdrawn_in r) },
      ap (λ (x : Result ReadSoFar Fault). x >>= λ r. (at_end (has_routes (announced_in r)) (attributes_in V6 r) >>= λ attrs. Ok (record { attrs = attrs; withdrawn = withdrawn_in r; announced = announced_in r; is_alone = is_alone_in r.types (withdrawn_in r) })))
          (ap (λ (b : List ℕ). walk (attribute_step V6) 0 0 nothing_read b) (sym (append-nil text)) ∙ w.same),
      record { withdrawn = refl; announced = refl; is_alone = refl },
    )
