-- Of any two attributes it can be told whether they are the same.
use Rattle.std.specs.Prelude.{◌≡◌, ◌≢◌, ℕ, Bool, true, false, List, [], ◌∷◌, Option, Some, None}
use Rattle.std.proofs.Common.{◌⊎◌, inl, inr, refl, ap, subst}
use Rattle.std.proofs.lemmas.Bool.{cases_eq}
use Rattle.ug_types.specs.declared.family.Family.{Family}
use Rattle.ug_types.specs.declared.family.Family.TheVariants.{V4, V6}
use Rattle.ug_types.specs.declared.attrs.Aggregator.{Aggregator}
use Rattle.ug_types.specs.Ip.{IpAddress}
use Rattle.ug_types.specs.Attributes.{PathSegment, Attributes}

-- Any two values are the same, or they are not.
abbrev pub Decided : Type 0 → Type 0
Decided V = (v w : V) → (v ≡ w) ⊎ (v ≢ w)

-- Values are decided where they can be made again of something decided.
pub decided_on : {A B : Type 0} (shown : A → B) (made : B → A) → ((a : A) → made (shown a) ≡ a) → Decided B → Decided A
decided_on {A} shown made back decided a b =
    elim (decided (shown a) (shown b)) [
      | inl same ↦ inl (subst (λ x. a ≡ x) (back b) (subst (λ x. x ≡ made (shown b)) (back a) (ap made same)))
      | inr other ↦ inr (λ same. other (ap shown same))
    ]

pub decided_pair : {A B : Type 0} → Decided A → Decided B → Decided (A × B)
decided_pair {A} {B} firsts seconds p q =
    elim (firsts p.0 q.0) [
      | inl first ↦ elim (seconds p.1 q.1) [
        | inl second ↦ inl (subst (λ (b : B). p ≡ (q.0, b)) second (ap (λ (a : A). (a, p.1)) first))
        | inr other ↦ inr (λ same. other (ap (λ (r : A × B). r.1) same))
      ]
      | inr other ↦ inr (λ same. other (ap (λ (r : A × B). r.0) same))
    ]

pub decided_list : {A : Type 0} → Decided A → Decided (List A)
decided_list decided [] [] = inl refl
decided_list decided [] (y ∷ ys) = inr (λ same. absurd cc)
decided_list decided (x ∷ xs) [] = inr (λ same. absurd cc)
decided_list {A} decided (x ∷ xs) (y ∷ ys) =
    elim (decided x y) [
      | inl first ↦ elim (decided_list decided xs ys) [
        | inl rest ↦ inl cc
        | inr other ↦ inr (λ same. other cc)
      ]
      | inr other ↦ inr (λ same. other cc)
    ]

pub decided_option : {A : Type 0} → Decided A → Decided (Option A)
decided_option decided None None = inl refl
decided_option decided None (Some y) = inr (λ same. absurd cc)
decided_option decided (Some x) None = inr (λ same. absurd cc)
decided_option {A} decided (Some x) (Some y) = elim (decided x y) [ inl same ↦ inl (ap Some same) | inr other ↦ inr (λ same. other cc) ]

pub decided_number : Decided ℕ
decided_number m n = cases_eq m n

pub decided_bool : Decided Bool
decided_bool true true = inl refl
decided_bool true false = inr (λ same. absurd cc)
decided_bool false true = inr (λ same. absurd cc)
decided_bool false false = inl refl

pub decided_family : Decided Family
decided_family V4 V4 = inl refl
decided_family V4 V6 = inr (λ same. absurd cc)
decided_family V6 V4 = inr (λ same. absurd cc)
decided_family V6 V6 = inl refl

pub decided_address : Decided IpAddress
decided_address =
    decided_on {B = Family × ℕ} (λ (a : IpAddress). (a.family, a.bits)) (λ p. record { family = p.0; bits = p.1 }) (λ a. refl) (decided_pair decided_family decided_number)

pub decided_segment : Decided PathSegment
decided_segment =
    decided_on {B = Bool × List ℕ} (λ (s : PathSegment). (s.is_set, s.numbers)) (λ p. record { is_set = p.0; numbers = p.1 }) (λ s. refl) (decided_pair decided_bool (decided_list decided_number))

pub decided_aggregator : Decided Aggregator
decided_aggregator =
    decided_on {B = ℕ × IpAddress} (λ (g : Aggregator). (g.asn, g.addr)) (λ p. record { asn = p.0; addr = p.1 }) (λ g. refl) (decided_pair decided_number decided_address)

-- attributes as pairs
abbrev Paired : Type 0
Paired = ℕ × (List PathSegment × (IpAddress × (Option ℕ × (Option ℕ × (Bool × (Option Aggregator × (List ℕ × (Option IpAddress × List ℕ))))))))

abbrev paired : Attributes → Paired
paired a = (a.origin, (a.path, (a.next_hop, (a.med, (a.local_pref, (a.atomic, (a.aggregator, (a.communities, (a.originator, a.clusters)))))))))

abbrev unpaired : Paired → Attributes
unpaired p = record {
  origin = p.0;
  path = p.1.0;
  next_hop = p.1.1.0;
  med = p.1.1.1.0;
  local_pref = p.1.1.1.1.0;
  atomic = p.1.1.1.1.1.0;
  aggregator = p.1.1.1.1.1.1.0;
  communities = p.1.1.1.1.1.1.1.0;
  originator = p.1.1.1.1.1.1.1.1.0;
  clusters = p.1.1.1.1.1.1.1.1.1;
}

decided_paired : Decided Paired
decided_paired =
    decided_pair decided_number
    (decided_pair (decided_list decided_segment)
    (decided_pair decided_address
    (decided_pair (decided_option decided_number)
    (decided_pair (decided_option decided_number)
    (decided_pair decided_bool
    (decided_pair (decided_option decided_aggregator)
    (decided_pair (decided_list decided_number) (decided_pair (decided_option decided_address) (decided_list decided_number)))))))))

pub decided_attributes : Decided Attributes
decided_attributes = decided_on paired unpaired (λ a. refl) decided_paired
