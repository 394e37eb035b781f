-- Values that compare as equal are the same.
use Rattle.std.proofs.Common.{◌≡◌, ℕ, nat_eq, Bool, true, false, ◌&&◌, List, [], ◌∷◌, map, Option, Some, None, refl, sym, ap, ◌∙◌, arith}
use Rattle.std.proofs.lemmas.Bool.Decides.{nat_tests}
use Rattle.std.specs.Bool.{beq}
use Rattle.std.specs.Option.{option_eq}
use Rattle.std.specs.Cmp.Lexicographic.{pointwise}
use Rattle.ug_types.specs.declared.family.Family.{Family}
use Rattle.ug_types.specs.declared.family.Family.TheVariants.{V4, V6}
use Rattle.ug_types.specs.declared.attrs.Aggregator.{Aggregator}
use Rattle.ug_types.specs.declared.route.NhKind.{NhKind}
use Rattle.ug_types.specs.declared.route.NhKind.TheVariants.{Keep, Own, Auto, Fixed}
use Rattle.ug_types.specs.declared.route.OutAttrs.{OutAttrs}
use Rattle.ug_types.specs.Ip.{IpAddress}
use Rattle.ug_types.specs.Attributes.{PathSegment, Attributes}
use Rattle.ug_types.specs.Bare.{bare_segment, bare_parts}
use Rattle.ug_types.specs.OrderLaws.{same_on}
use Rattle.ug_types.specs.contracts.family.FamilyPartialEq.TheImpl as family_eq
use Rattle.ug_types.specs.contracts.address.AddrPartialEq.TheImpl as address_eq
use Rattle.ug_types.specs.contracts.attrs.SegmentPartialEq.TheImpl as segment_eq
use Rattle.ug_types.specs.contracts.attrs.AggregatorPartialEq.TheImpl as aggregator_eq
use Rattle.ug_types.specs.contracts.attrs.AttrPartsPartialEq.TheImpl as parts_eq
use Rattle.ug_types.specs.contracts.route.NhKindPartialEq.TheImpl as kind_eq
use Rattle.ug_types.specs.contracts.route.OutAttrsPartialEq.TheImpl as out_eq

abbrev pub AreSame : {A : Type 0} → (A → A → Bool) → Type 0
AreSame {A} R = (a b : A) → R a b ≡ true → a ≡ b

both : (x y : Bool) → (x && y) ≡ true → (x ≡ true) × (y ≡ true)
both true y e = (refl, e)
both false y e = absurd cc

numbers_same : AreSame nat_eq
numbers_same a b e = grind (arith, nat_tests)

bits_same : AreSame beq
bits_same true true e = refl
bits_same true false e = absurd cc
bits_same false true e = absurd cc
bits_same false false e = refl

options_same : {A : Type 0} {R : A → A → Bool} → AreSame R → AreSame (option_eq R)
options_same h None None e = refl
options_same h None (Some y) e = absurd cc
options_same h (Some x) None e = absurd cc
options_same h (Some x) (Some y) e = ap Some (h x y e)

lists_same : {A : Type 0} {R : A → A → Bool} → AreSame R → AreSame (pointwise R)
lists_same h [] [] e = refl
lists_same h [] (y ∷ ys) e = absurd cc
lists_same h (x ∷ xs) [] e = absurd cc
lists_same h (x ∷ xs) (y ∷ ys) e =
    let parts = both _ _ e in
    let first = h x y parts.0 in
    let rest = lists_same h xs ys parts.1 in
    cc

-- what is equal as something else is equal
pointwise-map : {A B : Type 0} (f : A → B) (R : B → B → Bool) (S : A → A → Bool) → ((x y : A) → R (f x) (f y) ≡ S x y) → (xs ys : List A) → pointwise R (map f xs) (map f ys) ≡ pointwise S xs ys
pointwise-map f R S same [] [] = refl
pointwise-map f R S same [] (y ∷ ys) = refl
pointwise-map f R S same (x ∷ xs) [] = refl
pointwise-map f R S same (x ∷ xs) (y ∷ ys) = rw (same x y, pointwise-map f R S same xs ys) refl

families_same : AreSame family_eq.ghosts.eq
families_same V4 V4 e = refl
families_same V4 V6 e = absurd cc
families_same V6 V4 e = absurd cc
families_same V6 V6 e = refl

addresses_same : AreSame address_eq.ghosts.eq
addresses_same a b e =
    let parts = both _ _ e in
    let family = families_same a.family b.family parts.0 in
    let bits = numbers_same a.bits b.bits parts.1 in
    same_on {B = Family × ℕ} (λ (x : IpAddress). (x.family, x.bits)) (λ p. record { family = p.0; bits = p.1 }) (λ x. refl) a b cc

segments_same : (a b : PathSegment) → segment_eq.ghosts.eq (bare_segment a) (bare_segment b) ≡ true → a ≡ b
segments_same a b e =
    let parts = both _ _ e in
    let is_set = bits_same a.is_set b.is_set parts.0 in
    let numbers = lists_same numbers_same a.numbers b.numbers parts.1 in
    same_on {B = Bool × List ℕ} (λ (x : PathSegment). (x.is_set, x.numbers)) (λ p. record { is_set = p.0; numbers = p.1 }) (λ x. refl) a b cc

paths_same : (a b : List PathSegment) → pointwise segment_eq.ghosts.eq (map bare_segment a) (map bare_segment b) ≡ true → a ≡ b
paths_same a b e = lists_same segments_same a b (sym (pointwise-map bare_segment segment_eq.ghosts.eq (λ x y. segment_eq.ghosts.eq (bare_segment x) (bare_segment y)) (λ x y. refl) a b) ∙ e)

aggregators_same : AreSame aggregator_eq.ghosts.eq
aggregators_same a b e =
    let parts = both _ _ e in
    let asn = numbers_same a.asn b.asn parts.0 in
    let addr = addresses_same a.addr b.addr parts.1 in
    same_on {B = ℕ × IpAddress} (λ (x : Aggregator). (x.asn, x.addr)) (λ p. record { asn = p.0; addr = p.1 }) (λ x. refl) a b cc

-- attributes as pairs
abbrev Paired : Type 0
Paired = ℕ × (List PathSegment × (IpAddress × (Option ℕ × (Option ℕ × (Bool × (Option Aggregator × (List ℕ × (Option IpAddress × List ℕ))))))))

abbrev paired : Attributes → Paired
paired a = (a.origin, (a.path, (a.next_hop, (a.med, (a.local_pref, (a.atomic, (a.aggregator, (a.communities, (a.originator, a.clusters)))))))))

abbrev unpaired : Paired → Attributes
unpaired p = record {
  origin = p.0;
  path = p.1.0;
  next_hop = p.1.1.0;
  med = p.1.1.1.0;
  local_pref = p.1.1.1.1.0;
  atomic = p.1.1.1.1.1.0;
  aggregator = p.1.1.1.1.1.1.0;
  communities = p.1.1.1.1.1.1.1.0;
  originator = p.1.1.1.1.1.1.1.1.0;
  clusters = p.1.1.1.1.1.1.1.1.1;
}

pub attributes_same : (a b : Attributes) → parts_eq.ghosts.eq (bare_parts a) (bare_parts b) ≡ true → a ≡ b
attributes_same a b e =
    let p1 = both _ _ e in
    let p2 = both _ _ p1.1 in
    let p3 = both _ _ p2.1 in
    let p4 = both _ _ p3.1 in
    let p5 = both _ _ p4.1 in
    let p6 = both _ _ p5.1 in
    let p7 = both _ _ p6.1 in
    let p8 = both _ _ p7.1 in
    let p9 = both _ _ p8.1 in
    let origin = numbers_same a.origin b.origin p1.0 in
    let path = paths_same a.path b.path p2.0 in
    let next_hop = addresses_same a.next_hop b.next_hop p3.0 in
    let med = options_same numbers_same a.med b.med p4.0 in
    let local_pref = options_same numbers_same a.local_pref b.local_pref p5.0 in
    let atomic = bits_same a.atomic b.atomic p6.0 in
    let aggregator = options_same aggregators_same a.aggregator b.aggregator p7.0 in
    let communities = lists_same numbers_same a.communities b.communities p8.0 in
    let originator = options_same addresses_same a.originator b.originator p9.0 in
    let clusters = lists_same numbers_same a.clusters b.clusters p9.1 in
    same_on paired unpaired (λ x. refl) a b cc

kinds_same : AreSame kind_eq.ghosts.eq
kinds_same Keep Keep e = refl
kinds_same Keep Own e = absurd cc
kinds_same Keep Auto e = absurd cc
kinds_same Keep Fixed e = absurd cc
kinds_same Own Keep e = absurd cc
kinds_same Own Own e = refl
kinds_same Own Auto e = absurd cc
kinds_same Own Fixed e = absurd cc
kinds_same Auto Keep e = absurd cc
kinds_same Auto Own e = absurd cc
kinds_same Auto Auto e = refl
kinds_same Auto Fixed e = absurd cc
kinds_same Fixed Keep e = absurd cc
kinds_same Fixed Own e = absurd cc
kinds_same Fixed Auto e = absurd cc
kinds_same Fixed Fixed e = refl

pub outs_same : AreSame out_eq.ghosts.eq
outs_same a b e =
    let parts = both _ _ e in
    let attrs = attributes_same a.attrs b.attrs parts.0 in
    let kind = kinds_same a.nh_kind b.nh_kind parts.1 in
    same_on {B = Attributes × NhKind} (λ (x : OutAttrs). (x.attrs, x.nh_kind)) (λ p. record { attrs = p.0; nh_kind = p.1 }) (λ x. refl) a b cc
