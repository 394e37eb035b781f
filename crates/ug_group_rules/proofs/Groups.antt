-- Group keys that are equal are the same.
use Rattle.std.proofs.Common.{◌≡◌, ℕ, Bool, true, false, List, [], ◌∷◌, Option, Some, None, refl, ap}
use Rattle.std.specs.Prelude.{◌&&◌, nat_eq}
use Rattle.std.specs.Bool.{beq}
use Rattle.std.specs.Option.{option_eq}
use Rattle.std.specs.Cmp.Lexicographic.{pointwise}
use Rattle.std.proofs.lemmas.Bool.{eqb-true}
use Rattle.ug_types.specs.Ip.{IpPrefix}
use Rattle.ug_types.specs.declared.family.Family.{Family}
use Rattle.ug_types.specs.declared.family.Family.TheVariants.{V4, V6}
use Rattle.ug_types.specs.contracts.family.FamilyPartialEq.TheImpl as family_eq
use Rattle.ug_types.specs.contracts.compared.NamePartialEq.TheImpl as name_eq
use Rattle.ug_types.specs.contracts.prefix.PrefixPartialEq.TheImpl as prefix_eq
use Rattle.ug_policy.specs.declared.list_entry.ListEntry.{ListEntry}
use Rattle.ug_policy.specs.contracts.list_entry.ListEntryPartialEq.TheImpl as entry_eq
use Rattle.ug_outbound.specs.declared.kind.Kind.{Kind}
use Rattle.ug_outbound.specs.declared.kind.Kind.TheVariants.{External, Internal, Client}
use Rattle.ug_outbound.specs.declared.key.GroupKey.{GroupKey}
use Rattle.ug_outbound.specs.contracts.kind.KindPartialEq.TheImpl as kind_eq
use Rattle.ug_speaker.proofs.Bools.{both_so}
use Rattle.ug_group_rules.specs.Packets.{same_group}

family_is : (a b : Family) → family_eq.ghosts.eq a b ≡ true → a ≡ b
family_is V4 V4 e = refl
family_is V6 V6 e = refl
family_is V4 V6 e = absurd cc
family_is V6 V4 e = absurd cc

kind_is : (a b : Kind) → kind_eq.ghosts.eq a b ≡ true → a ≡ b
kind_is External External e = refl
kind_is Internal Internal e = refl
kind_is Client Client e = refl
kind_is External Internal e = absurd cc
kind_is External Client e = absurd cc
kind_is Internal External e = absurd cc
kind_is Internal Client e = absurd cc
kind_is Client External e = absurd cc
kind_is Client Internal e = absurd cc

bool_is : (a b : Bool) → beq a b ≡ true → a ≡ b
bool_is true true e = refl
bool_is false false e = refl
bool_is true false e = absurd cc
bool_is false true e = absurd cc

option_is : {T : Type 0} (same : T → T → Bool) → ((a b : T) → same a b ≡ true → a ≡ b) → (x y : Option T) → option_eq same x y ≡ true → x ≡ y
option_is same h None None e = refl
option_is same h None (Some b) e = absurd cc
option_is same h (Some a) None e = absurd cc
option_is same h (Some a) (Some b) e = ap Some (h a b e)

list_is : {T : Type 0} (same : T → T → Bool) → ((a b : T) → same a b ≡ true → a ≡ b) → (xs ys : List T) → pointwise same xs ys ≡ true → xs ≡ ys
list_is same h [] [] e = refl
list_is same h [] (y ∷ ys) e = absurd cc
list_is same h (x ∷ xs) [] e = absurd cc
list_is same h (x ∷ xs) (y ∷ ys) e =
    let parts = both_so (same x y) (pointwise same xs ys) e in
    let head = h x y parts.0 in let rest = list_is same h xs ys parts.1 in λ i. head i ∷ rest i

number_is : (a b : ℕ) → nat_eq a b ≡ true → a ≡ b
number_is a b e = eqb-true a b e

name_is : (a b : List ℕ) → name_eq.ghosts.eq a b ≡ true → a ≡ b
name_is a b e = list_is nat_eq number_is a b e

prefix_same : (a b : IpPrefix) → prefix_eq.ghosts.eq a b ≡ true → a ≡ b
prefix_same a b e =
    let parts = both_so (family_eq.ghosts.eq a.family b.family) (nat_eq a.bits b.bits && nat_eq a.len b.len) e in
    let numbers = both_so (nat_eq a.bits b.bits) (nat_eq a.len b.len) parts.1 in
    let family = family_is a.family b.family parts.0 in
    let bits = number_is a.bits b.bits numbers.0 in
    let len = number_is a.len b.len numbers.1 in
    λ i. record { family = family i; bits = bits i; len = len i }

entry_is : (a b : ListEntry) → entry_eq.ghosts.eq a b ≡ true → a ≡ b
entry_is a b e =
    let p = both_so (nat_eq a.seq b.seq) (beq a.permit b.permit && (prefix_eq.ghosts.eq a.prefix b.prefix && (option_eq nat_eq a.ge b.ge && option_eq nat_eq a.le b.le))) e in
    let q = both_so (beq a.permit b.permit) (prefix_eq.ghosts.eq a.prefix b.prefix && (option_eq nat_eq a.ge b.ge && option_eq nat_eq a.le b.le)) p.1 in
    let r = both_so (prefix_eq.ghosts.eq a.prefix b.prefix) (option_eq nat_eq a.ge b.ge && option_eq nat_eq a.le b.le) q.1 in
    let s = both_so (option_eq nat_eq a.ge b.ge) (option_eq nat_eq a.le b.le) r.1 in
    let seq = number_is a.seq b.seq p.0 in
    let permit = bool_is a.permit b.permit q.0 in
    let prefix = prefix_same a.prefix b.prefix r.0 in
    let ge = option_is nat_eq number_is a.ge b.ge s.0 in
    let le = option_is nat_eq number_is a.le b.le s.1 in
    λ i. record { seq = seq i; permit = permit i; prefix = prefix i; ge = ge i; le = le i }

module _ (a b : GroupKey) where
  abbrev after_list : Bool
  after_list =
      option_eq name_eq.ghosts.eq a.map b.map && (beq a.next_hop_self b.next_hop_self && (option_eq nat_eq a.as_override b.as_override && (beq a.remove_private_as b.remove_private_as && (beq a.send_community b.send_community
      && (beq a.add_path b.add_path && (beq a.extended b.extended && (beq a.enhanced_refresh b.enhanced_refresh && pointwise entry_eq.ghosts.eq a.filter b.filter)))))))

  pub group-same : same_group a b ≡ true → a ≡ b
  group-same e =
      let c = both_so (kind_eq.ghosts.eq a.kind b.kind) (family_eq.ghosts.eq a.family b.family && (option_eq name_eq.ghosts.eq a.list b.list && after_list)) e in
      let d = both_so (family_eq.ghosts.eq a.family b.family) (option_eq name_eq.ghosts.eq a.list b.list && after_list) c.1 in
      let f = both_so (option_eq name_eq.ghosts.eq a.list b.list) after_list d.1 in
      let g = both_so (option_eq name_eq.ghosts.eq a.map b.map) _ f.1 in
      let h = both_so (beq a.next_hop_self b.next_hop_self) _ g.1 in
      let j = both_so (option_eq nat_eq a.as_override b.as_override) _ h.1 in
      let k = both_so (beq a.remove_private_as b.remove_private_as) _ j.1 in
      let l = both_so (beq a.send_community b.send_community) _ k.1 in
      let m = both_so (beq a.add_path b.add_path) _ l.1 in
      let n = both_so (beq a.extended b.extended) _ m.1 in
      let o = both_so (beq a.enhanced_refresh b.enhanced_refresh) (pointwise entry_eq.ghosts.eq a.filter b.filter) n.1 in
      let kind = kind_is a.kind b.kind c.0 in
      let family = family_is a.family b.family d.0 in
      let list = option_is name_eq.ghosts.eq name_is a.list b.list f.0 in
      let map = option_is name_eq.ghosts.eq name_is a.map b.map g.0 in
      let next_hop_self = bool_is a.next_hop_self b.next_hop_self h.0 in
      let as_override = option_is nat_eq number_is a.as_override b.as_override j.0 in
      let remove_private_as = bool_is a.remove_private_as b.remove_private_as k.0 in
      let send_community = bool_is a.send_community b.send_community l.0 in
      let add_path = bool_is a.add_path b.add_path m.0 in
      let extended = bool_is a.extended b.extended n.0 in
      let enhanced_refresh = bool_is a.enhanced_refresh b.enhanced_refresh o.0 in
      let filter = list_is entry_eq.ghosts.eq entry_is a.filter b.filter o.1 in
      λ i. record {
        kind = kind i;
        family = family i;
        list = list i;
        map = map i;
        next_hop_self = next_hop_self i;
        as_override = as_override i;
        remove_private_as = remove_private_as i;
        send_community = send_community i;
        add_path = add_path i;
        extended = extended i;
        enhanced_refresh = enhanced_refresh i;
        filter = filter i;
      }
