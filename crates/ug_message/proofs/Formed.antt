-- What is known of keys and attributes that can be spelled, fact by fact.
use Rattle.std.proofs.Common.{◌≡◌, ℕ, ◌^◌, ◌<◌, ◌≤◌, ◌==◌, Bool, true, false, ◌&&◌, ◌||◌, nat_le, nat_lt, List, [], ◌∷◌, Option, Some, None, refl, ap, ◌∙◌, arith}
use Rattle.std.specs.Prelude.{IfSome}
use Rattle.std.specs.List.{list_all}
use Rattle.std.proofs.lemmas.Bool.Decides.{nat_tests}
use Rattle.ug_types.specs.declared.family.Family.{Family}
use Rattle.ug_types.specs.declared.family.Family.TheVariants.{V4, V6}
use Rattle.ug_types.specs.declared.key.Key.{Key}
use Rattle.ug_types.specs.declared.attrs.Aggregator.{Aggregator}
use Rattle.ug_types.specs.Ip.{IpPrefix, IpAddress, width_of, same_family, cleared}
use Rattle.ug_types.specs.Attributes.{PathSegment, Attributes, IsAttributes, is_well_formed}
use Rattle.ug_message.specs.Spellable.{is_number, is_prefix, is_route, is_address, is_aggregator, has_numbers, where_there, can_be_spelled}

pub both : (a b : Bool) → (a && b) ≡ true → (a ≡ true) × (b ≡ true)
both true true e = (refl, refl)
both true false e = absurd cc
both false b e = absurd cc

pub and : (a b : Bool) → a ≡ true → b ≡ true → (a && b) ≡ true
and a b e f = ap (λ (x : Bool). x && b) e ∙ f

below : (n m : ℕ) → nat_lt n m ≡ true → n < m
below n m e = grind (arith, nat_tests)

at_most : (n m : ℕ) → nat_le n m ≡ true → n ≤ m
at_most n m e = grind (arith, nat_tests)

same : (n m : ℕ) → (n == m) ≡ true → n ≡ m
same n m e = grind (arith, nat_tests)

pub family_is : (f g : Family) → same_family f g ≡ true → f ≡ g
family_is V4 V4 e = refl
family_is V6 V6 e = refl
family_is V4 V6 e = absurd cc
family_is V6 V4 e = absurd cc

-- ---- routes

pub record IsPrefixOf (family : Family) (p : IpPrefix) : Type 0 where
  pub family_is : p.family ≡ family
  pub short : p.len ≤ width_of family
  pub clear : cleared p.len p.bits ≡ p.bits
  pub fits : p.bits < 2 ^ 128

pub record IsRouteOf (family : Family) (add_path : Bool) (key : Key) : Type 0 where
  pub prefix : IsPrefixOf family key.prefix
  pub id : key.id < 2 ^ 32
  pub plain : add_path ≡ false → key.id ≡ 0

prefix_formed : (family : Family) (p : IpPrefix) → is_prefix family p ≡ true → IsPrefixOf family p
prefix_formed family p e =
    let a = both (same_family p.family family && nat_le p.len (width_of family) && (cleared p.len p.bits == p.bits)) (nat_lt p.bits (2 ^ 128)) e in
    let b = both (same_family p.family family && nat_le p.len (width_of family)) (cleared p.len p.bits == p.bits) a.0 in
    let c = both (same_family p.family family) (nat_le p.len (width_of family)) b.0 in
    record { family_is = family_is p.family family c.0; short = at_most p.len (width_of family) c.1; clear = same (cleared p.len p.bits) p.bits b.1; fits = below p.bits (2 ^ 128) a.1 }

no_identifier : (add_path : Bool) (id : ℕ) → (add_path || (id == 0)) ≡ true → add_path ≡ false → id ≡ 0
no_identifier true id e f = absurd cc
no_identifier false id e f = same id 0 e

pub route_formed : (family : Family) (add_path : Bool) (key : Key) → is_route family add_path key ≡ true → IsRouteOf family add_path key
unfolding is_route
route_formed family add_path key e =
    let a = both (is_prefix family key.prefix && is_number key.id) (add_path || (key.id == 0)) e in
    let b = both (is_prefix family key.prefix) (is_number key.id) a.0 in
    record { prefix = prefix_formed family key.prefix b.0; id = below key.id (2 ^ 32) b.1; plain = no_identifier add_path key.id a.1 }

abbrev pub AreRoutesOf : Family → Bool → List Key → Type 0
AreRoutesOf family add_path [] = Unit {0}
AreRoutesOf family add_path (key ∷ keys) = IsRouteOf family add_path key × AreRoutesOf family add_path keys

pub routes_formed : (family : Family) (add_path : Bool) (keys : List Key) → list_all (is_route family add_path) keys ≡ true → AreRoutesOf family add_path keys
routes_formed family add_path [] e = tt
routes_formed family add_path (key ∷ keys) e =
    let a = both (is_route family add_path key) (list_all (is_route family add_path) keys) e in
    (route_formed family add_path key a.0, routes_formed family add_path keys a.1)

-- ---- attributes

abbrev pub AreNumbers : List ℕ → Type 0
AreNumbers [] = Unit {0}
AreNumbers (n ∷ ns) = (n < 2 ^ 32) × AreNumbers ns

abbrev pub HaveNumbers : List PathSegment → Type 0
HaveNumbers [] = Unit {0}
HaveNumbers (s ∷ path) = AreNumbers s.numbers × HaveNumbers path

pub record IsAddressOf (family : Family) (a : IpAddress) : Type 0 where
  pub family_is : a.family ≡ family
  pub clear : cleared (width_of family) a.bits ≡ a.bits
  pub fits : a.bits < 2 ^ 128

pub record IsAggregator (g : Aggregator) : Type 0 where
  pub asn : g.asn < 2 ^ 32
  pub addr : IsAddressOf V4 g.addr

pub record IsSpellable (family : Family) (a : Attributes) : Type 0 where
  pub well_formed : IsAttributes a
  pub path : HaveNumbers a.path
  pub next_hop : IsAddressOf family a.next_hop
  pub med : IfSome a.med (λ n. n < 2 ^ 32)
  pub local_pref : IfSome a.local_pref (λ n. n < 2 ^ 32)
  pub aggregator : IfSome a.aggregator IsAggregator
  pub communities : AreNumbers a.communities
  pub originator : IfSome a.originator (IsAddressOf V4)
  pub clusters : AreNumbers a.clusters

numbers_formed : (ns : List ℕ) → list_all is_number ns ≡ true → AreNumbers ns
numbers_formed [] e = tt
numbers_formed (n ∷ ns) e = let a = both (is_number n) (list_all is_number ns) e in (below n (2 ^ 32) a.0, numbers_formed ns a.1)

path_formed : (path : List PathSegment) → list_all has_numbers path ≡ true → HaveNumbers path
path_formed [] e = tt
path_formed (s ∷ path) e = let a = both (has_numbers s) (list_all has_numbers path) e in (numbers_formed s.numbers a.0, path_formed path a.1)

address_formed : (family : Family) (a : IpAddress) → is_address family a ≡ true → IsAddressOf family a
address_formed family a e =
    let b = both (same_family a.family family && (cleared (width_of family) a.bits == a.bits)) (nat_lt a.bits (2 ^ 128)) e in
    let c = both (same_family a.family family) (cleared (width_of family) a.bits == a.bits) b.0 in
    record { family_is = family_is a.family family c.0; clear = same (cleared (width_of family) a.bits) a.bits c.1; fits = below a.bits (2 ^ 128) b.1 }

aggregator_formed : (g : Aggregator) → is_aggregator g ≡ true → IsAggregator g
aggregator_formed g e = let a = both (is_number g.asn) (is_address V4 g.addr) e in record { asn = below g.asn (2 ^ 32) a.0; addr = address_formed V4 g.addr a.1 }

where_number : (n : Option ℕ) → where_there is_number n ≡ true → IfSome n (λ m. m < 2 ^ 32)
where_number None e = tt
where_number (Some n) e = below n (2 ^ 32) e

where_aggregator : (g : Option Aggregator) → where_there is_aggregator g ≡ true → IfSome g IsAggregator
where_aggregator None e = tt
where_aggregator (Some g) e = aggregator_formed g e

where_address : (a : Option IpAddress) → where_there (is_address V4) a ≡ true → IfSome a (IsAddressOf V4)
where_address None e = tt
where_address (Some a) e = address_formed V4 a e

record Nine (a b c d e f g h i : Bool) : Type 0 where
  one : a ≡ true
  two : b ≡ true
  three : c ≡ true
  four : d ≡ true
  five : e ≡ true
  six : f ≡ true
  seven : g ≡ true
  eight : h ≡ true
  nine : i ≡ true

all_nine : (a b c d e f g h i : Bool) → (a && b && c && d && e && f && g && h && i) ≡ true → Nine a b c d e f g h i
all_nine a b c d e f g h i is =
    let p8 = both (a && b && c && d && e && f && g && h) i is in
    let p7 = both (a && b && c && d && e && f && g) h p8.0 in
    let p6 = both (a && b && c && d && e && f) g p7.0 in
    let p5 = both (a && b && c && d && e) f p6.0 in
    let p4 = both (a && b && c && d) e p5.0 in
    let p3 = both (a && b && c) d p4.0 in
    let p2 = both (a && b) c p3.0 in
    let p1 = both a b p2.0 in
    record { one = p1.0; two = p1.1; three = p2.1; four = p3.1; five = p4.1; six = p5.1; seven = p6.1; eight = p7.1; nine = p8.1 }

pub attributes_formed : (family : Family) (a : Attributes) → can_be_spelled family a ≡ true → IsSpellable family a
unfolding can_be_spelled
attributes_formed family a e =
    let h = all_nine (is_well_formed a) (list_all has_numbers a.path) (is_address family a.next_hop) (where_there is_number a.med) (where_there is_number a.local_pref)
    (where_there is_aggregator a.aggregator) (list_all is_number a.communities) (where_there (is_address V4) a.originator) (list_all is_number a.clusters) e in
    record {
      well_formed = h.one;
      path = path_formed a.path h.two;
      next_hop = address_formed family a.next_hop h.three;
      med = where_number a.med h.four;
      local_pref = where_number a.local_pref h.five;
      aggregator = where_aggregator a.aggregator h.six;
      communities = numbers_formed a.communities h.seven;
      originator = where_address a.originator h.eight;
      clusters = numbers_formed a.clusters h.nine;
    }
