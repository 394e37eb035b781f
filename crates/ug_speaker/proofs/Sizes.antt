-- One route fits a message, whatever the session.
use Rattle.std.proofs.Common.{◌≡◌, ℕ, ◌+◌, ◌≤◌, Bool, true, false, List, [], ◌∷◌, ◌++◌, length, Option, Some, None, refl, ap, arith, length-append}
use Rattle.std.specs.Prelude.{◌==◌, ◌&&◌, nat_le, nat_lt, is_some, if◌then◌else◌}
use Rattle.std.specs.List.{list_all}
use Rattle.std.proofs.lemmas.Bool.Decides.{nat_tests}
use Rattle.ug_types.specs.declared.capabilities.Capabilities.{Capabilities}
use Rattle.ug_types.specs.declared.family.Family.{Family}
use Rattle.ug_types.specs.declared.family.Family.TheVariants.{V4, V6}
use Rattle.ug_types.specs.declared.key.Key.{Key}
use Rattle.ug_types.specs.Ip.{IpAddress, IpPrefix, width_of, same_family, cleared, bytes_for}
use Rattle.ug_types.specs.Attributes.{Attributes}
use Rattle.ug_types.specs.Messages.{Updates}
use Rattle.ug_message.specs.Spelling.{route, routes, attribute, attributes, attributes_but_next_hop, before_next_hop, after_next_hop, mp_reach_nlri, mp_unreach_nlri, ipv6_unicast, sixteen_bytes, optional}
use Rattle.ug_message.specs.Spellable.{is_number, is_prefix, is_route, is_key, can_be_spelled}
use Rattle.ug_message.specs.Texts.{framed, field, withdrawing, announcing, withdrawal, announcement, written}
use Rattle.ug_message.proofs.Heads.{length_attribute}
use Rattle.ug_message.proofs.AttributeParts.{length_attributes, length_next_hop, but_next_hop_are}
use Rattle.ug_message.proofs.OneText.{some_within}
use Rattle.ug_message.proofs.RoutesAgain.{length_route}
use Rattle.ug_message.proofs.WrittenAgain.{length_framed}
use Rattle.ug_message.proofs.Formed.{both, and}

-- ---- a route

width_small : (family : Family) → width_of family ≤ 128
width_small V4 = omega arith
width_small V6 = omega arith

prefix_short : (family : Family) (p : IpPrefix) → is_prefix family p ≡ true → p.len ≤ 128
prefix_short family p e =
    let first = both ((same_family p.family family && nat_le p.len (width_of family)) && (cleared p.len p.bits == p.bits)) (nat_lt p.bits 340282366920938463463374607431768211456) e in
    let second = both (same_family p.family family && nat_le p.len (width_of family)) (cleared p.len p.bits == p.bits) first.0 in
    let third = both (same_family p.family family) (nat_le p.len (width_of family)) second.0 in
    let small : p.len ≤ width_of family = (let is = third.1 in grind (arith, nat_tests)) in
    let width = width_small family in
    omega arith

key_short : (c : Capabilities) (key : Key) → is_key c key ≡ true → key.prefix.len ≤ 128
unfolding is_route
key_short c key e =
    let first = both (is_prefix c.family key.prefix && is_number key.id) _ e in
    let second = both (is_prefix c.family key.prefix) (is_number key.id) first.0 in
    prefix_short c.family key.prefix second.0

head_small : (b : Bool) → (if b then 5 else 1) ≤ 5
head_small true = omega arith
head_small false = omega arith

bytes_small : (len : ℕ) → len ≤ 128 → bytes_for len ≤ 16
bytes_small len le = omega arith

routes_one : (add_path : Bool) (key : Key) → routes add_path (key ∷ []) ≡ route add_path key ++ []
routes_one add_path key = refl

route_small : (c : Capabilities) (key : Key) → is_key c key ≡ true → length (routes c.add_path (key ∷ [])) ≤ 21
route_small c key e =
    let le = key_short c key e in
    let len = length_route c.add_path key le in
    let head = head_small c.add_path in
    let bytes = bytes_small key.prefix.len le in
    omega (arith, length-append (route c.add_path key) [])

-- ---- attributes

around_small : (n : ℕ) (b : Bool) → (if b then n + 4 else n + 3) ≤ n + 4
around_small n true = omega arith
around_small n false = omega arith

attribute_small : (flags type : ℕ) (value : List ℕ) → length (attribute flags type value) ≤ length value + 4
attribute_small flags type value =
    let len = length_attribute flags type value in
    let small = around_small (length value) (nat_lt 255 (length value)) in
    omega arith

-- the attributes have at most so many bytes, and those but the next hop
parts_small : (a : Attributes) → length (attributes a) ≤ 2067 → (length (attributes a) ≤ 2067) × (length (attributes_but_next_hop a) ≤ 2060)
parts_small a small =
    let parts = length_attributes a in
    let hop = length_next_hop a in
    let but = ap (λ (l : List ℕ). length l) (but_next_hop_are a) in
    let sum = length-append (before_next_hop a) (after_next_hop a) in
    (small, omega arith)

-- ---- messages

limit_some : (b : Bool) → 4096 ≤ (if b then 65535 else 4096)
limit_some true = omega arith
limit_some false = omega arith

field_long : (bytes : List ℕ) → length (field bytes) ≡ 2 + length bytes
field_long bytes = omega arith

unreach_small : (r : List ℕ) → length (mp_unreach_nlri r) ≤ length r + 7
unfolding mp_unreach_nlri
unreach_small r = let small = attribute_small optional 15 (ipv6_unicast ++ r) in omega arith

reach_small : (hop : IpAddress) (r : List ℕ) → length (mp_reach_nlri hop r) ≤ length r + 25
unfolding mp_reach_nlri
reach_small hop r =
    let small = attribute_small optional 14 (ipv6_unicast ++ 16 ∷ (sixteen_bytes hop ++ 0 ∷ r)) in
    let tail = length-append (sixteen_bytes hop) (0 ∷ r) in
    omega arith

withdrawing_small : (family : Family) (r : List ℕ) → length r ≤ 21 → length (framed 2 (withdrawing family r)) ≤ 4096
withdrawing_small V4 r few =
    let len = length_framed 2 (withdrawing V4 r) in
    let sum = length-append (field r) (field []) in
    let one = field_long r in
    let two = field_long [] in
    omega arith
withdrawing_small V6 r few =
    let len = length_framed 2 (withdrawing V6 r) in
    let sum = length-append (field []) (field (mp_unreach_nlri r)) in
    let one = field_long (mp_unreach_nlri r) in
    let two = field_long [] in
    let un = unreach_small r in
    omega arith

announcing_small : (family : Family) (a : Attributes) (r : List ℕ) → length (attributes a) ≤ 2067 → length r ≤ 21 → length (framed 2 (announcing family a r)) ≤ 4096
announcing_small V4 a r small few =
    let parts = parts_small a small in
    let whole = parts.0 in
    let len = length_framed 2 (announcing V4 a r) in
    let sum = length-append (field []) (field (attributes a) ++ r) in
    let rest = length-append (field (attributes a)) r in
    let one = field_long (attributes a) in
    let two = field_long [] in
    omega arith
announcing_small V6 a r small few =
    let parts = parts_small a small in
    let but = parts.1 in
    let len = length_framed 2 (announcing V6 a r) in
    let sum = length-append (field []) (field (attributes_but_next_hop a ++ mp_reach_nlri a.next_hop r)) in
    let one = field_long (attributes_but_next_hop a ++ mp_reach_nlri a.next_hop r) in
    let two = field_long [] in
    let rest = length-append (attributes_but_next_hop a) (mp_reach_nlri a.next_hop r) in
    let reach = reach_small a.next_hop r in
    omega arith

some_is : (o : Option (List ℕ)) (text : List ℕ) → o ≡ Some text → is_some o ≡ true
some_is o text e = rw e refl

-- a key of the session can be withdrawn in a message of its own
pub withdrawn-alone : (c : Capabilities) (key : Key) → is_key c key ≡ true → is_some (written c (Updates (record { withdrawn = key ∷ []; attrs = None; announced = [] }))) ≡ true
unfolding written withdrawal
withdrawn-alone c key e =
    let small = withdrawing_small c.family (routes c.add_path (key ∷ [])) (route_small c key e) in
    let limit = limit_some c.extended in
    some_is (written c (Updates (record { withdrawn = key ∷ []; attrs = None; announced = [] }))) (withdrawal c (key ∷ []))
    (some_within c (list_all (is_key c) (key ∷ [])) (withdrawal c (key ∷ [])) (and (is_key c key) true e refl) (omega arith))

-- and announced, where its attributes are not too long
pub announced-alone : (c : Capabilities) (key : Key) (a : Attributes) → is_key c key ≡ true → can_be_spelled c.family a ≡ true → length (attributes a) ≤ 2067
    → is_some (written c (Updates (record { withdrawn = []; attrs = Some a; announced = key ∷ [] }))) ≡ true
unfolding written announcement
announced-alone c key a e spelled short =
    let small = announcing_small c.family a (routes c.add_path (key ∷ [])) short (route_small c key e) in
    let limit = limit_some c.extended in
    some_is (written c (Updates (record { withdrawn = []; attrs = Some a; announced = key ∷ [] }))) (announcement c a (key ∷ []))
    (some_within c (list_all (is_key c) (key ∷ []) && can_be_spelled c.family a) (announcement c a (key ∷ []))
    (and (list_all (is_key c) (key ∷ [])) (can_be_spelled c.family a) (and (is_key c key) true e refl) spelled) (omega arith))
