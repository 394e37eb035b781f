-- An attribute is its head and its value.
use Rattle.std.proofs.Common.{◌≡◌, ℕ, ◌+◌, ◌*◌, Bool, true, false, nat_lt, List, [], ◌∷◌, ◌++◌, length, refl, sym, ap, ◌∙◌, arith, length-append, append_assoc}
use Rattle.std.specs.Prelude.{if◌then◌else◌}
use Rattle.std.specs.Int.{w16, to_be_bytes}
use Rattle.ug_types.specs.Ip.{IpAddress}
use Rattle.ug_message.specs.Spelling.{attribute, numbers, optional, ipv6_unicast, sixteen_bytes, mp_reach_nlri, mp_unreach_nlri}
use Rattle.ug_message.specs.Heads.{head, size_around, reach_head, unreach_head}

split : (long : Bool) (flags type len : ℕ) (value : List ℕ)
    → (if long then (flags + 16) ∷ type ∷ (to_be_bytes w16 len ++ value) else flags ∷ type ∷ len ∷ value)
    ≡ (if long then (flags + 16) ∷ type ∷ to_be_bytes w16 len else flags ∷ type ∷ len ∷ []) ++ value
split true flags type len value = refl
split false flags type len value = refl

pub attribute_is : (flags type : ℕ) (value : List ℕ) → attribute flags type value ≡ head flags type (length value) ++ value
unfolding attribute head
attribute_is flags type value = split (nat_lt 255 (length value)) flags type (length value) value

head_length : (long : Bool) (flags type len : ℕ)
    → length (if long then (flags + 16) ∷ type ∷ to_be_bytes w16 len else flags ∷ type ∷ len ∷ []) + len ≡ (if long then len + 4 else len + 3)
head_length true flags type len = omega arith
head_length false flags type len = omega arith

pub length_head : (flags type len : ℕ) → length (head flags type len) + len ≡ size_around len
unfolding head
length_head flags type len = head_length (nat_lt 255 len) flags type len

pub length_attribute : (flags type : ℕ) (value : List ℕ) → length (attribute flags type value) ≡ size_around (length value)
length_attribute flags type value =
    ap (λ (x : List ℕ). length x) (attribute_is flags type value) ∙ length-append (head flags type (length value)) value ∙ length_head flags type (length value)

pub length_numbers : (ns : List ℕ) → length (numbers ns) ≡ 4 * length ns
length_numbers [] = refl
length_numbers (n ∷ ns) = omega (arith, length_numbers ns)

pub length_parts : (flags type : ℕ) (value : List ℕ) → length (attribute flags type value) ≡ length (head flags type (length value)) + length value
length_parts flags type value =
    ap (λ (x : List ℕ). length x) (attribute_is flags type value) ∙ length-append (head flags type (length value)) value

-- an attribute as its head and its value
pub ruleset attribute_steps = (attribute_is, length_parts, length_numbers, append_assoc, length-append)

-- how long an attribute is
pub ruleset size_steps = (length_attribute, length_numbers)

-- what stands before the routes, and the routes
pub reach_is : (next_hop : IpAddress) (n : ℕ) (routes : List ℕ) → length routes ≡ n → reach_head next_hop n ++ routes ≡ mp_reach_nlri next_hop routes
unfolding reach_head mp_reach_nlri
reach_is next_hop n routes e =
    let value = ipv6_unicast ++ 16 ∷ (sixteen_bytes next_hop ++ 0 ∷ routes) in
    let size : length value ≡ 21 + n = omega (arith, e) in
    let front = head optional 14 (21 + n) in
    let parts : (front ++ ipv6_unicast ++ 16 ∷ [] ++ sixteen_bytes next_hop ++ 0 ∷ []) ++ routes ≡ front ++ value = simp (append_assoc) in
    parts ∙ ap (λ (k : ℕ). head optional 14 k ++ value) (sym size) ∙ sym (attribute_is optional 14 value)

pub unreach_is : (n : ℕ) (routes : List ℕ) → length routes ≡ n → unreach_head n ++ routes ≡ mp_unreach_nlri routes
unfolding unreach_head mp_unreach_nlri
unreach_is n routes e =
    let value = ipv6_unicast ++ routes in
    let size : length value ≡ 3 + n = omega (arith, e) in
    append_assoc (head optional 15 (3 + n)) ipv6_unicast routes ∙ ap (λ (k : ℕ). head optional 15 k ++ value) (sym size) ∙ sym (attribute_is optional 15 value)

-- ---- the attributes in which IPv6 routes stand

pub length_reach : (next_hop : IpAddress) (routes : List ℕ) → length (mp_reach_nlri next_hop routes) ≡ size_around (21 + length routes)
unfolding mp_reach_nlri
length_reach next_hop routes =
    let value = ipv6_unicast ++ 16 ∷ (sixteen_bytes next_hop ++ 0 ∷ routes) in
    let size : length value ≡ 21 + length routes = omega arith in
    length_attribute optional 14 value ∙ ap size_around size

pub length_unreach : (routes : List ℕ) → length (mp_unreach_nlri routes) ≡ size_around (3 + length routes)
unfolding mp_unreach_nlri
length_unreach routes =
    let size : length (ipv6_unicast ++ routes) ≡ 3 + length routes = omega arith in
    length_attribute optional 15 (ipv6_unicast ++ routes) ∙ ap size_around size
