-- Values as parts of all attributes.
use Rattle.std.proofs.Common.{◌≡◌, ℕ, zero, suc, ◌+◌, ◌-◌, ◌≤◌, Bool, true, false, nat_lt, List, [], ◌∷◌, ◌++◌, length, take, drop, Result, Ok, Err, refl, sym, ap, ◌∙◌, arith, append_assoc}
use Rattle.std.specs.Prelude.{if◌then◌else◌, slice_index}
use Rattle.std.proofs.lemmas.List.{drop-drop, drop-take, length-drop, length-take-le}
use Rattle.ug_message.specs.Attribute.{Attribute, head_size, value_size, attribute_at}
use Rattle.ug_types.specs.Ip.{IpAddress}
use Rattle.ug_message.specs.Attribute.{optional}
use Rattle.ug_message.specs.Values.{ipv6_unicast, sixteen_bytes}
use Rattle.ug_message.specs.Heads.{head, reach_head}
use Rattle.ug_update.specs.AttrsViews.{StandsAt}

-- as many bytes as were taken
taken_again : (n : ℕ) (xs : List ℕ) → take (length (take n xs)) xs ≡ take n xs
taken_again zero xs = refl
taken_again (suc n) [] = refl
taken_again (suc n) (x ∷ xs) = ap (λ (ys : List ℕ). x ∷ ys) (taken_again n xs)

abbrev found_by : Bool → Bool → Attribute → Result Attribute ℕ
found_by one two x = if one then Err 1 else if two then Err 1 else Ok x

is_same : (one two : Bool) (x a : Attribute) → found_by one two x ≡ Ok a → x ≡ a
is_same true two x a e = absurd cc
is_same false true x a e = absurd cc
is_same false false x a e = cc

pub stands : (place : ℕ) (all : List ℕ) (a : Attribute) → attribute_at place (drop place all) ≡ Ok a → StandsAt all a.place a.value
unfolding attribute_at
stands place all a e =
    let bytes = drop place all in
    let head = head_size bytes in
    let size = value_size bytes in
    let made : Attribute = record { flags = slice_index bytes 0; type = slice_index bytes 1; place = place + head; value = take size (drop head bytes) } in
    let is = is_same (nat_lt (length bytes) head) (nat_lt (length bytes) (head + size)) made a e in
    let there : drop head (drop place all) ≡ drop (place + head) all = drop-drop head place all in
    let value : made.value ≡ take (length made.value) (drop (place + head) all) =
    sym (taken_again size (drop head bytes)) ∙ ap (λ (ys : List ℕ). take (length made.value) ys) there in
    sym (ap (λ (x : Attribute). x.value) is) ∙ value ∙ ap (λ (x : Attribute). take (length x.value) (drop x.place all)) is

-- behind some of the bytes
pub behind : (k place : ℕ) (all value : List ℕ) → k ≤ length value → StandsAt all place value → take (length value - k) (drop (place + k) all) ≡ drop k value
behind k place all value le e =
    let parts : length value ≡ k + (length value - k) = omega arith in
    sym
    (ap (λ (ys : List ℕ). drop k ys) e ∙ ap (λ (n : ℕ). drop k (take n (drop place all))) parts ∙ drop-take k (length value - k) (drop place all)
    ∙ ap (λ (ys : List ℕ). take (length value - k) ys) (drop-drop k place all))

-- how many bytes there are
pub length_part : (place size : ℕ) (all : List ℕ) → place + size ≤ length all → length (take size (drop place all)) ≡ size
length_part place size all le = length-take-le size (drop place all) (omega (arith, length-drop place all))

-- ---- what was put piece by piece

regrouped : (old h u l s z : List ℕ) → ((((old ++ h) ++ u) ++ l) ++ s) ++ z ≡ old ++ (h ++ u ++ l ++ s ++ z)
regrouped old h u l s z = simp (append_assoc)

pub reach_joined : (old one two three four five bytes : List ℕ) (next_hop : IpAddress) (n : ℕ) → one ≡ old ++ head optional 14 (21 + n) → two ≡ one ++ ipv6_unicast → three ≡ two ++ 16 ∷ [] → four ≡ three ++ bytes
    → five ≡ four ++ 0 ∷ [] → bytes ≡ sixteen_bytes next_hop → five ≡ old ++ reach_head next_hop n
unfolding reach_head
reach_joined old one two three four five bytes next_hop n e1 e2 e3 e4 e5 is =
    e5 ∙ ap (λ (x : List ℕ). x ++ 0 ∷ []) (e4 ∙ ap (λ (x : List ℕ). x ++ bytes) (e3 ∙ ap (λ (x : List ℕ). x ++ 16 ∷ []) (e2 ∙ ap (λ (x : List ℕ). x ++ ipv6_unicast) e1)))
    ∙ regrouped old (head optional 14 (21 + n)) ipv6_unicast (16 ∷ []) bytes (0 ∷ [])
    ∙ ap (λ (b : List ℕ). old ++ (head optional 14 (21 + n) ++ ipv6_unicast ++ 16 ∷ [] ++ b ++ 0 ∷ [])) is
