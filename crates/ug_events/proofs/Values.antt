-- Values that a text spells are in range: numbers have 32 bits, and addresses no bit past their family's width.
use Rattle.std.proofs.Common.{◌≡◌, ℕ, zero, suc, ◌+◌, ◌-◌, ◌*◌, ◌/◌, ◌^◌, ◌<◌, ◌≤◌, Bool, true, false, List, [], ◌∷◌, length, Option, Some, None, refl, ap, sym, ◌∙◌, subst, arith, nat_lt}
use Rattle.std.specs.Prelude.{◌==◌, ◌&&◌, nat_le, slice_range, codes, if◌then◌else◌}
use Rattle.std.specs.List.{list_all}
use Rattle.std.specs.Int.{w32, from_be_bytes}
use Rattle.std.proofs.lemmas.Bool.Decides.{nat_tests}
use Rattle.std.proofs.lemmas.Grind.{pow_more}
use Rattle.std.proofs.lemmas.Nat.{pow_pos}
use Rattle.std.proofs.Math.Nat.{mul-div_cancel, div-mul-le_self, pow-le-pow_right}
use Rattle.ug_types.specs.declared.family.Family.{Family}
use Rattle.ug_types.specs.declared.family.Family.TheVariants.{V4, V6}
use Rattle.ug_types.specs.declared.attrs.Aggregator.{Aggregator}
use Rattle.ug_types.specs.Ip.{IpAddress, IpPrefix, width_of, same_family, cleared, prefix_of, ipv4}
use Rattle.ug_types.specs.Attributes.{PathSegment}
use Rattle.ug_types.specs.Bytes.{same_bytes}
use Rattle.ug_text.specs.declared.list_reader.Spelled.{Spelled}
use Rattle.ug_text.specs.declared.list_reader.Spelled.TheVariants.{Plain, Community, Address}
use Rattle.ug_text.specs.Cutting.{◌>>=◌, cut_at, pieces, each}
use Rattle.ug_text.specs.Numbers.{decimal_digit, hexadecimal_digit, digits_from, at_most, has_digits, number, any_number, where_positive, positive_number, community}
use Rattle.ug_text.specs.Addresses.{ipv4_number, ipv4_address, Groups, no_groups, with_group, group, groups_from, groups_in, with_zeros, where_eight, cut_at_gap, filled, number_of, around_gap, ipv6_number, bits_in, address_in, length_in, prefix_in, aggregator}
use Rattle.ug_text.specs.Paths.{number_as, numbers_as, is_in_braces, segment_from, segment, path}
use Rattle.ug_message.specs.Spellable.{is_number, is_prefix, is_address, is_aggregator, has_numbers}
use Rattle.ug_message.proofs.Formed.{and}

some_or : {A : Type 0} → A → Option A → A
some_or d (Some x) = x
some_or d None = d

pub some_is : {A : Type 0} (x y : A) → Some x ≡ Some y → x ≡ y
unfolding some_or
some_is x y e = ap (some_or x) e

bound_option : {A B : Type 0} (o : Option A) (f : A → Option B) (y : B) → (o >>= f) ≡ Some y → (x : A) × (o ≡ Some x) × (f x ≡ Some y)
bound_option (Some x) f y h = (x, refl, h)
bound_option None f y h = absurd cc

-- ---- numbers

pub number_fits : (n : ℕ) → n ≤ 4294967295 → is_number n ≡ true
number_fits n le = grind (arith, nat_tests)

below : (n m : ℕ) → nat_lt n m ≡ true → n < m
below n m e = grind (arith, nat_tests)

is_below : (n m : ℕ) → n < m → nat_lt n m ≡ true
is_below n m lt = grind (arith, nat_tests)

up_to : (n m : ℕ) → nat_le n m ≡ true → n ≤ m
up_to n m e = grind (arith, nat_tests)

same_number : (n m : ℕ) → n ≡ m → (n == m) ≡ true
same_number n m e = grind (arith, nat_tests)

within : (most : ℕ) (o : Option ℕ) (n : ℕ) → at_most most o ≡ Some n → n ≤ most
within most None n e = absurd cc
within most (Some m) n e = one (nat_le m most) refl e
  where
    one : (b : Bool) → nat_le m most ≡ b → (if b then Some m else None) ≡ Some n → n ≤ most
    one true is e = subst (λ (x : ℕ). x ≤ most) (some_is m n e) (up_to m most is)
    one false is e = absurd cc

number_within : (digits most : ℕ) (text : List ℕ) (n : ℕ) → number digits most text ≡ Some n → n ≤ most
number_within digits most text n e = one (has_digits digits text) e
  where
    one : (b : Bool) → (if b then at_most most (digits_from decimal_digit 10 0 text) else None) ≡ Some n → n ≤ most
    one true e = within most (digits_from decimal_digit 10 0 text) n e
    one false e = absurd cc

pub any_number_fits : (text : List ℕ) (n : ℕ) → any_number text ≡ Some n → is_number n ≡ true
any_number_fits text n e = number_fits n (number_within 10 4294967295 text n e)

-- one that isn't 0
pub positive_fits : (text : List ℕ) (n : ℕ) → positive_number text ≡ Some n → (0 < n) × (is_number n ≡ true)
positive_fits text n e =
    let m = bound_option (any_number text) where_positive n e in
    one m.0 (any_number_fits text m.0 m.1) (nat_lt 0 m.0) refl m.2
  where
    one : (m : ℕ) → is_number m ≡ true → (b : Bool) → nat_lt 0 m ≡ b → (if b then Some m else None) ≡ Some n → (0 < n) × (is_number n ≡ true)
    one m fits true is e = subst (λ (x : ℕ). (0 < x) × (is_number x ≡ true)) (some_is m n e) (below 0 m is, fits)
    one m fits false is e = absurd cc

pub community_fits : (text : List ℕ) (n : ℕ) → community text ≡ Some n → is_number n ≡ true
unfolding community
community_fits text n e =
    let halves = bound_option (cut_at 58 text) _ n e in
    let upper = bound_option (number 5 65535 halves.0.0) _ n halves.2 in
    let lower = bound_option (number 5 65535 halves.0.1) _ n upper.2 in
    let high : upper.0 ≤ 65535 = number_within 5 65535 halves.0.0 upper.0 upper.1 in
    let low : lower.0 ≤ 65535 = number_within 5 65535 halves.0.1 lower.0 lower.1 in
    subst (λ (x : ℕ). is_number x ≡ true) (some_is (upper.0 * 65536 + lower.0) n lower.2) (number_fits (upper.0 * 65536 + lower.0) (omega arith))

-- ---- addresses of IPv4

four_bytes : (a b c d : ℕ) → a ≤ 255 → b ≤ 255 → c ≤ 255 → d ≤ 255 → from_be_bytes w32 (a ∷ b ∷ c ∷ d ∷ []) ≤ 4294967295
four_bytes a b c d ha hb hc hd = omega arith

pub ipv4_number_within : (text : List ℕ) (n : ℕ) → ipv4_number text ≡ Some n → n ≤ 4294967295
unfolding ipv4_number
ipv4_number_within text n e =
    let first = bound_option (cut_at 46 text) _ n e in
    let second = bound_option (cut_at 46 first.0.1) _ n first.2 in
    let third = bound_option (cut_at 46 second.0.1) _ n second.2 in
    let a = bound_option (number 3 255 first.0.0) _ n third.2 in
    let b = bound_option (number 3 255 second.0.0) _ n a.2 in
    let c = bound_option (number 3 255 third.0.0) _ n b.2 in
    let d = bound_option (number 3 255 third.0.1) _ n c.2 in
    subst (λ (x : ℕ). x ≤ 4294967295) (some_is (from_be_bytes w32 (a.0 ∷ b.0 ∷ c.0 ∷ d.0 ∷ [])) n d.2)
    (four_bytes a.0 b.0 c.0 d.0 (number_within 3 255 first.0.0 a.0 a.1) (number_within 3 255 second.0.0 b.0 b.1) (number_within 3 255 third.0.0 c.0 c.1) (number_within 3 255 third.0.1 d.0 d.1))

-- a multiple is cleared already
multiple : (n k : ℕ) → 0 < k → n * k / k * k ≡ n * k
multiple n k pos = ap (λ (q : ℕ). q * k) (mul-div_cancel n pos)

-- an address: the bits that are left aligned, and none past the width
abbrev pub IsOf : Family → ℕ → Type 0
IsOf family bits = (is_address family (record { family = family; bits = bits }) ≡ true) × (bits < 2 ^ 128)

aligned : (n : ℕ) → n ≤ 4294967295 → n * 2 ^ 96 < 2 ^ 128
aligned n le = omega arith

pub ipv4_is_of : (n : ℕ) → n ≤ 4294967295 → IsOf V4 (n * 2 ^ 96)
ipv4_is_of n le =
    let lt : n * 2 ^ 96 < 2 ^ 128 = aligned n le in
    (and ((n * 2 ^ 96) / 2 ^ 96 * 2 ^ 96 == n * 2 ^ 96) (nat_lt (n * 2 ^ 96) (2 ^ 128)) (same_number _ _ (multiple n (2 ^ 96) (pow_pos 96))) (is_below (n * 2 ^ 96) (2 ^ 128) lt), lt)

pub ipv4_fits : (text : List ℕ) (a : IpAddress) → ipv4_address text ≡ Some a → is_address V4 a ≡ true
ipv4_fits text a e =
    let n = bound_option (ipv4_number text) (λ n. Some (ipv4 n)) a e in
    subst (λ (x : IpAddress). is_address V4 x ≡ true) (some_is (ipv4 n.0) a n.2) (ipv4_is_of n.0 (ipv4_number_within text n.0 n.1)).0

-- ---- addresses of IPv6

-- at most eight groups, and a number of so many groups of sixteen bits
abbrev AreGroups : Groups → Type 0
AreGroups g = (g.count ≤ 8) × (g.number < 65536 ^ g.count)

digit_within : (b d : ℕ) → hexadecimal_digit b ≡ Some d → d < 16
digit_within b d e = one (nat_le 48 b) (nat_le b 57) (nat_le 97 b) (nat_le b 102) (nat_le 65 b) (nat_le b 70) refl refl refl e
  where
    one : (p q r s t u : Bool) → nat_le b 57 ≡ q → nat_le b 102 ≡ s → nat_le b 70 ≡ u
        → (if p && q then Some (b - 48) else (if r && s then Some (b - 87) else (if t && u then Some (b - 55) else None))) ≡ Some d → d < 16
    one true true r s t u hq hs hu e =
        let le : b ≤ 57 = up_to b 57 hq in
        subst (λ (x : ℕ). x < 16) (some_is (b - 48) d e) (omega arith)
    one true false true true t u hq hs hu e =
        let le : b ≤ 102 = up_to b 102 hs in
        subst (λ (x : ℕ). x < 16) (some_is (b - 87) d e) (omega arith)
    one false q true true t u hq hs hu e =
        let le : b ≤ 102 = up_to b 102 hs in
        subst (λ (x : ℕ). x < 16) (some_is (b - 87) d e) (omega arith)
    one true false true false true true hq hs hu e =
        let le : b ≤ 70 = up_to b 70 hu in
        subst (λ (x : ℕ). x < 16) (some_is (b - 55) d e) (omega arith)
    one true false false s true true hq hs hu e =
        let le : b ≤ 70 = up_to b 70 hu in
        subst (λ (x : ℕ). x < 16) (some_is (b - 55) d e) (omega arith)
    one false q true false true true hq hs hu e =
        let le : b ≤ 70 = up_to b 70 hu in
        subst (λ (x : ℕ). x < 16) (some_is (b - 55) d e) (omega arith)
    one false q false s true true hq hs hu e =
        let le : b ≤ 70 = up_to b 70 hu in
        subst (λ (x : ℕ). x < 16) (some_is (b - 55) d e) (omega arith)
    one true false true false true false hq hs hu e = absurd cc
    one true false true false false u hq hs hu e = absurd cc
    one true false false s true false hq hs hu e = absurd cc
    one true false false s false u hq hs hu e = absurd cc
    one false q true false true false hq hs hu e = absurd cc
    one false q true false false u hq hs hu e = absurd cc
    one false q false s true false hq hs hu e = absurd cc
    one false q false s false u hq hs hu e = absurd cc

one_power : (b k : ℕ) → b ^ suc k ≡ b ^ k * b
one_power b k =
    let same : suc k ≡ k + 1 = omega arith in
    ap (λ (j : ℕ). b ^ j) same ∙ pow_more b k

by_sixteen : (n m p q : ℕ) → n < m * 16 * p → q ≡ p * 16 → n < m * q
by_sixteen n m p q lt e = subst (λ (x : ℕ). n < m * x) (sym e) (omega arith)

digits_within : (bytes : List ℕ) (v m n : ℕ) → v < m → digits_from hexadecimal_digit 16 v bytes ≡ Some n → n < m * 16 ^ length bytes
unfolding digits_from
digits_within [] v m n lt e = subst (λ (x : ℕ). x < m * 1) (some_is v n e) (omega arith)
digits_within (b ∷ bytes) v m n lt e =
    let d = bound_option (hexadecimal_digit b) (λ d. digits_from hexadecimal_digit 16 (v * 16 + d) bytes) n e in
    let small : d.0 < 16 = digit_within b d.0 d.1 in
    let next : n < m * 16 * 16 ^ length bytes = digits_within bytes (v * 16 + d.0) (m * 16) n (omega arith) d.2 in
    by_sixteen n m (16 ^ length bytes) (16 ^ length (b ∷ bytes)) next (one_power 16 (length bytes))

group_within : (text : List ℕ) (n : ℕ) → group text ≡ Some n → n < 65536
group_within text n e = one (nat_lt 0 (length text)) (nat_le (length text) 4) refl e
  where
    one : (p q : Bool) → nat_le (length text) 4 ≡ q → (if p && q then digits_from hexadecimal_digit 16 0 text else None) ≡ Some n → n < 65536
    one true true is e =
        let first : n < 1 * 16 ^ length text = digits_within text 0 1 n (omega arith) e in
        let le : length text ≤ 4 = up_to (length text) 4 is in
        let most : 16 ^ length text ≤ 16 ^ 4 = pow-le-pow_right (omega arith) le in
        omega arith
    one true false is e = absurd cc
    one false q is e = absurd cc

one_more : (n g p : ℕ) → n < p → g < 65536 → n * 65536 + g < p * 65536
one_more n g p lt small = omega arith

with_group_fits : (g : Groups) (n : ℕ) (h : Groups) → n < 65536 → AreGroups g → with_group g n ≡ Some h → AreGroups h
with_group_fits g n h small are e = one (nat_lt g.count 8) refl e
  where
    one : (b : Bool) → nat_lt g.count 8 ≡ b → (if b then Some (record { count = g.count + 1; number = g.number * 65536 + n }) else None) ≡ Some h → AreGroups h
    one true is e =
        let few : g.count < 8 = below g.count 8 is in
        subst AreGroups (some_is (record { count = g.count + 1; number = g.number * 65536 + n }) h e)
        (omega arith, subst (λ (p : ℕ). g.number * 65536 + n < p) (sym (pow_more 65536 g.count)) (one_more g.number n (65536 ^ g.count) are.1 small))
    one false is e = absurd cc

groups_from_fit : (texts : List (List ℕ)) (g h : Groups) → AreGroups g → groups_from g texts ≡ Some h → AreGroups h
unfolding groups_from
groups_from_fit [] g h are e = subst AreGroups (some_is g h e) are
groups_from_fit (text ∷ texts) g h are e =
    let next = bound_option (group text) (λ next. with_group g next >>= λ more. groups_from more texts) h e in
    let more = bound_option (with_group g next.0) (λ more. groups_from more texts) h next.2 in
    groups_from_fit texts more.0 h (with_group_fits g next.0 more.0 (group_within text next.0 next.1) are more.1) more.2

groups_in_fit : (text : List ℕ) (g h : Groups) → AreGroups g → groups_in g text ≡ Some h → AreGroups h
groups_in_fit [] g h are e = subst AreGroups (some_is g h e) are
groups_in_fit (b ∷ text) g h are e = groups_from_fit (pieces 58 (b ∷ text)) g h are e

with_zeros_fit : (count : ℕ) (g h : Groups) → AreGroups g → with_zeros count g ≡ Some h → AreGroups h
unfolding with_zeros
with_zeros_fit zero g h are e = subst AreGroups (some_is g h e) are
with_zeros_fit (suc n) g h are e =
    let more = bound_option (with_group g 0) (λ more. with_zeros n more) h e in
    with_zeros_fit n more.0 h (with_group_fits g 0 more.0 (omega arith) are more.1) more.2

none_yet : AreGroups no_groups
none_yet = (omega arith, omega arith)

at_most_eight : (g : Groups) → AreGroups g → g.number < 2 ^ 128
at_most_eight g are =
    let most : 65536 ^ g.count ≤ 65536 ^ 8 = pow-le-pow_right (omega arith) are.0 in
    let lt = are.1 in
    omega arith

filled_fits : (count : ℕ) (front : Groups) (behind : List ℕ) (o : Option Groups) (n : ℕ) → AreGroups front → filled count front behind ≡ o → number_of o ≡ Some n → n < 2 ^ 128
filled_fits count front behind None n are is e = absurd cc
filled_fits count front behind (Some g) n are is e =
    let more = bound_option (with_zeros count front) (λ groups. groups_in groups behind) g is in
    subst (λ (x : ℕ). x < 2 ^ 128) (some_is g.number n e) (at_most_eight g (groups_in_fit behind more.0 g (with_zeros_fit count front more.0 are more.1) more.2))

around_gap_fits : (before behind : List ℕ) (n : ℕ) → around_gap before behind ≡ Some n → n < 2 ^ 128
unfolding around_gap
around_gap_fits before behind n e =
    let front = bound_option (groups_in no_groups before) _ n e in
    let back = bound_option (groups_in no_groups behind) _ n front.2 in
    one front.0 back.0 (groups_in_fit before no_groups front.0 none_yet front.1) (nat_lt (front.0.count + back.0.count) 8) back.2
  where
    one : (front back : Groups) → AreGroups front → (b : Bool) → (if b then number_of (filled (8 - (front.count + back.count)) front behind) else None) ≡ Some n → n < 2 ^ 128
    one front back are true e = filled_fits (8 - (front.count + back.count)) front behind (filled (8 - (front.count + back.count)) front behind) n are refl e
    one front back are false e = absurd cc

where_eight_fits : (g : Groups) (n : ℕ) → AreGroups g → where_eight g ≡ Some n → n < 2 ^ 128
where_eight_fits g n are e = one (g.count == 8) e
  where
    one : (b : Bool) → (if b then Some g.number else None) ≡ Some n → n < 2 ^ 128
    one true e = subst (λ (x : ℕ). x < 2 ^ 128) (some_is g.number n e) (at_most_eight g are)
    one false e = absurd cc

pub ipv6_number_within : (text : List ℕ) (n : ℕ) → ipv6_number text ≡ Some n → n < 2 ^ 128
unfolding ipv6_number
ipv6_number_within text n e = one (cut_at_gap text) e
  where
    one : (o : Option (List ℕ × List ℕ)) → (elim o [ None ↦ groups_in no_groups text >>= where_eight | Some parts ↦ around_gap parts.0 parts.1 ]) ≡ Some n → n < 2 ^ 128
    one None e =
        let g = bound_option (groups_in no_groups text) where_eight n e in
        where_eight_fits g.0 n (groups_in_fit text no_groups g.0 none_yet g.1) g.2
    one (Some parts) e = around_gap_fits parts.0 parts.1 n e

-- ---- either family

whole : (n : ℕ) → n / 1 * 1 ≡ n
whole n = omega arith

pub bits_fit : (family : Family) (text : List ℕ) (n : ℕ) → bits_in family text ≡ Some n → IsOf family n
bits_fit V4 text n e =
    let m = bound_option (ipv4_number text) (λ m. Some (m * 2 ^ 96)) n e in
    subst (IsOf V4) (some_is (m.0 * 2 ^ 96) n m.2) (ipv4_is_of m.0 (ipv4_number_within text m.0 m.1))
bits_fit V6 text n e =
    let lt : n < 2 ^ 128 = ipv6_number_within text n e in
    (and (n / 1 * 1 == n) (nat_lt n (2 ^ 128)) (same_number (n / 1 * 1) n (whole n)) (is_below n (2 ^ 128) lt), lt)

pub address_fits : (family : Family) (text : List ℕ) (a : IpAddress) → address_in family text ≡ Some a → is_address family a ≡ true
address_fits family text a e =
    let n = bound_option (bits_in family text) (λ bits. Some (record { family = family; bits = bits })) a e in
    subst (λ (x : IpAddress). is_address family x ≡ true) (some_is (record { family = family; bits = n.0 }) a n.2) (bits_fit family text n.0 n.1).0

same_itself : (family : Family) → same_family family family ≡ true
same_itself V4 = refl
same_itself V6 = refl

of_length : (family : Family) (bits len : ℕ) (p : IpPrefix) → bits < 2 ^ 128 → prefix_of family bits len ≡ Some p → is_prefix p.family p ≡ true
of_length family bits len p lt e = one (nat_le len (width_of family)) refl e
  where
    one : (b : Bool) → nat_le len (width_of family) ≡ b → (if b then Some (record { family = family; bits = cleared len bits; len = len }) else None) ≡ Some p → is_prefix p.family p ≡ true
    one true is e =
        let less : cleared len bits ≤ bits = div-mul-le_self bits (2 ^ (128 - len)) in
        let again : cleared len (cleared len bits) ≡ cleared len bits = multiple (bits / 2 ^ (128 - len)) (2 ^ (128 - len)) (pow_pos (128 - len)) in
        let first = and (same_family family family) (nat_le len (width_of family)) (same_itself family) is in
        let second = and (same_family family family && nat_le len (width_of family)) (cleared len (cleared len bits) == cleared len bits) first (same_number _ _ again) in
        subst (λ (x : IpPrefix). is_prefix x.family x ≡ true) (some_is (record { family = family; bits = cleared len bits; len = len }) p e)
        (and (same_family family family && nat_le len (width_of family) && (cleared len (cleared len bits) == cleared len bits)) (nat_lt (cleared len bits) (2 ^ 128)) second (is_below (cleared len bits) (2 ^ 128) (omega arith)))
    one false is e = absurd cc

pub prefix_fits : (family : Family) (text : List ℕ) (p : IpPrefix) → prefix_in family text ≡ Some p → is_prefix p.family p ≡ true
unfolding prefix_in
prefix_fits family text p e =
    let parts = bound_option (cut_at 47 text) (λ parts. bits_in family parts.0 >>= λ bits. length_in family parts.1 >>= λ len. prefix_of family bits len) p e in
    let bits = bound_option (bits_in family parts.0.0) (λ bits. length_in family parts.0.1 >>= λ len. prefix_of family bits len) p parts.2 in
    let len = bound_option (length_in family parts.0.1) (λ len. prefix_of family bits.0 len) p bits.2 in
    of_length family bits.0 len.0 p (bits_fit family parts.0.0 bits.0 bits.1).1 len.2

pub aggregator_fits : (text : List ℕ) (g : Aggregator) → aggregator text ≡ Some g → is_aggregator g ≡ true
unfolding aggregator
aggregator_fits text g e =
    let parts = bound_option (cut_at 58 text) _ g e in
    let asn = bound_option (any_number parts.0.0) _ g parts.2 in
    let addr = bound_option (ipv4_address parts.0.1) _ g asn.2 in
    subst (λ (x : Aggregator). is_aggregator x ≡ true) (some_is (record { asn = asn.0; addr = addr.0 }) g addr.2)
    (and (is_number asn.0) (is_address V4 addr.0) (any_number_fits parts.0.0 asn.0 asn.1) (ipv4_fits parts.0.1 addr.0 addr.1))

-- ---- lists

each_fits : {A : Type 0} (read : List ℕ → Option A) (p : A → Bool) → ((text : List ℕ) (x : A) → read text ≡ Some x → p x ≡ true)
    → (texts : List (List ℕ)) (xs : List A) → each read texts ≡ Some xs → list_all p xs ≡ true
each_fits read p good [] xs e = subst (λ (ys : List _). list_all p ys ≡ true) (some_is [] xs e) refl
each_fits read p good (text ∷ texts) xs e =
    let x = bound_option (read text) (λ x. each read texts >>= λ more. Some (x ∷ more)) xs e in
    let more = bound_option (each read texts) (λ more. Some (x.0 ∷ more)) xs x.2 in
    subst (λ (ys : List _). list_all p ys ≡ true) (some_is (x.0 ∷ more.0) xs more.2) (and (p x.0) (list_all p more.0) (good text x.0 x.1) (each_fits read p good texts more.0 more.1))

number_as_fits : (spelled : Spelled) (text : List ℕ) (n : ℕ) → number_as spelled text ≡ Some n → is_number n ≡ true
number_as_fits Plain text n e = any_number_fits text n e
number_as_fits Community text n e = community_fits text n e
number_as_fits Address text n e = number_fits n (ipv4_number_within text n e)

pub numbers_as_fit : (spelled : Spelled) (text ns : List ℕ) → numbers_as spelled text ≡ Some ns → list_all is_number ns ≡ true
numbers_as_fit spelled text ns e = each_fits (number_as spelled) is_number (number_as_fits spelled) (pieces 44 text) ns e

segment_from_fits : (is_set : Bool) (text : List ℕ) (o : Option (List ℕ)) (s : PathSegment) → numbers_as Plain text ≡ o → segment_from is_set o ≡ Some s → has_numbers s ≡ true
segment_from_fits is_set text None s is e = absurd cc
segment_from_fits is_set text (Some ns) s is e = subst (λ (x : PathSegment). has_numbers x ≡ true) (some_is (record { is_set = is_set; numbers = ns }) s e) (numbers_as_fit Plain text ns is)

segment_fits : (text : List ℕ) (s : PathSegment) → segment text ≡ Some s → has_numbers s ≡ true
unfolding segment
segment_fits text s e = one (is_in_braces text) e
  where
    one : (b : Bool) → (if b then segment_from true (numbers_as Plain (slice_range text 1 (length text - 1))) else segment_from false (numbers_as Plain text)) ≡ Some s → has_numbers s ≡ true
    one true e = segment_from_fits true (slice_range text 1 (length text - 1)) _ s refl e
    one false e = segment_from_fits false text _ s refl e

pub path_fits : (text : List ℕ) (p : List PathSegment) → path text ≡ Some p → list_all has_numbers p ≡ true
unfolding path
path_fits text p e = one (same_bytes text (codes "-")) e
  where
    one : (b : Bool) → (if b then Some [] else each segment (pieces 59 text)) ≡ Some p → list_all has_numbers p ≡ true
    one true e = subst (λ (x : List PathSegment). list_all has_numbers x ≡ true) (some_is [] p e) refl
    one false e = each_fits segment has_numbers segment_fits (pieces 59 text) p e
