-- An IPv4 prefix by its leading 32 bits, and an IPv6 prefix by its two halves.
use Rattle.std.proofs.Common.{◌≡◌, ℕ, ◌+◌, ◌-◌, ◌*◌, ◌/◌, ◌%◌, ◌^◌, ◌<◌, ◌≤◌, Ordering, nat_cmp, refl, lit≤, sym, ap, subst, ◌∙◌, arith, pow-add}
use Rattle.std.proofs.Math.Nat.{mul-div_cancel, mul_assoc}
use Rattle.std.proofs.lemmas.Nat.{pow_pos}
use Rattle.std.proofs.lemmas.Bool.Decides.{nat_tests}
use Rattle.std.specs.declared.cmp.Ordering.TheVariants.{Less, Equal, Greater}
use Rattle.std.specs.Cmp.{nat_cmp_is}
use Rattle.ug_types.specs.declared.family.Family.{Family}
use Rattle.ug_types.specs.declared.family.Family.TheVariants.{V4, V6}
use Rattle.ug_types.specs.declared.key.Key.{Key}
use Rattle.ug_types.specs.Ip.{IpPrefix, IsPrefix, cleared}

-- a multiple is cleared already
multiple : (m d : ℕ) → 0 < d → m * d / d * d ≡ m * d
multiple m d h = ap (λ (x : ℕ). x * d) (mul-div_cancel m h)

-- with no bit set past a length, none is past a greater one
pub cleared_further : (i j bits : ℕ) → i ≤ j → j ≤ 128 → cleared i bits ≡ bits → cleared j bits ≡ bits
cleared_further i j bits le top e =
    let unit = 2 ^ (128 - j) in
    let more = 2 ^ (j - i) in
    let split : 2 ^ (128 - i) ≡ more * unit = ap (λ (n : ℕ). 2 ^ n) (omega arith) ∙ pow-add 2 (j - i) (128 - j) in
    let is : bits / 2 ^ (128 - i) * more * unit ≡ bits = mul_assoc (bits / 2 ^ (128 - i)) more unit ∙ ap (λ (x : ℕ). bits / 2 ^ (128 - i) * x) (sym split) ∙ e in
    let P : ℕ → Type 0 = λ n. cleared j n ≡ n in
    subst P is (multiple (bits / 2 ^ (128 - i) * more) unit (pow_pos (128 - j)))

-- the leading 32 bits, with none past them
leading_again : (f : Family) (bits len : ℕ) → f ≡ V4 → IsPrefix f bits len → bits / 2 ^ 96 * 2 ^ 96 ≡ bits
leading_again V4 bits len e h = cleared_further len 32 bits h.short (lit≤ tt) h.clear
leading_again V6 bits len e h = absurd cc

short_again : (f : Family) (bits len : ℕ) → f ≡ V4 → IsPrefix f bits len → len ≤ 32
short_again V4 bits len e h = h.short
short_again V6 bits len e h = absurd cc

pub prefix_again : (f : Family) (bits len : ℕ) → f ≡ V4 → IsPrefix f bits len → IsPrefix V4 (bits / 2 ^ 96 * 2 ^ 96) len
prefix_again f bits len e h = record {
  short = short_again f bits len e h;
  clear = let P : ℕ → Type 0 = λ n. cleared len n ≡ n in subst P (sym (leading_again f bits len e h)) h.clear;
}

abbrev pub key_of : Family → ℕ → ℕ → ℕ → Key
key_of f bits len id = record { prefix = record { family = f; bits = bits; len = len }; id = id }

abbrev pub with_id : ℕ → IpPrefix → Key
with_id id p = record { prefix = p; id = id }

pub key_again : (f : Family) (bits len id : ℕ) (p : IpPrefix) → f ≡ V4 → IsPrefix f bits len → (key_of f bits len id).prefix ≡ p → key_of V4 (bits / 2 ^ 96 * 2 ^ 96) len id ≡ with_id id p
key_again f bits len id p e h is =
    ap (λ (n : ℕ). key_of V4 n len id) (leading_again f bits len e h) ∙ ap (λ (g : Family). key_of g bits len id) (sym e) ∙ ap (with_id id) is

-- ---- two halves

halves_again : (bits : ℕ) → bits / 2 ^ 64 * 2 ^ 64 + bits % 2 ^ 64 ≡ bits
halves_again bits = omega arith

wide : (f : Family) (bits len : ℕ) → f ≡ V6 → IsPrefix f bits len → IsPrefix V6 bits len
wide V6 bits len e h = h
wide V4 bits len e h = absurd cc

pub wide_again : (f : Family) (bits len : ℕ) → f ≡ V6 → IsPrefix f bits len → IsPrefix V6 (bits / 2 ^ 64 * 2 ^ 64 + bits % 2 ^ 64) len
wide_again f bits len e h = subst (λ (n : ℕ). IsPrefix V6 n len) (sym (halves_again bits)) (wide f bits len e h)

pub wide_key_again : (f : Family) (bits len id : ℕ) (p : IpPrefix) → f ≡ V6 → (key_of f bits len id).prefix ≡ p → key_of V6 (bits / 2 ^ 64 * 2 ^ 64 + bits % 2 ^ 64) len id ≡ with_id id p
wide_key_again f bits len id p e is =
    ap (λ (n : ℕ). key_of V6 n len id) (halves_again bits) ∙ ap (λ (g : Family). key_of g bits len id) (sym e) ∙ ap (with_id id) is

less : (a c : ℕ) → Less ≡ nat_cmp a c → a < c
less a c e = grind (arith, nat_tests)

greater : (a c : ℕ) → Greater ≡ nat_cmp a c → c < a
greater a c e = grind (arith, nat_tests)

-- where the upper halves differ they decide
pub high_decides : (a b c d : ℕ) (r : Ordering) → b < 2 ^ 64 → d < 2 ^ 64 → r ≡ nat_cmp a c → (r ≡ Equal → ⊥) → r ≡ nat_cmp (a * 2 ^ 64 + b) (c * 2 ^ 64 + d)
high_decides a b c d Less low other e apart = nat_cmp_is (a * 2 ^ 64 + b) (c * 2 ^ 64 + d) Less (let lt = less a c e in omega arith)
high_decides a b c d Equal low other e apart = absurd (apart refl)
high_decides a b c d Greater low other e apart = nat_cmp_is (a * 2 ^ 64 + b) (c * 2 ^ 64 + d) Greater (let lt = greater a c e in omega arith)
