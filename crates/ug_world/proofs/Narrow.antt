-- An IPv4 prefix by the 32 bits of its address.
use Rattle.std.proofs.Common.{◌≡◌, ℕ, ◌-◌, ◌*◌, ◌/◌, ◌^◌, ◌<◌, ◌≤◌, lit≤, sym, ap, subst, ◌∙◌, arith, pow-add}
use Rattle.std.proofs.Math.Nat.{mul-div_cancel, mul_assoc}
use Rattle.std.proofs.lemmas.Nat.{pow_pos}
use Rattle.ug_types.specs.declared.family.Family.{Family}
use Rattle.ug_types.specs.declared.family.Family.TheVariants.{V4, V6}
use Rattle.ug_types.specs.Ip.{IpPrefix, IsPrefix, cleared}

-- a multiple is cleared already
multiple : (m d : ℕ) → 0 < d → m * d / d * d ≡ m * d
multiple m d h = ap (λ (x : ℕ). x * d) (mul-div_cancel m h)

-- with no bit set past a length, none is past a greater one
cleared_further : (i j bits : ℕ) → i ≤ j → j ≤ 128 → cleared i bits ≡ bits → cleared j bits ≡ bits
cleared_further i j bits le top e =
    let unit = 2 ^ (128 - j) in
    let more = 2 ^ (j - i) in
    let split : 2 ^ (128 - i) ≡ more * unit = ap (λ (n : ℕ). 2 ^ n) (omega arith) ∙ pow-add 2 (j - i) (128 - j) in
    let is : bits / 2 ^ (128 - i) * more * unit ≡ bits = mul_assoc (bits / 2 ^ (128 - i)) more unit ∙ ap (λ (x : ℕ). bits / 2 ^ (128 - i) * x) (sym split) ∙ e in
    let P : ℕ → Type 0 = λ n. cleared j n ≡ n in
    subst P is (multiple (bits / 2 ^ (128 - i) * more) unit (pow_pos (128 - j)))

-- the leading 32 bits, with none past them
leading_again : (f : Family) (bits len : ℕ) → f ≡ V4 → IsPrefix f bits len → bits / 2 ^ 96 * 2 ^ 96 ≡ bits
leading_again V4 bits len e h = cleared_further len 32 bits h.short (lit≤ tt) h.clear
leading_again V6 bits len e h = absurd cc

short_again : (f : Family) (bits len : ℕ) → f ≡ V4 → IsPrefix f bits len → len ≤ 32
short_again V4 bits len e h = h.short
short_again V6 bits len e h = absurd cc

pub prefix_again : (f : Family) (bits len : ℕ) → f ≡ V4 → IsPrefix f bits len → IsPrefix V4 (bits / 2 ^ 96 * 2 ^ 96) len
prefix_again f bits len e h = record {
  short = short_again f bits len e h;
  clear = let P : ℕ → Type 0 = λ n. cleared len n ≡ n in subst P (sym (leading_again f bits len e h)) h.clear;
}

abbrev pub prefix_of_parts : Family → ℕ → ℕ → IpPrefix
prefix_of_parts f bits len = record { family = f; bits = bits; len = len }

pub same_again : (f : Family) (bits len : ℕ) (p : IpPrefix) → f ≡ V4 → IsPrefix f bits len → prefix_of_parts f bits len ≡ p → prefix_of_parts V4 (bits / 2 ^ 96 * 2 ^ 96) len ≡ p
same_again f bits len p e h is = ap (λ (n : ℕ). prefix_of_parts V4 n len) (leading_again f bits len e h) ∙ ap (λ (g : Family). prefix_of_parts g bits len) (sym e) ∙ is
