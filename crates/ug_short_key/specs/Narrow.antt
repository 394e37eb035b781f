-- The leading 32 bits of an address.
use Rattle.std.proofs.Common.{◌≡◌, ℕ, ◌/◌, ◌*◌, ◌^◌}
use Rattle.std.proofs.Math.Nat.{mul-div_cancel}
use Rattle.std.proofs.lemmas.Nat.{pow_pos}

pub leading_bits : (bits : ℕ) → bits * 2 ^ 96 / 2 ^ 96 ≡ bits
leading_bits bits = mul-div_cancel bits (pow_pos 96)
