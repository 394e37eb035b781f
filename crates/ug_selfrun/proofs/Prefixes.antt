-- A prefix of 24 bits is one.
use Rattle.std.proofs.Common.{◌≡◌, ℕ, ◌*◌, ◌/◌, ◌^◌, ◌<◌, ap, refl}
use Rattle.std.proofs.Math.Nat.{mul-div_cancel}
use Rattle.std.proofs.lemmas.Nat.{pow_pos}
use Rattle.ug_types.specs.Ip.{cleared}

pub none_past : (n : ℕ) → cleared 24 (n * 2 ^ 104) ≡ n * 2 ^ 104
none_past n = ap (λ (m : ℕ). m * 2 ^ 104) (mul-div_cancel n (pow_pos 104))
