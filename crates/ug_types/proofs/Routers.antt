-- An IPv4 address is that of its leading 32 bits.
use Rattle.std.proofs.Common.{◌≡◌, ℕ, ◌/◌, ◌^◌, refl, ap, ◌∙◌}
use Rattle.ug_types.specs.declared.family.Family.{Family}
use Rattle.ug_types.specs.declared.family.Family.TheVariants.{V4, V6}
use Rattle.ug_types.specs.Ip.{IpAddress, IsAddress, ipv4}

pub address_again : (f : Family) (bits : ℕ) (a : IpAddress) → f ≡ V4 → IsAddress f bits → record { family = f; bits = bits } ≡ a → ipv4 (bits / 2 ^ 96) ≡ a
address_again V4 bits a e h is = ap (λ (n : ℕ). record { family = V4; bits = n }) h ∙ is
address_again V6 bits a e h is = absurd cc
