-- Numbers drawn from PCG32 (O'Neill, "PCG: a family of simple fast space-efficient statistically good algorithms for random
-- number generation").
use Rattle.std.specs.Prelude.{ℕ, ◌%◌}
use Rattle.rand_pcg.specs.Lcg.{Lcg, started, increment_of}
use Rattle.rand_pcg.specs.Pcg.{multiplier_64, pcg32}

-- the generator of a seed, on stream 1
unfoldable pub seeded : ℕ → Lcg
seeded seed = started 64 multiplier_64 seed (increment_of 64 1)

-- the next word modulo `below`, and the generator behind it
unfoldable pub draw : ℕ → Lcg → ℕ × Lcg
draw below g = ((pcg32 g).0 % below, (pcg32 g).1)
