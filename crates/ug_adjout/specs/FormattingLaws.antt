-- Laws of the packet that is owed next.
use Rattle.std.proofs.Common.{◌≡◌, ℕ, ◌+◌, ◌-◌, ◌<◌, ◌≤◌, Bool, true, false, cond, List, [], ◌∷◌, Option, Some, None, refl, ap, arith}
use Rattle.std.specs.Prelude.{nat_le, IfSome, slice_get}
use Rattle.std.specs.List.{sum_by}
use Rattle.std.proofs.lemmas.List.Sums.{sum_by-cons}
use Rattle.std.proofs.lemmas.Bool.Decides.{nat_tests}
use Rattle.ug_adjout.specs.Formatting.{fitting, IsLongestRun}

module _ {K : Type 0} (weigh : K → ℕ) where
  fits_test : (m n : ℕ) → nat_le m n ≡ true → m ≤ n
  fits_test m n e = grind (arith, nat_tests)

  over_test : (m n : ℕ) → nat_le m n ≡ false → n < m
  over_test m n e = grind (arith, nat_tests)

  longer : (o : Option K) (room more run all : ℕ) → all ≡ more + run → more ≤ room → IfSome o (λ k. room - more < run + weigh k) → IfSome o (λ k. room < all + weigh k)
  longer None room more run all is h g = g
  longer (Some k) room more run all is h g = omega (arith, is)

  pub fitting-longest : (room : ℕ) (keys : List K) → IsLongestRun weigh room keys (fitting weigh room keys)
  fitting-longest room [] = record { rest = []; first = refl; fits = omega arith; longest = tt }
  fitting-longest room (key ∷ keys) = step (nat_le (weigh key) room) refl (fitting-longest (room - weigh key) keys)
    where
      step : (b : Bool) → nat_le (weigh key) room ≡ b → IsLongestRun weigh (room - weigh key) keys (fitting weigh (room - weigh key) keys)
          → IsLongestRun weigh room (key ∷ keys) (cond b (key ∷ fitting weigh (room - weigh key) keys) [])
      step true e h = let fits = fits_test (weigh key) room e in let all = sum_by-cons weigh key (fitting weigh (room - weigh key) keys) in record {
        rest = h.rest;
        first = ap (λ l. key ∷ l) h.first;
        fits = omega (arith, h.fits, fits, all);
        longest = longer (slice_get h.rest 0) room (weigh key) (sum_by weigh (fitting weigh (room - weigh key) keys)) _ all fits h.longest;
      }
      step false e h = let over = over_test (weigh key) room e in record { rest = key ∷ keys; first = refl; fits = omega arith; longest = omega arith }
