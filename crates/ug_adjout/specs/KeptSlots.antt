-- The value of a slot as a number: the value plus 1, or 0 where there is none.
use Rattle.std.proofs.Common.{◌≡◌, ℕ, zero, suc, Option, Some, None, refl, arith}
use Rattle.std.specs.Option.{option_cmp}
use Rattle.std.specs.Ordering.{nat_cmp}
use Rattle.std.specs.Cmp.{nat_cmp_is}
use Rattle.std.specs.declared.cmp.Ordering.TheVariants.{Less, Greater}
use Rattle.std.proofs.lemmas.Bool.Decides.{nat_tests}

abbrev pub value_told : ℕ → Option ℕ
value_told zero = None
value_told (suc value) = Some value

abbrev pub number_of : Option ℕ → ℕ
number_of None = 0
number_of (Some value) = suc value

pub number_again : (n : ℕ) → number_of (value_told n) ≡ n
number_again zero = refl
number_again (suc value) = refl

-- numbers order as the values do, behind none
pub told_order : (a b : ℕ) → option_cmp nat_cmp (value_told a) (value_told b) ≡ nat_cmp a b
told_order zero zero = refl
told_order zero (suc b) = nat_cmp_is 0 (suc b) Less (omega arith)
told_order (suc a) zero = nat_cmp_is (suc a) 0 Greater (omega arith)
told_order (suc a) (suc b) = grind (arith, nat_tests)
