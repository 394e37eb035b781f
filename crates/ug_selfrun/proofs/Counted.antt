-- What is so of each number up to a last one, by counting.
use Rattle.std.proofs.Common.{◌≡◌, ℕ, zero, suc, ◌+◌, ◌≤◌, ◌<◌, Bool, true, false, ◌&&◌, leb, refl, subst, sym, arith}
use Rattle.std.proofs.lemmas.Bool.{leb-true, leb-false}

abbrev pub each_to : (ℕ → Bool) → ℕ → Bool
each_to p zero = p 0
each_to p (suc n) = each_to p n && p (suc n)

first_of : (a b : Bool) → (a && b) ≡ true → a ≡ true
first_of true b e = refl
first_of false b e = absurd cc

second_of : (a b : Bool) → (a && b) ≡ true → b ≡ true
second_of true b e = e
second_of false b e = absurd cc

pub at_each : (p : ℕ → Bool) (n i : ℕ) → each_to p n ≡ true → i ≤ n → p i ≡ true
at_each p zero i h le = let is : 0 ≡ i = omega arith in subst (λ (k : ℕ). p k ≡ true) is h
at_each p (suc n) i h le = by_test (leb i n) refl (λ (below : i ≤ n). at_each p n i (first_of (each_to p n) (p (suc n)) h) below)
  where
    by_test : (t : Bool) → leb i n ≡ t → (i ≤ n → p i ≡ true) → p i ≡ true
    by_test true e below = below (leb-true i n e)
    by_test false e below =
        let above : n < i = leb-false i n e in
        let is : suc n ≡ i = omega arith in
        subst (λ (k : ℕ). p k ≡ true) is (second_of (each_to p n) (p (suc n)) h)
