-- Reading things that stand one after the other in bytes, up to the first fault.
use Rattle.std.specs.Prelude.{ℕ, zero, suc, ◌+◌, ◌-◌, List, [], ◌∷◌, ◌++◌, Result, Ok, Err}

-- what is wrong, by its number, and the place of it, counted from the first byte
pub record Fault : Type 0 where
  pub number : ℕ
  pub place : ℕ

abbrev pub fault : ℕ → ℕ → Fault
fault number place = record { number = number; place = place }

-- what is wrong with the thing at a place
abbrev pub at : {A : Type 0} → ℕ → Result A ℕ → Result A Fault
at place (Ok x) = Ok x
at place (Err number) = Err (fault number place)

-- the first fault decides
infixl 10 ◌>>=◌
abbrev pub ◌>>=◌ : {E A B : Type 0} → Result A E → (A → Result B E) → Result B E
(Ok x) >>= f = f x
(Err e) >>= f = Err e

-- Step by step along the bytes to their end. A step gets its place, what was read so far, and all bytes from the
-- place on. It gives what is read then, and how many bytes it took: the next step begins behind those. `skip` counts
-- bytes that are yet to be passed over, and `place` those before the ones given.
abbrev pub walk : {S E : Type 0} → (ℕ → S → List ℕ → Result (S × ℕ) E) → ℕ → ℕ → S → List ℕ → Result S E
walk step skip place so_far [] = Ok so_far
walk step (suc skip) place so_far (b ∷ bytes) = walk step skip (place + 1) so_far bytes
walk step zero place so_far (b ∷ bytes) = step place so_far (b ∷ bytes) >>= λ x. walk step (x.1 - 1) (place + 1) x.0 bytes

abbrev pub walk_all : {S E : Type 0} → (ℕ → S → List ℕ → Result (S × ℕ) E) → S → List ℕ → Result S E
walk_all step start bytes = walk step 0 0 start bytes

-- one thing more, as `one` reads it at its place
abbrev pub with_one : {A E : Type 0} → (ℕ → List ℕ → Result (A × ℕ) E) → ℕ → List A → List ℕ → Result (List A × ℕ) E
with_one one place so_far bytes = one place bytes >>= λ x. Ok (so_far ++ x.0 ∷ [], x.1)

-- all things that stand there, each as `one` reads it
abbrev pub all_in : {A E : Type 0} → (ℕ → List ℕ → Result (A × ℕ) E) → List ℕ → Result (List A) E
all_in one bytes = walk_all (with_one one) [] bytes
