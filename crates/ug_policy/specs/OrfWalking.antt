-- Things that stand one after the other in bytes.
use Rattle.std.specs.Prelude.{ℕ, zero, suc, ◌-◌, List, [], ◌∷◌, ◌++◌, Result, Ok, Err}

-- the first fault decides
infixl 10 ◌>>=◌
abbrev pub ◌>>=◌ : {A B : Type 0} → Result A ℕ → (A → Result B ℕ) → Result B ℕ
(Ok x) >>= f = f x
(Err number) >>= f = Err number

-- All that stands there: `read` gives what the bytes begin with and how many of them that takes, and the next begins
-- behind those. `skip` counts the bytes that are yet to be passed over.
unfoldable pub all_behind : {A : Type 0} → (List ℕ → Result (List A × ℕ) ℕ) → ℕ → List ℕ → Result (List A) ℕ
all_behind read skip [] = Ok []
all_behind read (suc skip) (b ∷ bytes) = all_behind read skip bytes
all_behind read zero (b ∷ bytes) = do
  first ← read (b ∷ bytes)
  more ← all_behind read (first.1 - 1) bytes
  Ok (first.0 ++ more)

abbrev pub all_in : {A : Type 0} → (List ℕ → Result (List A × ℕ) ℕ) → List ℕ → Result (List A) ℕ
all_in read bytes = all_behind read 0 bytes

-- behind some things those that are read then
abbrev pub behind_items : {A : Type 0} → List A → Result (List A) ℕ → Result (List A) ℕ
behind_items before (Ok more) = Ok (before ++ more)
behind_items before (Err number) = Err number
