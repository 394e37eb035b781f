-- Texts cut into parts, and parts read one by one.
use Rattle.std.specs.Prelude.{ℕ, ◌==◌, List, [], ◌∷◌, ◌++◌, Option, Some, None, if◌then◌else◌}

-- a text read step by step, as far as each step can be read
infixl 10 ◌>>=◌
abbrev pub ◌>>=◌ : {A B : Type 0} → Option A → (A → Option B) → Option B
None >>= f = None
(Some x) >>= f = f x

abbrev pub with_front : ℕ → Option (List ℕ × List ℕ) → Option (List ℕ × List ℕ)
with_front b None = None
with_front b (Some parts) = Some (b ∷ parts.0, parts.1)

-- what stands before the first separator, and what behind it
unfoldable pub cut_at : ℕ → List ℕ → Option (List ℕ × List ℕ)
cut_at separator [] = None
cut_at separator (b ∷ bytes) = if b == separator then Some ([], bytes) else with_front b (cut_at separator bytes)

-- the parts between separators, behind the bytes of one that has begun
unfoldable pub pieces_from : ℕ → List ℕ → List ℕ → List (List ℕ)
pieces_from separator piece [] = piece ∷ []
pieces_from separator piece (b ∷ bytes) = if b == separator then piece ∷ pieces_from separator [] bytes else pieces_from separator (piece ++ b ∷ []) bytes

-- the parts of a text between separators: one more than there are separators
abbrev pub pieces : ℕ → List ℕ → List (List ℕ)
pieces separator text = pieces_from separator [] text

-- each text as `read` reads it, where each can be read
abbrev pub each : {A : Type 0} → (List ℕ → Option A) → List (List ℕ) → Option (List A)
each read [] = Some []
each read (text ∷ texts) = do
  x ← read text
  xs ← each read texts
  Some (x ∷ xs)
