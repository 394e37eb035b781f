-- A row of places from a first one on, and the values that stand in it.
use Rattle.std.specs.Prelude.{ℕ, suc, List, [], ◌∷◌, Option}
use Rattle.ug_adjout.specs.Stored.{projected}

abbrev pub numbered : ℕ → List (Option ℕ) → List (ℕ × Option ℕ)
numbered start [] = []
numbered start (value ∷ values) = (start, value) ∷ numbered (suc start) values

-- the places that have a value
abbrev pub placed : ℕ → List (Option ℕ) → List (ℕ × ℕ)
placed start values = projected (λ value. value) (numbered start values)
