-- How a number as a report writes it begins.
use Rattle.std.specs.Prelude.{ℕ, ◌==◌, ◌||◌, not, Bool, false, List, [], ◌∷◌, length}

-- there is a digit, and no zero leads others
abbrev pub begins_well : List ℕ → Bool
begins_well [] = false
begins_well (b ∷ bytes) = not (b == 48) || (length (b ∷ bytes) == 1)
