-- Entries by ascending sequence number.
use Rattle.std.specs.Prelude.{ℕ, nat_lt, nat_le, ◌==◌, Bool, true, false, ◌&&◌, ◌||◌, List, [], ◌∷◌, if◌then◌else◌}
use Rattle.std.specs.List.{list_any}

-- put in front of the first item whose number is at least as high
abbrev pub placed : {T : Type 0} → (T → ℕ) → T → List T → List T
placed number x [] = x ∷ []
placed number x (y ∷ ys) = if nat_le (number x) (number y) then x ∷ y ∷ ys else y ∷ placed number x ys

-- the items in ascending order of their numbers
abbrev pub ascending : {T : Type 0} → (T → ℕ) → List T → List T
ascending number [] = []
ascending number (x ∷ xs) = placed number x (ascending number xs)

-- two items have one number
abbrev pub repeats : {T : Type 0} → (T → ℕ) → List T → Bool
repeats number [] = false
repeats number (x ∷ xs) = list_any (λ y. number y == number x) xs || repeats number xs

-- each number is above the one before it
abbrev pub rises_above : {T : Type 0} → (T → ℕ) → ℕ → List T → Bool
rises_above number n [] = true
rises_above number n (x ∷ xs) = nat_lt n (number x) && rises_above number (number x) xs

abbrev pub rises : {T : Type 0} → (T → ℕ) → List T → Bool
rises number [] = true
rises number (x ∷ xs) = rises_above number (number x) xs
