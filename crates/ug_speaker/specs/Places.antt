-- Lists in which the thing at one place is another.
use Rattle.std.specs.Prelude.{ℕ, zero, suc, List, [], ◌∷◌}

-- the thing at a place is changed
abbrev pub change_at : {T : Type 0} → (T → T) → ℕ → List T → List T
change_at change p [] = []
change_at change zero (x ∷ xs) = change x ∷ xs
change_at change (suc p) (x ∷ xs) = x ∷ change_at change p xs
