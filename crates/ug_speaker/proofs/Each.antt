-- What is so of each thing of two lists that are joined.
use Rattle.std.proofs.Common.{List, [], ◌∷◌, ◌++◌}
use Rattle.ug_board.specs.Deeds.{Each}

pub each-append : {A : Type 0} (P : A → Type 0) (xs ys : List A) → Each P xs → Each P ys → Each P (xs ++ ys)
each-append P [] ys h k = k
each-append P (x ∷ xs) ys h k = (h.0, each-append P xs ys h.1 k)

pub each-front : {A : Type 0} (P : A → Type 0) (xs ys : List A) → Each P (xs ++ ys) → Each P xs
each-front P [] ys h = tt
each-front P (x ∷ xs) ys h = (h.0, each-front P xs ys h.1)
