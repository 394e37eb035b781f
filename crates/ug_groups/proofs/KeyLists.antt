-- Lists with something between their parts.
use Rattle.std.proofs.Common.{◌≡◌, List, [], ◌∷◌, ◌++◌, refl, ap}
use Rattle.std.specs.List.{AllByRecursion}

module _ {T : Type 0} where
  pub one-more : (xs : List T) (x : T) (rest : List T) → (xs ++ x ∷ []) ++ rest ≡ xs ++ x ∷ rest
  one-more [] x rest = refl
  one-more (y ∷ xs) x rest = ap (λ (l : List T). y ∷ l) (one-more xs x rest)

  pub all-between : (P : T → Type 0) (xs : List T) (x : T) (rest : List T) → AllByRecursion P (xs ++ x ∷ rest) → P x
  all-between P [] x rest all = all.0
  all-between P (y ∷ xs) x rest all = all-between P xs x rest all.1

  pub all-append : (P : T → Type 0) (xs ys : List T) → AllByRecursion P xs → AllByRecursion P ys → AllByRecursion P (xs ++ ys)
  all-append P [] ys one other = other
  all-append P (x ∷ xs) ys one other = (one.0, all-append P xs ys one.1 other)

  pub all-weaker : (P Q : T → Type 0) (xs : List T) → ((x : T) → P x → Q x) → AllByRecursion P xs → AllByRecursion Q xs
  all-weaker P Q [] h all = tt
  all-weaker P Q (x ∷ xs) h all = (h x all.0, all-weaker P Q xs h all.1)
