-- Lists of options in which the one at a place is another.
use Rattle.std.proofs.Common.{◌≡◌, ℕ, zero, suc, List, [], ◌∷◌, ◌++◌, map, length, Option, Some, None, refl, sym, ◌∙◌, ap, arith, slice_set}
use Rattle.std.specs.Option.{option_map}
use Rattle.ug_speaker.specs.Places.{change_at}
use Rattle.ug_queue.specs.Spread.{value_of}

module _ {T : Type 0} where
  pub set_here : (xs : List (Option T)) (g : ℕ) (x : T) (o : Option T) → value_of g xs ≡ Some x → value_of g (slice_set xs g o) ≡ o
  set_here [] g x o e = absurd cc
  set_here (y ∷ xs) zero x o e = refl
  set_here (y ∷ xs) (suc g) x o e = set_here xs g x o e

  pub set_other : (xs : List (Option T)) (g h : ℕ) (o : Option T) → (h ≡ g → ⊥) → value_of h (slice_set xs g o) ≡ value_of h xs
  set_other [] g h o e = refl
  set_other (y ∷ xs) zero zero o e = absurd (e refl)
  set_other (y ∷ xs) zero (suc h) o e = refl
  set_other (y ∷ xs) (suc g) zero o e = refl
  set_other (y ∷ xs) (suc g) (suc h) o e = set_other xs g h o (λ same. e (ap suc same))

  pub at_end : (xs : List (Option T)) (x : T) → value_of (length xs) (xs ++ Some x ∷ []) ≡ Some x
  at_end [] x = refl
  at_end (y ∷ xs) x = ap (λ (n : ℕ). value_of n (y ∷ xs ++ Some x ∷ [])) (one_more y xs) ∙ at_end xs x
    where
      one_more : (y : Option T) (xs : List (Option T)) → length (y ∷ xs) ≡ suc (length xs)
      one_more y xs = omega arith

  pub before_end : (xs : List (Option T)) (x y : T) (h : ℕ) → value_of h (xs ++ Some x ∷ []) ≡ Some y → (h ≡ length xs → ⊥) → value_of h xs ≡ Some y
  before_end [] x y zero e apart = absurd (apart refl)
  before_end [] x y (suc h) e apart = absurd cc
  before_end (z ∷ xs) x y zero e apart = e
  before_end (z ∷ xs) x y (suc h) e apart = before_end xs x y h e (λ same. apart (omega (arith, same)))

  pub set_length : (xs : List (Option T)) (g : ℕ) (o : Option T) → length (slice_set xs g o) ≡ length xs
  set_length [] g o = refl
  set_length (y ∷ xs) zero o = refl
  set_length (y ∷ xs) (suc g) o = let rest = set_length xs g o in omega (arith, rest)

  pub set_same : (xs : List (Option T)) (g : ℕ) (x : T) → value_of g xs ≡ Some x → slice_set xs g (Some x) ≡ xs
  set_same [] g x e = refl
  set_same (y ∷ xs) zero x e = ap (λ (o : Option T). o ∷ xs) (sym e)
  set_same (y ∷ xs) (suc g) x e = ap (λ (ys : List (Option T)). y ∷ ys) (set_same xs g x e)

  -- ---- the changes of rows are of this kind

  pub change_is : (xs : List (Option T)) (g : ℕ) (x y : T) (f : T → T) → value_of g xs ≡ Some x → f x ≡ y → slice_set xs g (Some y) ≡ change_at (option_map f) g xs
  change_is [] g x y f e is = refl
  change_is (z ∷ xs) zero x y f e is = ap (λ (v : T). Some v ∷ xs) (sym is) ∙ ap (λ (o : Option T). option_map f o ∷ xs) (sym e)
  change_is (z ∷ xs) (suc g) x y f e is = ap (λ (ys : List (Option T)). z ∷ ys) (change_is xs g x y f e is)

  pub without_is : (xs : List (Option T)) (g : ℕ) → slice_set xs g None ≡ change_at (λ _. None) g xs
  without_is [] g = refl
  without_is (z ∷ xs) zero = refl
  without_is (z ∷ xs) (suc g) = ap (λ (ys : List (Option T)). z ∷ ys) (without_is xs g)

module _ {A B : Type 0} (f : A → B) where
  pub value_map : (xs : List (Option A)) (g : ℕ) → value_of g (map (option_map f) xs) ≡ option_map f (value_of g xs)
  value_map [] g = refl
  value_map (x ∷ xs) zero = refl
  value_map (x ∷ xs) (suc g) = value_map xs g

  pub length_map : (xs : List (Option A)) → length (map (option_map f) xs) ≡ length xs
  length_map [] = refl
  length_map (x ∷ xs) = let rest = length_map xs in omega (arith, rest)
