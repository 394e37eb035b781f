-- Facts of each item of a list, and items by their place.
use Rattle.std.proofs.Common.{◌≡◌, ℕ, zero, suc, ◌<◌, Bool, true, false, List, [], ◌∷◌, ◌++◌, length, slice_get, Some, refl, arith}
use Rattle.std.specs.Prelude.{filter}
use Rattle.ug_board.specs.Deeds.{Each}

module _ {A : Type 0} where
  pub each-front : (P : A → Type 0) (xs ys : List A) → Each P (xs ++ ys) → Each P xs
  each-front P [] ys h = tt
  each-front P (x ∷ xs) ys h = (h.0, each-front P xs ys h.1)

  pub each-back : (P : A → Type 0) (xs ys : List A) → Each P (xs ++ ys) → Each P ys
  each-back P [] ys h = h
  each-back P (x ∷ xs) ys h = each-back P xs ys h.1

  pub each-join : (P : A → Type 0) (xs ys : List A) → Each P xs → Each P ys → Each P (xs ++ ys)
  each-join P [] ys h k = k
  each-join P (x ∷ xs) ys h k = (h.0, each-join P xs ys h.1 k)

  pub each-with : (P Q R : A → Type 0) → ((x : A) → P x → Q x → R x) → (xs : List A) → Each P xs → Each Q xs → Each R xs
  each-with P Q R f [] h k = tt
  each-with P Q R f (x ∷ xs) h k = (f x h.0 k.0, each-with P Q R f xs h.1 k.1)

  pub each-so : (P Q : A → Type 0) → ((x : A) → P x → Q x) → (xs : List A) → Each P xs → Each Q xs
  each-so P Q f [] h = tt
  each-so P Q f (x ∷ xs) h = (f x h.0, each-so P Q f xs h.1)

  -- what holds of each place holds of each item
  pub each-all : (P : ℕ → A → Type 0) (xs : List A) → ((n : ℕ) → Each (P n) xs) → Each (λ x. (n : ℕ) → P n x) xs
  each-all P [] h = tt
  each-all P (x ∷ xs) h = (λ n. (h n).0, each-all P xs (λ n. (h n).1))

  pub each-any : (P : A → Type 0) → ((x : A) → P x) → (xs : List A) → Each P xs
  each-any P f [] = tt
  each-any P f (x ∷ xs) = (f x, each-any P f xs)

  none_by : (test : A → Bool) (x : A) (xs : List A) (b : Bool) → test x ≡ b → filter test (x ∷ xs) ≡ [] → (b ≡ false) × (filter test xs ≡ [])
  none_by test x xs true is none = let never : x ∷ filter test xs ≡ [] = rw is at none in absurd cc
  none_by test x xs false is none = (refl, rw is at none)

  -- where none of them passes each doesn't
  pub none-passes : (test : A → Bool) (xs : List A) → filter test xs ≡ [] → Each (λ x. test x ≡ false) xs
  none-passes test [] none = tt
  none-passes test (x ∷ xs) none = let by = none_by test x xs (test x) refl none in (by.0, none-passes test xs by.1)

  pub get-there : (xs : List A) (n : ℕ) → n < length xs → (x : A) × (slice_get xs n ≡ Some x)
  get-there [] n less = absurd (omega arith)
  get-there (x ∷ xs) zero less = (x, refl)
  get-there (x ∷ xs) (suc n) less = get-there xs n (omega arith)

  pub get-within : (xs : List A) (n : ℕ) (x : A) → slice_get xs n ≡ Some x → n < length xs
  get-within [] n x is = absurd cc
  get-within (y ∷ xs) zero x is = omega arith
  get-within (y ∷ xs) (suc n) x is = let rest = get-within xs n x is in omega arith

  pub some-same : (x y : A) → Some x ≡ Some y → x ≡ y
  some-same x y e = cc
