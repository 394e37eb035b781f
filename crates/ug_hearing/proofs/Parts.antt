-- A part of a list, and the least places in it.
use Rattle.std.proofs.Common.{◌≡◌, ◌≢◌, ℕ, zero, suc, ◌+◌, ◌-◌, ◌<◌, ◌≤◌, inl, inr, List, [], ◌∷◌, take, drop, slice_get, Some, refl, sym, ◌∙◌, ap, arith}
use Rattle.std.proofs.lemmas.Bool.{cases_lt}
use Rattle.ug_message.specs.Climbing.{IsLeastPlace}

get-take : {V : Type 0} (xs : List V) (n p : ℕ) → p < n → slice_get (take n xs) p ≡ slice_get xs p
get-take [] zero p less = refl
get-take [] (suc n) p less = refl
get-take (x ∷ xs) zero p less = absurd (omega arith)
get-take (x ∷ xs) (suc n) zero less = refl
get-take (x ∷ xs) (suc n) (suc p) less = get-take xs n p (omega arith)

take-beyond : {V : Type 0} (xs : List V) (n p : ℕ) (v : V) → n ≤ p → slice_get (take n xs) p ≢ Some v
take-beyond [] zero p v far is = absurd cc
take-beyond [] (suc n) p v far is = absurd cc
take-beyond (x ∷ xs) zero p v far is = absurd cc
take-beyond (x ∷ xs) (suc n) zero v far is = absurd (omega arith)
take-beyond (x ∷ xs) (suc n) (suc p) v far is = take-beyond xs n p v (omega arith) is

get-drop : {V : Type 0} (xs : List V) (a p : ℕ) → slice_get (drop a xs) p ≡ slice_get xs (a + p)
get-drop xs zero p = let same : p ≡ 0 + p = omega arith in ap (λ k. slice_get xs k) same
get-drop [] (suc a) p = refl
get-drop {V} (x ∷ xs) (suc a) p = let same : suc (a + p) ≡ suc a + p = omega arith in get-drop xs a p ∙ ap (λ k. slice_get (x ∷ xs) k) same

module _ {V : Type 0} (xs : List V) (a b : ℕ) where
  abbrev part : List V
  part = take (b - a) (drop a xs)

  pub get-part : (p : ℕ) → a + p < b → slice_get part p ≡ slice_get xs (a + p)
  get-part p less = get-take (drop a xs) (b - a) p (omega arith) ∙ get-drop xs a p

  -- a least place that lies in the part
  pub part-least : (q p : ℕ) (v : V) → IsLeastPlace xs (a + q) v (a + p) → a + p < b → IsLeastPlace part q v p
  part-least q p v h less =
      let low = h.not_before in
      record {
        not_before = omega arith;
        stands = get-part p less ∙ h.stands;
        least = λ n at before is. h.least (a + n) (omega arith) (omega arith) (sym (get-part n (omega arith)) ∙ is);
      }

  -- and one that doesn't
  pub part-never : (q : ℕ) (v : V) → ((n : ℕ) → a + q ≤ n → n < b → slice_get xs n ≢ Some v) → (n : ℕ) → q ≤ n → slice_get part n ≢ Some v
  part-never q v never n at is = elim (cases_lt (a + n) b) [
    | inl less ↦ never (a + n) (omega arith) less (sym (get-part n less) ∙ is)
    | inr far ↦ take-beyond (drop a xs) (b - a) n v (omega arith) is
  ]
