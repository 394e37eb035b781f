-- What is read piece by piece.
use Rattle.std.proofs.Common.{min, ◌≡◌, ℕ, zero, suc, ◌-◌, ◌≤◌, List, [], ◌∷◌, ◌++◌, length, take, drop, Option, Some, None, refl, sym, ap, subst, ◌∙◌, append_assoc, arith, inl, inr}
use Rattle.std.proofs.lemmas.Bool.{cases_lt}
use Rattle.std.proofs.lemmas.List.{length-take}
use Rattle.std.proofs.Math.Seq.{take-append_seam}
use Rattle.ug_edge.specs.Told.{Rose, TakesFront, IsEnded}

-- ---- what was taken from the front

pub TakesFront-none : (left : Option (List ℕ)) → TakesFront left left []
TakesFront-none None = tt
TakesFront-none (Some l) = refl

pub TakesFront-more : (a b c : Option (List ℕ)) (p q : List ℕ) → TakesFront a b p → TakesFront b c q → TakesFront a c (p ++ q)
TakesFront-more None None None p q h k = tt
TakesFront-more None None (Some c) p q h k = absurd k
TakesFront-more None (Some b) c p q h k = absurd h
TakesFront-more (Some a) None c p q h k = absurd h
TakesFront-more (Some a) (Some b) None p q h k = absurd k
TakesFront-more (Some a) (Some b) (Some c) p q h k = h ∙ ap (λ (x : List ℕ). p ++ x) k ∙ sym (append_assoc p q c)

-- at the end nothing more was taken
pub ended_after : (a b : Option (List ℕ)) → IsEnded a → TakesFront a b [] → IsEnded b
ended_after None None h k = tt
ended_after None (Some b) h k = absurd k
ended_after (Some a) None h k = absurd k
ended_after (Some a) (Some b) h k = sym k ∙ h

-- ---- fronts of lists

pub take_past : {A : Type 0} (n : ℕ) (xs : List A) → length xs ≤ n → take n xs ≡ xs
take_past zero [] le = refl
take_past (suc n) [] le = refl
take_past zero (x ∷ xs) le = absurd (omega arith)
take_past (suc n) (x ∷ xs) le = ap (λ (z : List _). x ∷ z) (take_past n xs (omega arith))

pub take_front : {A : Type 0} (n : ℕ) (xs ys : List A) → length xs ≤ n → take n (xs ++ ys) ≡ xs ++ take (n - length xs) ys
take_front n [] ys le = let z : n ≡ n - 0 = omega arith in ap (λ (k : ℕ). take k ys) z
take_front zero (x ∷ xs) ys le = absurd (omega arith)
take_front (suc n) (x ∷ xs) ys le =
    let k : n - length xs ≡ suc n - length (x ∷ xs) = omega arith in
    ap (λ (z : List _). x ∷ z) (take_front n xs ys (omega arith) ∙ ap (λ (m : ℕ). xs ++ take m ys) k)

-- ---- buffers

-- the front of a buffer within a limit is the front of what was read into it
pub piece_within : (n room : ℕ) (buffer piece : List ℕ) → piece ≡ take (min n room) buffer → piece ≡ take room (take n buffer)
piece_within n room buffer piece is = elim (cases_lt n room) [
  | inl lt ↦
      let least : min n room ≡ n = omega arith in
      is ∙ ap (λ (k : ℕ). take k buffer) least ∙ sym (take_past room (take n buffer) (let l = length-take n buffer in omega arith))
  | inr ge ↦
      let least : min n room ≡ room = omega arith in
      is ∙ ap (λ (k : ℕ). take k buffer) least ∙ sym (shorter room n buffer ge)
]
  where
    shorter : (m n : ℕ) (bs : List ℕ) → m ≤ n → take m (take n bs) ≡ take m bs
    shorter zero n bs le = refl
    shorter (suc m) zero bs le = absurd (omega arith)
    shorter (suc m) (suc n) [] le = refl
    shorter (suc m) (suc n) (b ∷ bs) le = ap (λ (z : List ℕ). b ∷ z) (shorter m n bs (omega arith))

-- a buffer holds what was put at its front, and that is all of it
pub buffer_back : (n : ℕ) (buffer items : List ℕ) → length buffer ≡ n → take n (buffer ++ drop (length buffer) items) ≡ buffer
buffer_back n buffer items e = subst (λ (k : ℕ). take k (buffer ++ drop (length buffer) items) ≡ buffer) e (take-append_seam buffer (drop (length buffer) items))

-- ---- counts of faults

-- what rose in a later part rose in the whole
pub Rose-later : (a b c : ℕ) → a ≤ b → b ≤ c → Rose b c → Rose a c
Rose-later a b c le more (inl lt) = inl (omega arith)
Rose-later a b c le more (inr top) = elim (cases_lt a b) [
  | inl lt ↦ inl (omega arith)
  | inr ge ↦ inr (omega arith)
]

pub taken_none : (now next : Option (List ℕ)) (buffer : List ℕ) (n : ℕ) → n ≡ 0 → TakesFront now next (take n buffer) → TakesFront now next []
taken_none now next buffer n none h = subst (λ (k : ℕ). TakesFront now next (take k buffer)) none h
