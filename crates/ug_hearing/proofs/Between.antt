-- Marks from one place up to another.
use Rattle.std.proofs.Common.{◌≡◌, ◌⊎◌, inl, inr, ℕ, zero, suc, ◌+◌, ◌<◌, ◌≤◌, List, [], ◌∷◌, length, slice_get, get_or, take, Some, refl, sym, ◌∙◌, ap, arith}
use Rattle.std.proofs.lemmas.Bool.{cases_lt}
use Rattle.ug_types.specs.declared.mark.Mark.{Mark}
use Rattle.ug_hearing.specs.Marked.{IsMarkIn}

pub got : {T : Type 0} (xs : List T) (i : ℕ) (d : T) → i < length xs → slice_get xs i ≡ Some (get_or xs i d)
got [] i d less = absurd (omega arith)
got (x ∷ xs) zero d less = refl
got (x ∷ xs) (suc i) d less = got xs i d (omega arith)

pub beyond : {T : Type 0} (xs : List T) (i : ℕ) (x : T) → length xs ≤ i → slice_get xs i ≡ Some x → ⊥
beyond [] i x far is = absurd cc
beyond (y ∷ xs) zero x far is = absurd (omega arith)
beyond (y ∷ xs) (suc i) x far is = beyond xs i x (omega arith) is

pub within : {T : Type 0} (xs : List T) (i : ℕ) (x : T) → slice_get xs i ≡ Some x → i < length xs
within [] i x is = absurd cc
within (y ∷ xs) zero x is = omega arith
within (y ∷ xs) (suc i) x is = let rest = within xs i x is in omega arith

same_mark : (a b : Mark) → Some a ≡ Some b → a ≡ b
same_mark a b e = cc

-- a mark up to the next place is one up to this, or the one here
pub last-mark : (syncs : List Mark) (from i : ℕ) (d m : Mark) → i < length syncs → IsMarkIn syncs from (i + 1) m → IsMarkIn syncs from i m ⊎ (m ≡ get_or syncs i d)
last-mark syncs from i d m less h =
    let high = h.high in
    elim (cases_lt h.place i) [
      | inl sooner ↦ inl (record { place = h.place; there = h.there; low = h.low; high = sooner })
      | inr now ↦ inr (let at : h.place ≡ i = omega arith in same_mark m (get_or syncs i d) (sym h.there ∙ (ap (λ k. slice_get syncs k) at ∙ got syncs i d less)))
    ]

pub no-marks : (syncs : List Mark) (from : ℕ) (m : Mark) → IsMarkIn syncs from from m → ⊥
no-marks syncs from m h = let low = h.low in let high = h.high in omega arith

-- there are none behind the end
pub none-beyond : (syncs : List Mark) (from to i : ℕ) (m : Mark) → length syncs ≤ i → IsMarkIn syncs from to m → IsMarkIn syncs from i m
none-beyond syncs from to i m far h = elim (cases_lt h.place i) [
  | inl sooner ↦ record { place = h.place; there = h.there; low = h.low; high = sooner }
  | inr later ↦ absurd (beyond syncs h.place m (omega arith) h.there)
]

pub none-from : (syncs : List Mark) (from to : ℕ) (m : Mark) → length syncs ≤ from → IsMarkIn syncs from to m → ⊥
none-from syncs from to m far h = beyond syncs h.place m (let low = h.low in omega arith) h.there

-- the first of them
pub first-mark : (syncs : List Mark) (from to : ℕ) (d : Mark) → from < to → from < length syncs → IsMarkIn syncs from to (get_or syncs from d)
first-mark syncs from to d less there = record { place = from; there = got syncs from d there; low = omega arith; high = less }

-- there are no more up to a later place than up to the end
pub up-to-later : (syncs : List Mark) (from to i : ℕ) (m : Mark) → to ≤ i → IsMarkIn syncs from to m → IsMarkIn syncs from i m
up-to-later syncs from to i m far h = let high = h.high in record { place = h.place; there = h.there; low = h.low; high = omega arith }

pub take-past : {T : Type 0} (xs : List T) (n : ℕ) → length xs ≤ n → take n xs ≡ xs
take-past [] zero far = refl
take-past [] (suc n) far = refl
take-past (x ∷ xs) zero far = absurd (omega arith)
take-past (x ∷ xs) (suc n) far = ap (λ (ys : List _). x ∷ ys) (take-past xs n (omega arith))
