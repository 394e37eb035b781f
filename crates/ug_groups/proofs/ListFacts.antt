-- Lists by place.
use Rattle.std.proofs.Common.{◌≡◌, ℕ, zero, suc, ◌+◌, ◌<◌, ◌≤◌, List, [], ◌∷◌, ◌++◌, map, take, drop, length, slice_get, Some, None, refl, sym, ap, ◌∙◌, arith}
use Rattle.std.specs.Prelude.{slice_set, slice_index_or}
use Rattle.std.proofs.Math.Seq.{take-append_seam}
use Rattle.ug_speaker.specs.Places.{change_at}

-- lists with the same things at all places are one
pub same-lists : {T : Type 0} (xs ys : List T) → ((p : ℕ) → slice_get xs p ≡ slice_get ys p) → xs ≡ ys
same-lists [] [] h = refl
same-lists [] (y ∷ ys) h = absurd (let e = h 0 in cc)
same-lists (x ∷ xs) [] h = absurd (let e = h 0 in cc)
same-lists {T} (x ∷ xs) (y ∷ ys) h =
    let here : x ≡ y = first x y (h 0) in
    let rest = same-lists xs ys (λ p. h (suc p)) in
    λ i. here i ∷ rest i
  where
    first : (a b : T) → Some a ≡ Some b → a ≡ b
    first a b e = cc

pub set_is : {T : Type 0} (change : T → T) (xs : List T) (p : ℕ) (x new : T) → p < length xs → x ≡ slice_index_or xs p x → new ≡ change x → slice_set xs p new ≡ change_at change p xs
set_is change [] p x new inside is changed = absurd (omega arith)
set_is {T} change (y ∷ xs) zero x new inside is changed = ap (λ (z : T). z ∷ xs) (changed ∙ ap change is)
set_is {T} change (y ∷ xs) (suc p) x new inside is changed = ap (λ (l : List T). y ∷ l) (set_is change xs p x new (omega arith) is changed)

-- no place, no change
pub end_is : {T : Type 0} (change : T → T) (xs : List T) (p : ℕ) → length xs ≤ p → change_at change p xs ≡ xs
end_is change [] p past = refl
end_is change (y ∷ xs) zero past = absurd (omega arith)
end_is {T} change (y ∷ xs) (suc p) past = ap (λ (l : List T). y ∷ l) (end_is change xs p (omega arith))

pub get_is : {T : Type 0} (xs : List T) (p : ℕ) (x : T) → p < length xs → x ≡ slice_index_or xs p x → slice_get xs p ≡ Some x
get_is [] p x inside is = absurd (omega arith)
get_is {T} (y ∷ xs) zero x inside is = ap (λ (z : T). Some z) (sym is)
get_is (y ∷ xs) (suc p) x inside is = get_is xs p x (omega arith) is

pub get_none : {T : Type 0} (xs : List T) (p : ℕ) → length xs ≤ p → slice_get xs p ≡ None
get_none [] p past = refl
get_none (y ∷ xs) zero past = absurd (omega arith)
get_none (y ∷ xs) (suc p) past = get_none xs p (omega arith)

pub length-changed : {T : Type 0} (change : T → T) (p : ℕ) (xs : List T) → length (change_at change p xs) ≡ length xs
length-changed change p [] = refl
length-changed change zero (x ∷ xs) = refl
length-changed change (suc p) (x ∷ xs) = ap suc (length-changed change p xs)

pub map-changed : {S T : Type 0} (f : S → T) (change : S → S) (changed : T → T) (p : ℕ) (xs : List S) → ((x : S) → f (change x) ≡ changed (f x)) → map f (change_at change p xs) ≡ change_at changed p (map f xs)
map-changed f change changed p [] h = refl
map-changed {S} {T} f change changed zero (x ∷ xs) h = ap (λ (y : T). y ∷ map f xs) (h x)
map-changed {S} {T} f change changed (suc p) (x ∷ xs) h = ap (λ (l : List T). f x ∷ l) (map-changed f change changed p xs h)

-- where the change leaves what is shown
pub map-same : {S T : Type 0} (f : S → T) (change : S → S) (p : ℕ) (xs : List S) → ((x : S) → f (change x) ≡ f x) → map f (change_at change p xs) ≡ map f xs
map-same f change p [] h = refl
map-same {S} {T} f change zero (x ∷ xs) h = ap (λ (y : T). y ∷ map f xs) (h x)
map-same {S} {T} f change (suc p) (x ∷ xs) h = ap (λ (l : List T). f x ∷ l) (map-same f change p xs h)

-- one more at the end
pub end-here : {T : Type 0} (xs : List T) (x : T) → slice_get (xs ++ x ∷ []) (length xs) ≡ Some x
end-here [] x = refl
end-here (y ∷ xs) x = end-here xs x

pub end-there : {T : Type 0} (xs : List T) (x : T) (p : ℕ) → (p ≡ length xs → ⊥) → slice_get (xs ++ x ∷ []) p ≡ slice_get xs p
end-there [] x zero apart = absurd (apart refl)
end-there [] x (suc p) apart = refl
end-there (y ∷ xs) x zero apart = refl
end-there (y ∷ xs) x (suc p) apart = end-there xs x p (λ e. apart (ap suc e))

pub some-same : {T : Type 0} (x y : T) → Some x ≡ Some y → x ≡ y
some-same x y e = cc

pub set-inside : {T : Type 0} (xs : List T) (p : ℕ) (new : T) → p < length xs → slice_set xs p new ≡ change_at (λ (x : T). new) p xs
set-inside [] p new inside = absurd (omega arith)
set-inside (y ∷ xs) zero new inside = refl
set-inside {T} (y ∷ xs) (suc p) new inside = ap (λ (l : List T). y ∷ l) (set-inside xs p new (omega arith))

pub get-inside : {T : Type 0} (xs : List T) (p : ℕ) (d : T) → p < length xs → slice_get xs p ≡ Some (slice_index_or xs p d)
get-inside [] p d inside = absurd (omega arith)
get-inside (y ∷ xs) zero d inside = refl
get-inside (y ∷ xs) (suc p) d inside = get-inside xs p d (omega arith)

pub get-alike : {T : Type 0} (xs : List T) (p : ℕ) (d e : T) → p < length xs → slice_index_or xs p d ≡ slice_index_or xs p e
get-alike [] p d e inside = absurd (omega arith)
get-alike (y ∷ xs) zero d e inside = refl
get-alike (y ∷ xs) (suc p) d e inside = get-alike xs p d e (omega arith)

-- each is changed in turn
pub map_step : {T : Type 0} (f : T → T) (xs : List T) (i : ℕ) (x y : T) → i < length xs → x ≡ slice_index_or xs i x → y ≡ f x
    → take (i + 1) (slice_set xs i y) ++ map f (drop (i + 1) (slice_set xs i y)) ≡ take i xs ++ map f (drop i xs)
map_step f [] i x y inside is changed = absurd (omega arith)
map_step {T} f (z ∷ xs) zero x y inside is changed = ap (λ (v : T). v ∷ map f xs) (changed ∙ ap f is)
map_step {T} f (z ∷ xs) (suc i) x y inside is changed =
    let e : suc i + 1 ≡ suc (i + 1) = omega arith in
    rw e (ap (λ (l : List T). z ∷ l) (map_step f xs i x y (omega arith) is changed))

pub map_end : {T : Type 0} (f : T → T) (xs : List T) (i : ℕ) → length xs ≤ i → take i xs ++ map f (drop i xs) ≡ xs
map_end f [] zero past = refl
map_end f [] (suc i) past = refl
map_end f (z ∷ xs) zero past = absurd (omega arith)
map_end {T} f (z ∷ xs) (suc i) past = ap (λ (l : List T). z ∷ l) (map_end f xs i (omega arith))

pub length-mapped : {S T : Type 0} (f : S → T) (xs : List S) → length (map f xs) ≡ length xs
length-mapped f [] = refl
length-mapped f (x ∷ xs) = ap suc (length-mapped f xs)

-- what was lent as a slice is back
pub put-back : {T : Type 0} (n : ℕ) (xs ys : List T) → length ys ≡ n → take n (ys ++ drop (length ys) xs) ≡ ys
put-back {T} n xs ys same = ap (λ (k : ℕ). take k (ys ++ drop (length ys) xs)) (sym same) ∙ take-append_seam ys (drop (length ys) xs)
