-- A stable sort by number gives the items in the order of the definition, and where their numbers rise none repeats.
use Rattle.std.proofs.Common.{inl, inr, ◌≡◌, ℕ, ◌+◌, ◌<◌, ◌≤◌, suc, Bool, true, false, ◌&&◌, ◌||◌, not, nat_lt, List, [], ◌∷◌, length, refl, ap, sym, ◌∙◌, subst, arith}
use Rattle.std.specs.Prelude.{nat_le, ◌==◌, filter, slice_index_or, sum_by, if◌then◌else◌}
use Rattle.std.specs.List.{list_any, list_all}
use Rattle.std.specs.List.Sorted.{IsNonDecreasingBy, ties}
use Rattle.std.specs.Ordering.{is_lt, nat_cmp}
use Rattle.std.proofs.lemmas.Bool.{cases_order, cases_lt, lt-ltb, le-ltb, eq-eqb}
use Rattle.std.proofs.lemmas.Bool.Decides.{nat_tests}
use Rattle.std.proofs.lemmas.List.Sums.{sum_by-cons}
use Rattle.ug_policy.specs.Order.{placed, ascending, repeats, rises}

module _ {T : Type 0} (number : T → ℕ) where
  -- each number is at least n; no number is below an earlier one
  abbrev pub Above : ℕ → List T → Type 0
  Above n [] = Unit {0}
  Above n (x ∷ xs) = (n ≤ number x) × Above n xs

  abbrev pub Sorted : List T → Type 0
  Sorted [] = Unit {0}
  Sorted (x ∷ xs) = Above (number x) xs × Sorted xs

  above_lower : (m n : ℕ) (xs : List T) → m ≤ n → Above n xs → Above m xs
  above_lower m n [] le h = tt
  above_lower m n (x ∷ xs) le h = (omega (arith, h.0), above_lower m n xs le h.1)

  -- ---- what a sort gives is sorted

  above_by_index : (n : ℕ) (xs : List T) → ((i : ℕ) (d : T) → i < length xs → n ≤ number (slice_index_or xs i d)) → Above n xs
  above_by_index n [] h = tt
  above_by_index n (x ∷ xs) h = (h 0 x (omega arith), above_by_index n xs (λ i d lt. h (suc i) d (omega arith)))

  pub sorted_by_index : (xs : List T) → IsNonDecreasingBy number xs → Sorted xs
  sorted_by_index [] h = tt
  sorted_by_index (x ∷ xs) h = (
    above_by_index (number x) xs (λ i d lt. h 0 (suc i) d (omega arith) (omega arith)),
    sorted_by_index xs (λ i j d le lt. h (suc i) (suc j) d (omega arith) (omega arith)),
  )

  -- ---- the order of the definition is sorted

  placed_above : (n : ℕ) (x : T) (ys : List T) → n ≤ number x → Above n ys → Above n (placed number x ys)
  placed_above n x [] le h = (le, tt)
  placed_above n x (y ∷ ys) le h = one (nat_le (number x) (number y)) (placed_above n x ys le h.1)
    where
      one : (b : Bool) → Above n (placed number x ys) → Above n (if b then x ∷ y ∷ ys else y ∷ placed number x ys)
      one true t = (le, h)
      one false t = (h.0, t)

  placed_sorted : (x : T) (ys : List T) → Sorted ys → Sorted (placed number x ys)
  placed_sorted x [] h = (tt, tt)
  placed_sorted x (y ∷ ys) h = one (nat_le (number x) (number y)) refl (placed_sorted x ys h.1)
    where
      one : (b : Bool) → nat_le (number x) (number y) ≡ b → Sorted (placed number x ys) → Sorted (if b then x ∷ y ∷ ys else y ∷ placed number x ys)
      one true e t =
          let le : number x ≤ number y = grind (arith, nat_tests) in
          ((le, above_lower (number x) (number y) ys le h.0), h)
      one false e t =
          let le : number y ≤ number x = grind (arith, nat_tests) in
          (placed_above (number y) x ys le h.0, t)

  pub ascending_sorted : (xs : List T) → Sorted (ascending number xs)
  ascending_sorted [] = tt
  ascending_sorted (x ∷ xs) = placed_sorted x (ascending number xs) (ascending_sorted xs)

  -- ---- items that tie keep their order

  abbrev tie : T → T → Bool
  tie = ties (λ x y. is_lt (nat_cmp (number x) (number y)))

  tie_equal : (x y : T) → number x ≡ number y → tie x y ≡ true
  tie_equal x y e = rw (le-ltb (number x) (number y) (omega (arith, e)), le-ltb (number y) (number x) (omega (arith, e)), eq-eqb (number x) (number y) e, eq-eqb (number y) (number x) (sym e)) refl

  tie_below : (x y : T) → number x < number y → tie x y ≡ false
  tie_below x y lt = rw (lt-ltb (number x) (number y) lt) refl

  and_false : (a : Bool) → (a && false) ≡ false
  and_false true = refl
  and_false false = refl

  tie_above : (x y : T) → number y < number x → tie x y ≡ false
  tie_above x y lt = rw (lt-ltb (number y) (number x) lt) (and_false _)

  never_both : (w x y : T) → number y < number x → (tie w x && tie w y) ≡ false
  never_both w x y lt = elim (cases_order (number w) (number x)) [
    | inl e ↦ rw (tie_above w y (omega (arith, e))) (and_false (tie w x))
    | inr h ↦ elim h [ inl below ↦ rw (tie_below w x below) refl | inr above ↦ rw (tie_above w x above) refl ]
  ]

  swapped : (a b : Bool) (x y : T) (ys : List T) → (a && b) ≡ false
      → (if b then y ∷ (if a then x ∷ ys else ys) else (if a then x ∷ ys else ys)) ≡ (if a then x ∷ (if b then y ∷ ys else ys) else (if b then y ∷ ys else ys))
  swapped true true x y ys e = absurd cc
  swapped true false x y ys e = refl
  swapped false true x y ys e = refl
  swapped false false x y ys e = refl

  placed_stable : (w x : T) (ys : List T) → filter (tie w) (placed number x ys) ≡ filter (tie w) (x ∷ ys)
  placed_stable w x [] = refl
  placed_stable w x (y ∷ ys) = one (nat_le (number x) (number y)) refl (placed_stable w x ys)
    where
      one : (b : Bool) → nat_le (number x) (number y) ≡ b → filter (tie w) (placed number x ys) ≡ filter (tie w) (x ∷ ys)
          → filter (tie w) (if b then x ∷ y ∷ ys else y ∷ placed number x ys) ≡ filter (tie w) (x ∷ y ∷ ys)
      one true e t = refl
      one false e t =
          let lt : number y < number x = grind (arith, nat_tests) in
          ap (λ zs. if tie w y then y ∷ zs else zs) t ∙ swapped (tie w x) (tie w y) x y (filter (tie w) ys) (never_both w x y lt)

  pub ascending_stable : (w : T) (xs : List T) → filter (tie w) (ascending number xs) ≡ filter (tie w) xs
  ascending_stable w [] = refl
  ascending_stable w (x ∷ xs) = placed_stable w x (ascending number xs) ∙ ap (λ zs. if tie w x then x ∷ zs else zs) (ascending_stable w xs)

  -- ---- sorted lists of the same ties are equal

  none_tie : (w : T) (n : ℕ) (xs : List T) → number w < n → Above n xs → filter (tie w) xs ≡ []
  none_tie w n [] lt h = refl
  none_tie w n (x ∷ xs) lt h = rw (tie_below w x (omega (arith, h.0))) (none_tie w n xs lt h.1)

  head_is : (x y : T) (xs ys : List T) → x ∷ xs ≡ y ∷ ys → x ≡ y
  head_is x y xs ys e = cc

  tail_is : (x y : T) (xs ys : List T) → x ∷ xs ≡ y ∷ ys → xs ≡ ys
  tail_is x y xs ys e = cc

  behind_one : (b : Bool) (x : T) (xs ys : List T) → (if b then x ∷ xs else xs) ≡ (if b then x ∷ ys else ys) → xs ≡ ys
  behind_one true x xs ys e = tail_is x x xs ys e
  behind_one false x xs ys e = e

  pub one_order : (ys zs : List T) → Sorted ys → Sorted zs → ((w : T) → filter (tie w) ys ≡ filter (tie w) zs) → ys ≡ zs
  one_order [] [] s t h = refl
  one_order [] (z ∷ zs) s t h = absurd (let e : [] ≡ z ∷ filter (tie z) zs = rw (tie_equal z z refl) at (h z) in cc)
  one_order (y ∷ ys) [] s t h = absurd (let e : y ∷ filter (tie y) ys ≡ [] = rw (tie_equal y y refl) at (h y) in cc)
  one_order (y ∷ ys) (z ∷ zs) s t h = elim (cases_order (number y) (number z)) [
    | inl e ↦
        let first : y ∷ filter (tie y) ys ≡ z ∷ filter (tie y) zs = rw (tie_equal y y refl, tie_equal y z e) at (h y) in
        let same : y ≡ z = head_is y z _ _ first in
        let rest : ys ≡ zs = one_order ys zs s.1 t.1 (λ w. behind_one (tie w y) y _ _ (subst (λ (u : T). filter (tie w) (y ∷ ys) ≡ filter (tie w) (u ∷ zs)) (sym same) (h w))) in
        ap (λ (u : T). u ∷ ys) same ∙ ap (λ (us : List T). z ∷ us) rest
    | inr unequal ↦ elim unequal [
      | inl lt ↦ absurd (let e : y ∷ filter (tie y) ys ≡ [] = rw (tie_equal y y refl, tie_below y z lt, none_tie y (number z) zs lt t.0) at (h y) in cc)
      | inr gt ↦ absurd (let e : [] ≡ z ∷ filter (tie z) zs = rw (tie_below z y gt, none_tie z (number y) ys gt s.0, tie_equal z z refl) at (h z) in cc)
    ]
  ]

  -- ---- what the order keeps

  placed_all : (p : T → Bool) (x : T) (ys : List T) → list_all p (placed number x ys) ≡ (p x && list_all p ys)
  placed_all p x [] = refl
  placed_all p x (y ∷ ys) = one (nat_le (number x) (number y)) (placed_all p x ys)
    where
      and_swap : (a b c : Bool) → (a && (b && c)) ≡ (b && (a && c))
      and_swap true b c = refl
      and_swap false true c = refl
      and_swap false false c = refl

      one : (b : Bool) → list_all p (placed number x ys) ≡ (p x && list_all p ys) → list_all p (if b then x ∷ y ∷ ys else y ∷ placed number x ys) ≡ (p x && (p y && list_all p ys))
      one true e = refl
      one false e = ap (λ (b : Bool). p y && b) e ∙ and_swap (p y) (p x) (list_all p ys)

  pub ascending_all : (p : T → Bool) (xs : List T) → list_all p (ascending number xs) ≡ list_all p xs
  ascending_all p [] = refl
  ascending_all p (x ∷ xs) = placed_all p x (ascending number xs) ∙ ap (λ (b : Bool). p x && b) (ascending_all p xs)

  placed_length : (x : T) (ys : List T) → length (placed number x ys) ≡ suc (length ys)
  placed_length x [] = refl
  placed_length x (y ∷ ys) = one (nat_le (number x) (number y)) (placed_length x ys)
    where
      one : (b : Bool) → length (placed number x ys) ≡ suc (length ys) → length (if b then x ∷ y ∷ ys else y ∷ placed number x ys) ≡ suc (suc (length ys))
      one true e = refl
      one false e = ap suc e

  pub ascending_length : (xs : List T) → length (ascending number xs) ≡ length xs
  ascending_length [] = refl
  ascending_length (x ∷ xs) = placed_length x (ascending number xs) ∙ ap suc (ascending_length xs)

  placed_sum : (f : T → ℕ) (x : T) (ys : List T) → sum_by f (placed number x ys) ≡ f x + sum_by f ys
  placed_sum f x [] = sum_by-cons f x []
  placed_sum f x (y ∷ ys) = one (nat_le (number x) (number y)) (placed_sum f x ys)
    where
      one : (b : Bool) → sum_by f (placed number x ys) ≡ f x + sum_by f ys → sum_by f (if b then x ∷ y ∷ ys else y ∷ placed number x ys) ≡ f x + sum_by f (y ∷ ys)
      one true e = sum_by-cons f x (y ∷ ys)
      one false e = omega (arith, e, sum_by-cons f y (placed number x ys), sum_by-cons f y ys)

  pub ascending_sum : (f : T → ℕ) (xs : List T) → sum_by f (ascending number xs) ≡ sum_by f xs
  ascending_sum f [] = refl
  ascending_sum f (x ∷ xs) = omega (arith, placed_sum f x (ascending number xs), ascending_sum f xs, sum_by-cons f x xs)

  or_swap : (a b c : Bool) → (a || (b || c)) ≡ (b || (a || c))
  or_swap true true c = refl
  or_swap true false c = refl
  or_swap false true c = refl
  or_swap false false c = refl

  placed_any : (p : T → Bool) (x : T) (ys : List T) → list_any p (placed number x ys) ≡ (p x || list_any p ys)
  placed_any p x [] = refl
  placed_any p x (y ∷ ys) = one (nat_le (number x) (number y)) (placed_any p x ys)
    where
      one : (b : Bool) → list_any p (placed number x ys) ≡ (p x || list_any p ys) → list_any p (if b then x ∷ y ∷ ys else y ∷ placed number x ys) ≡ (p x || (p y || list_any p ys))
      one true e = refl
      one false e = ap (λ (b : Bool). p y || b) e ∙ or_swap (p y) (p x) (list_any p ys)

  pub ascending_any : (p : T → Bool) (xs : List T) → list_any p (ascending number xs) ≡ list_any p xs
  ascending_any p [] = refl
  ascending_any p (x ∷ xs) = placed_any p x (ascending number xs) ∙ ap (λ (b : Bool). p x || b) (ascending_any p xs)

  abbrev equals : T → T → Bool
  equals x y = number y == number x

  equals_symmetric : (x y : T) → equals x y ≡ equals y x
  equals_symmetric x y = grind (arith, nat_tests)

  or_pairs : (a b c d : Bool) → ((a || b) || (c || d)) ≡ ((a || c) || (b || d))
  or_pairs true b c d = refl
  or_pairs false true true d = refl
  or_pairs false true false d = refl
  or_pairs false false c d = refl

  placed_repeats : (x : T) (ys : List T) → repeats number (placed number x ys) ≡ (list_any (equals x) ys || repeats number ys)
  placed_repeats x [] = refl
  placed_repeats x (y ∷ ys) = one (nat_le (number x) (number y)) (placed_repeats x ys)
    where
      one : (b : Bool) → repeats number (placed number x ys) ≡ (list_any (equals x) ys || repeats number ys)
          → repeats number (if b then x ∷ y ∷ ys else y ∷ placed number x ys) ≡ (list_any (equals x) (y ∷ ys) || repeats number (y ∷ ys))
      one true e = refl
      one false e =
          ap (λ (b : Bool). b || repeats number (placed number x ys)) (placed_any (equals y) x ys)
          ∙ ap (λ (b : Bool). (equals y x || list_any (equals y) ys) || b) e
          ∙ or_pairs (equals y x) (list_any (equals y) ys) (list_any (equals x) ys) (repeats number ys)
          ∙ ap (λ (b : Bool). (b || list_any (equals x) ys) || (list_any (equals y) ys || repeats number ys)) (equals_symmetric y x)

  pub ascending_repeats : (xs : List T) → repeats number (ascending number xs) ≡ repeats number xs
  ascending_repeats [] = refl
  ascending_repeats (x ∷ xs) =
      placed_repeats x (ascending number xs) ∙ ap (λ (b : Bool). b || repeats number (ascending number xs)) (ascending_any (equals x) xs) ∙ ap (λ (b : Bool). list_any (equals x) xs || b) (ascending_repeats xs)

  none_equal : (y : T) (n : ℕ) (zs : List T) → number y < n → Above n zs → list_any (equals y) zs ≡ false
  none_equal y n [] lt h = refl
  none_equal y n (z ∷ zs) lt h =
      let other : equals y z ≡ false = eqb_false (number z) (number y) (omega (arith, h.0)) in
      rw other (none_equal y n zs lt h.1)
    where
      eqb_false : (a b : ℕ) → b < a → (a == b) ≡ false
      eqb_false a b lt = grind (arith, nat_tests)

  -- sorted numbers rise exactly where none repeats
  pub sorted_rises : (ys : List T) → Sorted ys → rises number ys ≡ not (repeats number ys)
  sorted_rises [] h = refl
  sorted_rises (y ∷ []) h = refl
  sorted_rises (y ∷ z ∷ zs) h = elim (cases_lt (number y) (number z)) [
    | inl lt ↦
        let tested : nat_lt (number y) (number z) ≡ true = lt-ltb _ _ lt in
        let none : list_any (equals y) (z ∷ zs) ≡ false = none_equal y (number z) (z ∷ zs) lt (omega arith, h.1.0) in
        rw (tested, none) (sorted_rises (z ∷ zs) h.1)
    | inr ge ↦
        let tested : nat_lt (number y) (number z) ≡ false = le-ltb _ _ ge in
        let equal : equals y z ≡ true = eq-eqb (number z) (number y) (omega (arith, ge, h.0.0)) in
        rw (tested, equal) refl
  ]

  -- in ascending order numbers rise exactly where none repeats
  pub ascending_rises : (xs : List T) → rises number (ascending number xs) ≡ not (repeats number xs)
  ascending_rises xs = sorted_rises (ascending number xs) (ascending_sorted xs) ∙ ap not (ascending_repeats xs)
