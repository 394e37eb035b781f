-- A search among the entries is one among the numbers.
use Rattle.std.proofs.Common.{◌≡◌, ℕ, zero, suc, ◌+◌, Bool, true, false, cond, List, [], ◌∷◌, Option, Some, None, refl, sym, ◌∙◌, ap, subst, arith, slice_get, get_or}
use Rattle.std.specs.Prelude.{position, if◌then◌else◌, drop, ◌-◌, ◌<◌, ◌≤◌}
use Rattle.std.specs.List.{position_from}
use Rattle.std.specs.Option.{option_map}
use Rattle.std.proofs.lemmas.Iterator.Adapters.{position_from-zero}
use Rattle.std.proofs.lemmas.List.Quantifiers.{position-Some}
use Rattle.std.proofs.lemmas.Option.{slice_get-get_or}
use Rattle.ug_queue.specs.Spread.{numbered, value_of}
use Rattle.ug_groups.specs.Scans.{first_of, number_at}

one_on : Option ℕ → Option ℕ
one_on None = None
one_on (Some i) = Some (i + 1)

module _ {T : Type 0} where
  abbrev number_in : Option (ℕ × T) → ℕ
  number_in None = 0
  number_in (Some r) = r.0

  abbrev value_in : Option (ℕ × T) → Option T
  value_in None = None
  value_in (Some r) = Some r.1

  -- the entry at a place is there under its number
  pub numbered_at : (g i k : ℕ) (x : T) (xs : List (Option T)) → slice_get (numbered g xs) i ≡ Some (k, x) → (h : ℕ) × (k ≡ g + h) × (value_of h xs ≡ Some x)
  numbered_at g i k x [] e = absurd cc
  numbered_at g i k x (None ∷ xs) e = let later = numbered_at (g + 1) i k x xs e in (suc later.0, (let is = later.1 in omega (arith, is)), later.2)
  numbered_at g zero k x (Some y ∷ xs) e = (0, (let same : g ≡ k = ap number_in e in omega (arith, same)), ap value_in e)
  numbered_at g (suc i) k x (Some y ∷ xs) e = let later = numbered_at (g + 1) i k x xs e in (suc later.0, (let is = later.1 in omega (arith, is)), later.2)

  pub entry_at : (i k : ℕ) (x : T) (xs : List (Option T)) → slice_get (numbered 0 xs) i ≡ Some (k, x) → value_of k xs ≡ Some x
  entry_at i k x xs e = let found = numbered_at 0 i k x xs e in let same : found.0 ≡ k = (let is = found.1 in omega (arith, is)) in subst (λ (n : ℕ). value_of n xs ≡ Some x) same found.2

  abbrev on_row : (ℕ → T → Bool) → ℕ × T → Bool
  on_row test r = test r.0 r.1

  -- ---- the first that passes

  pub first_none : (test : ℕ → T → Bool) (g : ℕ) (xs : List (Option T)) → first_of test g xs ≡ None → (h : ℕ) (x : T) → value_of h xs ≡ Some x → test (g + h) x ≡ false
  first_none test g [] none h x is = absurd cc
  first_none test g (None ∷ xs) none zero x is = absurd cc
  first_none test g (None ∷ xs) none (suc h) x is = let number : g + 1 + h ≡ g + suc h = omega arith in ap (λ (n : ℕ). test n x) (sym number) ∙ first_none test (g + 1) xs none h x is
  first_none test g (Some y ∷ xs) none h x is = by (test g y) refl none h is (first_none test (g + 1) xs)
    where
      by : (b : Bool) → test g y ≡ b → (if b then Some g else first_of test (g + 1) xs) ≡ None → (h : ℕ) → value_of h (Some y ∷ xs) ≡ Some x
          → (first_of test (g + 1) xs ≡ None → (h : ℕ) (x : T) → value_of h xs ≡ Some x → test (g + 1 + h) x ≡ false) → test (g + h) x ≡ false
      by true t none h is later = absurd cc
      by false t none zero is later = let number : g + 0 ≡ g = omega arith in let same : y ≡ x = cc in ap (λ (n : ℕ). test n x) number ∙ ap (test g) (sym same) ∙ t
      by false t none (suc h) is later = let number : g + 1 + h ≡ g + suc h = omega arith in ap (λ (n : ℕ). test n x) (sym number) ∙ later none h x is

  pub first_some : (test : ℕ → T → Bool) (g n : ℕ) (xs : List (Option T)) → first_of test g xs ≡ Some n → (h : ℕ) × (x : T) × (n ≡ g + h) × (value_of h xs ≡ Some x) × (test n x ≡ true)
  first_some test g n [] is = absurd cc
  first_some test g n (None ∷ xs) is = let later = first_some test (g + 1) n xs is in (suc later.0, later.1, (let e = later.2 in omega (arith, e)), later.3, later.4)
  first_some test g n (Some y ∷ xs) is = by (test g y) refl is (first_some test (g + 1) n xs)
    where
      by : (b : Bool) → test g y ≡ b → (if b then Some g else first_of test (g + 1) xs) ≡ Some n
          → (first_of test (g + 1) xs ≡ Some n → (h : ℕ) × (x : T) × (n ≡ g + 1 + h) × (value_of h xs ≡ Some x) × (test n x ≡ true))
          → (h : ℕ) × (x : T) × (n ≡ g + h) × (value_of h (Some y ∷ xs) ≡ Some x) × (test n x ≡ true)
      by true t is later = let same : g ≡ n = cc in (0, y, (omega (arith, same)), refl, ap (λ (m : ℕ). test m y) (sym same) ∙ t)
      by false t is later = let found = later is in (suc found.0, found.1, (let e = found.2 in omega (arith, e)), found.3, found.4)

  pub first_before : (test : ℕ → T → Bool) (g n : ℕ) (xs : List (Option T)) → first_of test g xs ≡ Some n → (h : ℕ) (x : T) → value_of h xs ≡ Some x → g + h < n → test (g + h) x ≡ false
  first_before test g n [] is h x there less = absurd cc
  first_before test g n (None ∷ xs) is zero x there less = absurd cc
  first_before test g n (None ∷ xs) is (suc h) x there less = let number : g + 1 + h ≡ g + suc h = omega arith in ap (λ (m : ℕ). test m x) (sym number) ∙ first_before test (g + 1) n xs is h x there (omega (arith, less))
  first_before test g n (Some y ∷ xs) is h x there less = by (test g y) refl is h there less (first_before test (g + 1) n xs)
    where
      by : (b : Bool) → test g y ≡ b → (if b then Some g else first_of test (g + 1) xs) ≡ Some n → (h : ℕ) → value_of h (Some y ∷ xs) ≡ Some x → g + h < n
          → (first_of test (g + 1) xs ≡ Some n → (h : ℕ) (x : T) → value_of h xs ≡ Some x → g + 1 + h < n → test (g + 1 + h) x ≡ false) → test (g + h) x ≡ false
      by true t is h there less later = let same : g ≡ n = cc in absurd (omega (arith, same, less))
      by false t is zero there less later = let number : g + 0 ≡ g = omega arith in let same : y ≡ x = cc in ap (λ (m : ℕ). test m x) number ∙ ap (test g) (sym same) ∙ t
      by false t is (suc h) there less later = let number : g + 1 + h ≡ g + suc h = omega arith in ap (λ (m : ℕ). test m x) (sym number) ∙ later is h x there (omega (arith, less))

  -- ---- the first that passes from a number on

  nothing_in : (k : ℕ) (xs : List (Option T)) → xs ≡ [] → value_of k xs ≡ None
  nothing_in zero [] e = refl
  nothing_in (suc k) [] e = refl
  nothing_in k (o ∷ xs) e = absurd cc

  value_drop : (f h : ℕ) (xs : List (Option T)) → value_of (f + h) xs ≡ value_of h (drop f xs)
  value_drop zero h xs = let number : 0 + h ≡ h = omega arith in ap (λ (m : ℕ). value_of m xs) number
  value_drop (suc f) h [] = nothing_in (suc f + h) [] refl ∙ sym (nothing_in h [] refl)
  value_drop (suc f) h (o ∷ xs) = let number : suc f + h ≡ suc (f + h) = omega arith in ap (λ (m : ℕ). value_of m (o ∷ xs)) number ∙ value_drop f h xs

  pub from_there : (test : ℕ → T → Bool) (f n : ℕ) (xs : List (Option T)) → first_of test f (drop f xs) ≡ Some n → (f ≤ n) × (x : T) × (value_of n xs ≡ Some x)
  from_there test f n xs is =
      let found = first_some test f n (drop f xs) is in let number = found.2 in
      (omega (arith, number), found.1, ap (λ (m : ℕ). value_of m xs) number ∙ value_drop f found.0 xs ∙ found.3)

  value_behind : (f k : ℕ) (x : T) (xs : List (Option T)) → f + (k - f) ≡ k → value_of k xs ≡ Some x → value_of (k - f) (drop f xs) ≡ Some x
  value_behind f k x xs number there = sym (value_drop f (k - f) xs) ∙ ap (λ (m : ℕ). value_of m xs) number ∙ there

  pub from_before : (test : ℕ → T → Bool) (f n k : ℕ) (xs : List (Option T)) (x : T) → first_of test f (drop f xs) ≡ Some n → f ≤ k → k < n → value_of k xs ≡ Some x → test k x ≡ false
  from_before test f n k xs x is le less there =
      let number : f + (k - f) ≡ k = omega (arith, le) in
      ap (λ (m : ℕ). test m x) (sym number) ∙ first_before test f n (drop f xs) is (k - f) x (value_behind f k x xs number there) (omega (arith, number, less))

  pub from_none : (test : ℕ → T → Bool) (f k : ℕ) (xs : List (Option T)) (x : T) → first_of test f (drop f xs) ≡ None → f ≤ k → value_of k xs ≡ Some x → test k x ≡ false
  from_none test f k xs x is le there =
      let number : f + (k - f) ≡ k = omega (arith, le) in
      ap (λ (m : ℕ). test m x) (sym number) ∙ first_none test f (drop f xs) is (k - f) x (value_behind f k x xs number there)

  -- ---- by place

  first_in : (ℕ × T → Bool) → List (ℕ × T) → Option ℕ
  first_in p [] = None
  first_in p (r ∷ rows) = cond (p r) (Some r.0) (first_in p rows)

  shifted : (p : ℕ × T → Bool) (n : ℕ) (rows : List (ℕ × T)) → position_from p (n + 1) rows ≡ one_on (position_from p n rows)
  unfolding one_on
  shifted p n [] = refl
  shifted p n (r ∷ rows) = by (p r) (shifted p (n + 1) rows)
    where
      by : (b : Bool) → position_from p (n + 1 + 1) rows ≡ one_on (position_from p (n + 1) rows) → cond b (Some (n + 1)) (position_from p (n + 1 + 1) rows) ≡ one_on (cond b (Some n) (position_from p (n + 1) rows))
      by true h = refl
      by false h = h

  behind : (o : Option ℕ) (r : ℕ × T) (rows : List (ℕ × T)) → number_at (one_on o) (r ∷ rows) ≡ number_at o rows
  unfolding one_on
  behind None r rows = refl
  behind (Some i) r rows = let next : i + 1 ≡ suc i = omega arith in ap (λ (k : ℕ). option_map (λ (s : ℕ × T). s.0) (slice_get (r ∷ rows) k)) next

  placed : (p : ℕ × T → Bool) (rows : List (ℕ × T)) → number_at (position_from p 0 rows) rows ≡ first_in p rows
  unfolding first_in
  placed p [] = refl
  placed p (r ∷ rows) = by (p r) (placed p rows)
    where
      by : (b : Bool) → number_at (position_from p 0 rows) rows ≡ first_in p rows → number_at (cond b (Some 0) (position_from p (0 + 1) rows)) (r ∷ rows) ≡ cond b (Some r.0) (first_in p rows)
      by true h = refl
      by false h = ap (λ (o : Option ℕ). number_at o (r ∷ rows)) (shifted p 0 rows) ∙ behind (position_from p 0 rows) r rows ∙ h

  first_listed : (test : ℕ → T → Bool) (g : ℕ) (xs : List (Option T)) → first_in (on_row test) (numbered g xs) ≡ first_of test g xs
  unfolding first_in
  first_listed test g [] = refl
  first_listed test g (None ∷ xs) = first_listed test (g + 1) xs
  first_listed test g (Some x ∷ xs) = by (test g x) (first_listed test (g + 1) xs)
    where
      by : (b : Bool) → first_in (on_row test) (numbered (g + 1) xs) ≡ first_of test (g + 1) xs → cond b (Some g) (first_in (on_row test) (numbered (g + 1) xs)) ≡ (if b then Some g else first_of test (g + 1) xs)
      by true h = refl
      by false h = h

  -- the number of the entry where the search ends is that of the first that passes
  pub number_first_from : (test : ℕ → T → Bool) (g : ℕ) (xs : List (Option T)) → number_at (position (on_row test) (numbered g xs)) (numbered g xs) ≡ first_of test g xs
  number_first_from test g xs = ap (λ (o : Option ℕ). number_at o (numbered g xs)) (position_from-zero (on_row test) (numbered g xs)) ∙ placed (on_row test) (numbered g xs) ∙ first_listed test g xs

  pub number_first : (test : ℕ → T → Bool) (xs : List (Option T)) → number_at (position (on_row test) (numbered 0 xs)) (numbered 0 xs) ≡ first_of test 0 xs
  number_first test xs = number_first_from test 0 xs

  -- ---- the place itself

  pub place_some : (p : ℕ × T → Bool) (i : ℕ) (r : ℕ × T) (xs : List (Option T)) → position p (numbered 0 xs) ≡ Some i → (p (get_or (numbered 0 xs) i r) ≡ true) × (value_of (get_or (numbered 0 xs) i r).0 xs ≡ Some (get_or (numbered 0 xs) i r).1)
  place_some p i r xs e =
      let found = position-Some p (numbered 0 xs) i r e in let row = get_or (numbered 0 xs) i r in
      (found.1, entry_at i row.0 row.1 xs (slice_get-get_or (numbered 0 xs) i r found.0))

  pub place_none : (test : ℕ → T → Bool) (xs : List (Option T)) → position (on_row test) (numbered 0 xs) ≡ None → (h : ℕ) (x : T) → value_of h xs ≡ Some x → test h x ≡ false
  place_none test xs e h x is =
      let none : first_of test 0 xs ≡ None = sym (number_first test xs) ∙ ap (λ (o : Option ℕ). number_at o (numbered 0 xs)) e in
      let number : 0 + h ≡ h = omega arith in ap (λ (n : ℕ). test n x) (sym number) ∙ first_none test 0 xs none h x is

  -- one that is there has a place
  pub placed_entry : (g h : ℕ) (x : T) (xs : List (Option T)) → value_of h xs ≡ Some x → (i : ℕ) × (slice_get (numbered g xs) i ≡ Some (g + h, x))
  placed_entry g h x [] e = absurd cc
  placed_entry g zero x (None ∷ xs) e = absurd cc
  placed_entry g (suc h) x (None ∷ xs) e =
      let later = placed_entry (g + 1) h x xs e in let number : g + 1 + h ≡ g + suc h = omega arith in
      (later.0, later.1 ∙ ap (λ (n : ℕ). Some (n, x)) number)
  placed_entry g zero x (Some y ∷ xs) e = let number : g ≡ g + 0 = omega arith in (0, ap (λ (n : ℕ). Some (n, y)) number ∙ ap (λ (o : Option T). option_map (λ (z : T). (g + 0, z)) o) e)
  placed_entry g (suc h) x (Some y ∷ xs) e =
      let later = placed_entry (g + 1) h x xs e in let number : g + 1 + h ≡ g + suc h = omega arith in
      (suc later.0, later.1 ∙ ap (λ (n : ℕ). Some (n, x)) number)
