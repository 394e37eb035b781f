-- Laws of the list that only grows.
use Rattle.std.proofs.Common.{◌≡◌, ℕ, ◌+◌, ◌<◌, ◌≤◌, zero, suc, Bool, true, false, List, [], ◌∷◌, ◌++◌, length, Option, Some, None, refl, sym, ◌∙◌, ap, subst, arith}
use Rattle.std.specs.Prelude.{◌==◌, if◌then◌else◌, slice_get, slice_set, remove, drop}
use Rattle.std.proofs.Common.{inl, inr, ◌⊎◌}
use Rattle.std.proofs.lemmas.Bool.{eqb-true, eq-eqb, cases_lt}
use Rattle.std.proofs.lemmas.Option.{slice_get_within}
use Rattle.std.specs.Prelude.{nat_lt, slice_index_or}
use Rattle.std.specs.List.Sorted.{IsPartitionedBy, IsPartitionPoint}
use Rattle.std.proofs.lemmas.Option.{slice_get-get_or, get_or_from_slice_get, slice_get_read}
use Rattle.std.proofs.lemmas.Bool.Decides.{nat_tests}
use Rattle.ug_queue.specs.Spread.{spread_from, Rise, numbered, value_of, flat, HasNone, IsPlace}

apart_is : (k g : ℕ) → (k ≡ g → ⊥) → (k == g) ≡ false
apart_is k g differs = by (k == g) refl
  where
    by : (b : Bool) → (k == g) ≡ b → b ≡ false
    by true e = absurd (differs (eqb-true k g e))
    by false e = refl

strict : (k j : ℕ) → j ≤ k → (k ≡ j → ⊥) → j + 1 ≤ k
strict k j le differs = grind (arith, le, differs)

cases_le : (i j : ℕ) → i ≤ j → (i ≡ j) ⊎ (i < j)
cases_le i j le = elim (cases_lt i j) [ inl less ↦ inr less | inr over ↦ inl (omega (arith, le, over)) ]

module _ {T : Type 0} where
  pub spread-length : (g n : ℕ) (rows : List (ℕ × T)) → length (spread_from g n rows) ≡ n
  spread-length g zero rows = refl
  spread-length g (suc n) [] = let rest = spread-length (g + 1) n [] in omega (arith, rest)
  spread-length g (suc n) (r ∷ rows) = by (r.0 == g) (spread-length (g + 1) n rows) (spread-length (g + 1) n (r ∷ rows))
    where
      by : (b : Bool) → length (spread_from (g + 1) n rows) ≡ n → length (spread_from (g + 1) n (r ∷ rows)) ≡ n
          → length (if b then Some r.1 ∷ spread_from (g + 1) n rows else None ∷ spread_from (g + 1) n (r ∷ rows)) ≡ suc n
      by true e d = omega (arith, e)
      by false e d = omega (arith, d)

  -- rows that rise from a number on rise from the next, where the first isn't there
  rise_next : (g end : ℕ) (r : ℕ × T) (rows : List (ℕ × T)) → (r.0 == g) ≡ false → Rise g end (r ∷ rows) → Rise (g + 1) end (r ∷ rows)
  rise_next g end r rows e (from, below, more) = (next (r.0 == g) refl e, below, more)
    where
      next : (b : Bool) → (r.0 == g) ≡ b → b ≡ false → g + 1 ≤ r.0
      next true at f = absurd cc
      next false at f = strict r.0 g from (λ same. absurd (let z = sym at ∙ eq-eqb r.0 g same in cc))

  rise_behind : (g end : ℕ) (r : ℕ × T) (rows : List (ℕ × T)) → (r.0 == g) ≡ true → Rise g end (r ∷ rows) → Rise (g + 1) end rows
  rise_behind g end r rows e (from, below, more) = subst (λ (k : ℕ). Rise (k + 1) end rows) (eqb-true r.0 g e) more

  moved_end : (g n : ℕ) (rows : List (ℕ × T)) → Rise (g + 1) (g + suc n) rows → Rise (g + 1) (g + 1 + n) rows
  moved_end g n rows h = let same : g + suc n ≡ g + 1 + n = omega arith in subst (λ (k : ℕ). Rise (g + 1) k rows) same h

  -- ---- one more

  none_left : (g : ℕ) (rows : List (ℕ × T)) → Rise g (g + 0) rows → rows ≡ []
  none_left g [] h = refl
  none_left g (r ∷ rows) (from, below, more) = absurd (omega (arith, from, below))

  first_here : (g : ℕ) (x : T) → spread_from g (0 + 1) ((g + 0, x) ∷ []) ≡ Some x ∷ []
  first_here g x =
      let same : (g + 0 == g) ≡ true = eq-eqb (g + 0) g (omega arith) in
      ap (λ (b : Bool). if b then Some x ∷ [] else None ∷ []) same

  pub spread-more : (g n : ℕ) (x : T) (rows : List (ℕ × T)) → Rise g (g + n) rows → spread_from g (n + 1) (rows ++ (g + n, x) ∷ []) ≡ spread_from g n rows ++ Some x ∷ []
  spread-more g zero x rows h = ap (λ (rs : List (ℕ × T)). spread_from g (0 + 1) (rs ++ (g + 0, x) ∷ [])) (none_left g rows h) ∙ first_here g x
  spread-more g (suc n) x [] h =
      let apart : (g + suc n == g) ≡ false = apart_is (g + suc n) g (λ e. absurd (omega (arith, e))) in
      let next : g + suc n ≡ g + 1 + n = omega arith in
      let count : suc n + 1 ≡ suc (n + 1) = omega arith in
      ap (λ (m : ℕ). spread_from g m ((g + suc n, x) ∷ [])) count
      ∙ ap (λ (b : Bool). if b then Some x ∷ spread_from (g + 1) (n + 1) [] else None ∷ spread_from (g + 1) (n + 1) ((g + suc n, x) ∷ [])) apart
      ∙ ap (λ (k : ℕ). None ∷ spread_from (g + 1) (n + 1) ((k, x) ∷ [])) next
      ∙ ap (λ (xs : List (Option T)). None ∷ xs) (spread-more (g + 1) n x [] tt)
  spread-more g (suc n) x (r ∷ rows) h =
      let next : g + suc n ≡ g + 1 + n = omega arith in
      let count : suc n + 1 ≡ suc (n + 1) = omega arith in
      ap (λ (m : ℕ). spread_from g m (r ∷ rows ++ (g + suc n, x) ∷ [])) count
      ∙ by (r.0 == g) refl
      (λ e. ap (λ (k : ℕ). spread_from (g + 1) (n + 1) (rows ++ (k, x) ∷ [])) next ∙ spread-more (g + 1) n x rows (moved_end g n rows (rise_behind g (g + suc n) r rows e h)))
      (λ e. ap (λ (k : ℕ). spread_from (g + 1) (n + 1) (r ∷ rows ++ (k, x) ∷ [])) next ∙ spread-more (g + 1) n x (r ∷ rows) (moved_end g n (r ∷ rows) (rise_next g (g + suc n) r rows e h)))
    where
      by : (b : Bool) → (r.0 == g) ≡ b
          → ((r.0 == g) ≡ true → spread_from (g + 1) (n + 1) (rows ++ (g + suc n, x) ∷ []) ≡ spread_from (g + 1) n rows ++ Some x ∷ [])
          → ((r.0 == g) ≡ false → spread_from (g + 1) (n + 1) (r ∷ rows ++ (g + suc n, x) ∷ []) ≡ spread_from (g + 1) n (r ∷ rows) ++ Some x ∷ [])
          → (if b then Some r.1 ∷ spread_from (g + 1) (n + 1) (rows ++ (g + suc n, x) ∷ []) else None ∷ spread_from (g + 1) (n + 1) (r ∷ rows ++ (g + suc n, x) ∷ []))
          ≡ (if b then Some r.1 ∷ spread_from (g + 1) n rows else None ∷ spread_from (g + 1) n (r ∷ rows)) ++ Some x ∷ []
      by true e here there = ap (λ (xs : List (Option T)). Some r.1 ∷ xs) (here e)
      by false e here there = ap (λ (xs : List (Option T)). None ∷ xs) (there e)

  -- ---- numbers that rise

  pub rise_from : (g h end : ℕ) (rows : List (ℕ × T)) → g ≤ h → Rise h end rows → Rise g end rows
  rise_from g h end [] le rise = tt
  rise_from g h end (r ∷ rows) le (from, below, more) = (omega (arith, le, from), below, more)

  pub rise_more : (g k : ℕ) (x : T) (rows : List (ℕ × T)) → g ≤ k → Rise g k rows → Rise g (k + 1) (rows ++ (k, x) ∷ [])
  rise_more g k x [] le h = (le, omega arith, tt)
  rise_more g k x (r ∷ rows) le (from, below, more) = (from, omega (arith, below), rise_more (r.0 + 1) k x rows (omega (arith, below)) more)

  pub rise_within : (g end i : ℕ) (r : ℕ × T) (rows : List (ℕ × T)) → Rise g end rows → slice_get rows i ≡ Some r → (g ≤ r.0) × (r.0 < end)
  rise_within g end i r [] h e = absurd cc
  rise_within g end zero r (s ∷ rows) (from, below, more) e = let same : s ≡ r = cc in subst (λ (t : ℕ × T). (g ≤ t.0) × (t.0 < end)) same (from, below)
  rise_within g end (suc i) r (s ∷ rows) (from, below, more) e = let later = rise_within (s.0 + 1) end i r rows more e in (omega (arith, from, later.0), later.1)

  pub rise_order : (g end i j : ℕ) (r s : ℕ × T) (rows : List (ℕ × T)) → Rise g end rows → i < j → slice_get rows i ≡ Some r → slice_get rows j ≡ Some s → r.0 < s.0
  rise_order g end i j r s [] h less e f = absurd cc
  rise_order g end i zero r s (t ∷ rows) h less e f = absurd (omega (arith, less))
  rise_order g end zero (suc j) r s (t ∷ rows) (from, below, more) less e f =
      let same : t ≡ r = cc in let later = rise_within (t.0 + 1) end j s rows more f in
      subst (λ (u : ℕ × T). u.0 < s.0) same (omega (arith, later.0))
  rise_order g end (suc i) (suc j) r s (t ∷ rows) (from, below, more) less e f = rise_order (t.0 + 1) end i j r s rows more (omega (arith, less)) e f

  -- the row at a place has another value, or is taken out
  abbrev pub edited : Option T → List (ℕ × T) → ℕ → ℕ → List (ℕ × T)
  edited o [] i k = []
  edited None (r ∷ rows) zero k = rows
  edited (Some w) (r ∷ rows) zero k = (k, w) ∷ rows
  edited o (r ∷ rows) (suc i) k = r ∷ edited o rows i k

  pub edited-set : (w : T) (rows : List (ℕ × T)) (i k : ℕ) → edited (Some w) rows i k ≡ slice_set rows i (k, w)
  edited-set w [] i k = refl
  edited-set w (r ∷ rows) zero k = refl
  edited-set w (r ∷ rows) (suc i) k = ap (λ (rs : List (ℕ × T)). r ∷ rs) (edited-set w rows i k)

  pub edited-remove : (rows : List (ℕ × T)) (i k : ℕ) → edited None rows i k ≡ remove rows i
  edited-remove [] zero k = refl
  edited-remove [] (suc i) k = refl
  edited-remove (r ∷ rows) zero k = refl
  edited-remove (r ∷ rows) (suc i) k = ap (λ (rs : List (ℕ × T)). r ∷ rs) (edited-remove rows i k)

  abbrev number_of : Option (ℕ × T) → ℕ
  number_of None = 0
  number_of (Some t) = t.0

  pub rise_edited : (o : Option T) (g end i k : ℕ) (x : T) (rows : List (ℕ × T)) → Rise g end rows → slice_get rows i ≡ Some (k, x) → Rise g end (edited o rows i k)
  rise_edited o g end i k x [] h e = tt
  rise_edited None g end zero k x (r ∷ rows) (from, below, more) e = rise_from g (r.0 + 1) end rows (omega (arith, from)) more
  rise_edited (Some w) g end zero k x (r ∷ rows) (from, below, more) e =
      let same : r.0 ≡ k = ap (λ (o : Option (ℕ × T)). number_of o) e in
      subst (λ (n : ℕ). (g ≤ n) × (n < end) × Rise (n + 1) end rows) same (from, below, more)
  rise_edited o g end (suc i) k x (r ∷ rows) (from, below, more) e = (from, below, rise_edited o (r.0 + 1) end i k x rows more e)

  -- ---- one row, and its number

  taken : (g n : ℕ) (r : ℕ × T) (rows : List (ℕ × T)) (b : Bool) → (r.0 == g) ≡ b
      → spread_from g (suc n) (r ∷ rows) ≡ (if b then Some r.1 ∷ spread_from (g + 1) n rows else None ∷ spread_from (g + 1) n (r ∷ rows))
  taken g n r rows b e = ap (λ (x : Bool). if x then Some r.1 ∷ spread_from (g + 1) n rows else None ∷ spread_from (g + 1) n (r ∷ rows)) e

  -- rows behind a number, from it on
  skipped : (g n end : ℕ) (rows : List (ℕ × T)) → Rise (g + 1) end rows → spread_from g (suc n) rows ≡ None ∷ spread_from (g + 1) n rows
  skipped g n end [] h = refl
  skipped g n end (r ∷ rows) (from, below, more) = taken g n r rows false (apart_is r.0 g (λ e. absurd (omega (arith, e, from))))

  first_is : (k g : ℕ) (x : T) (r : ℕ × T) (rows : List (ℕ × T)) → k ≡ g → slice_get (r ∷ rows) 0 ≡ Some (k, x) → (r.0 == g) ≡ true
  first_is k g x r rows same e = let row : r.0 ≡ k = ap (λ (o : Option (ℕ × T)). number_of o) e in eq-eqb r.0 g (row ∙ same)

  abbrev value_in : T → Option (ℕ × T) → T
  value_in d None = d
  value_in d (Some t) = t.1

  first_value : (k : ℕ) (x : T) (r : ℕ × T) (rows : List (ℕ × T)) → slice_get (r ∷ rows) 0 ≡ Some (k, x) → r.1 ≡ x
  first_value k x r rows e = ap (λ (o : Option (ℕ × T)). value_in x o) e

  abbrev Later : Option T → ℕ → ℕ → ℕ → T → ℕ → List (ℕ × T) → Type 0
  Later o g n p x j rows = Rise (g + 1) (g + 1 + n) rows → slice_get rows j ≡ Some (g + 1 + p, x)
      → (spread_from (g + 1) n (edited o rows j (g + 1 + p)) ≡ slice_set (spread_from (g + 1) n rows) p o) × (slice_get (spread_from (g + 1) n rows) p ≡ Some (Some x))

  pub spread-edited : (o : Option T) (g n i p : ℕ) (x : T) (rows : List (ℕ × T)) → Rise g (g + n) rows → slice_get rows i ≡ Some (g + p, x)
      → (spread_from g n (edited o rows i (g + p)) ≡ slice_set (spread_from g n rows) p o) × (slice_get (spread_from g n rows) p ≡ Some (Some x))
  spread-edited o g zero i p x rows h e = absurd (let none : slice_get rows i ≡ None = ap (λ (rs : List (ℕ × T)). slice_get rs i) (none_left g rows h) in cc)
  spread-edited o g (suc n) i p x [] h e = absurd cc
  spread-edited o g (suc n) (suc i) zero x (r ∷ rows) (from, below, more) e =
      let later = rise_within (r.0 + 1) (g + suc n) i (g + 0, x) rows more e in absurd (omega (arith, later.0, from))
  spread-edited None g (suc n) zero zero x (r ∷ rows) h e =
      let here : (r.0 == g) ≡ true = first_is (g + 0) g x r rows (omega arith) e in
      let row : r.1 ≡ x = first_value (g + 0) x r rows e in
      let behind = rise_behind g (g + suc n) r rows here h in
      let all = taken g n r rows true here in
      (skipped g n (g + suc n) rows behind ∙ ap (λ (xs : List (Option T)). slice_set xs 0 None) (sym all), ap (λ (xs : List (Option T)). slice_get xs 0) all ∙ ap (λ (y : T). Some (Some y)) row)
  spread-edited (Some w) g (suc n) zero zero x (r ∷ rows) h e =
      let here : (r.0 == g) ≡ true = first_is (g + 0) g x r rows (omega arith) e in
      let row : r.1 ≡ x = first_value (g + 0) x r rows e in
      let all = taken g n r rows true here in
      (taken g n (g + 0, w) rows true (eq-eqb (g + 0) g (omega arith)) ∙ ap (λ (xs : List (Option T)). slice_set xs 0 (Some w)) (sym all), ap (λ (xs : List (Option T)). slice_get xs 0) all ∙ ap (λ (y : T). Some (Some y)) row)
  spread-edited o g (suc n) i (suc p) x (r ∷ rows) h e = by (r.0 == g) refl i e (λ j. spread-edited o (g + 1) n j p x rows) (λ j. spread-edited o (g + 1) n j p x (r ∷ rows))
    where
      number : g + 1 + p ≡ g + suc p
      number = omega arith

      by : (b : Bool) → (r.0 == g) ≡ b → (i : ℕ) → slice_get (r ∷ rows) i ≡ Some (g + suc p, x) → ((j : ℕ) → Later o g n p x j rows) → ((j : ℕ) → Later o g n p x j (r ∷ rows))
          → (spread_from g (suc n) (edited o (r ∷ rows) i (g + suc p)) ≡ slice_set (spread_from g (suc n) (r ∷ rows)) (suc p) o) × (slice_get (spread_from g (suc n) (r ∷ rows)) (suc p) ≡ Some (Some x))
      by true here zero f front back = absurd (let row : r.0 ≡ g + suc p = ap (λ (o : Option (ℕ × T)). number_of o) f in let same = eqb-true r.0 g here in omega (arith, row, same))
      by true here (suc i) f front back =
          let later = front i (moved_end g n rows (rise_behind g (g + suc n) r rows here h)) (subst (λ (k : ℕ). slice_get rows i ≡ Some (k, x)) (sym number) f) in
          let all = taken g n r rows true here in (
            taken g n r (edited o rows i (g + suc p)) true here ∙ ap (λ (k : ℕ). Some r.1 ∷ spread_from (g + 1) n (edited o rows i k)) (sym number) ∙ ap (λ (xs : List (Option T)). Some r.1 ∷ xs) later.0
                ∙ ap (λ (xs : List (Option T)). slice_set xs (suc p) o) (sym all),
            ap (λ (xs : List (Option T)). slice_get xs (suc p)) all ∙ later.1,
          )
      by false here i f front back =
          let next = rise_next g (g + suc n) r rows here h in
          let later = back i (moved_end g n (r ∷ rows) next) (subst (λ (k : ℕ). slice_get (r ∷ rows) i ≡ Some (k, x)) (sym number) f) in
          let all = taken g n r rows false here in (
            skipped g n (g + suc n) (edited o (r ∷ rows) i (g + suc p)) (rise_edited o (g + 1) (g + suc n) i (g + suc p) x (r ∷ rows) next f)
                ∙ ap (λ (k : ℕ). None ∷ spread_from (g + 1) n (edited o (r ∷ rows) i k)) (sym number) ∙ ap (λ (xs : List (Option T)). None ∷ xs) later.0
                ∙ ap (λ (xs : List (Option T)). slice_set xs (suc p) o) (sym all),
            ap (λ (xs : List (Option T)). slice_get xs (suc p)) all ∙ later.1,
          )

  -- ---- a number without a row

  pub spread-none : (g n p : ℕ) (rows : List (ℕ × T)) → HasNone (g + p) rows → value_of p (spread_from g n rows) ≡ None
  spread-none g zero p rows h = refl
  spread-none g (suc n) zero [] h = refl
  spread-none g (suc n) (suc p) [] h = spread-none (g + 1) n p [] (λ i r e f. absurd cc)
  spread-none g (suc n) zero (r ∷ rows) h =
      ap (λ (xs : List (Option T)). value_of 0 xs) (taken g n r rows false (apart_is r.0 g (λ same. h 0 r refl (let none : g + 0 ≡ g = omega arith in same ∙ sym none))))
  spread-none g (suc n) (suc p) (r ∷ rows) h = by (r.0 == g) refl (spread-none (g + 1) n p rows (λ i s e f. h (suc i) s e (f ∙ number))) (spread-none (g + 1) n p (r ∷ rows) (λ i s e f. h i s e (f ∙ number)))
    where
      number : g + 1 + p ≡ g + suc p
      number = omega arith

      by : (b : Bool) → (r.0 == g) ≡ b → value_of p (spread_from (g + 1) n rows) ≡ None → value_of p (spread_from (g + 1) n (r ∷ rows)) ≡ None → value_of (suc p) (spread_from g (suc n) (r ∷ rows)) ≡ None
      by true e here there = ap (λ (xs : List (Option T)). value_of (suc p) xs) (taken g n r rows true e) ∙ here
      by false e here there = ap (λ (xs : List (Option T)). value_of (suc p) xs) (taken g n r rows false e) ∙ there

  -- ---- the rows again

  pub spread-numbered : (g n : ℕ) (rows : List (ℕ × T)) → Rise g (g + n) rows → numbered g (spread_from g n rows) ≡ rows
  spread-numbered g zero rows h = sym (none_left g rows h)
  spread-numbered g (suc n) [] h = spread-numbered (g + 1) n [] tt
  spread-numbered g (suc n) (r ∷ rows) h = by (r.0 == g) refl (spread-numbered (g + 1) n rows) (spread-numbered (g + 1) n (r ∷ rows))
    where
      by : (b : Bool) → (r.0 == g) ≡ b → (Rise (g + 1) (g + 1 + n) rows → numbered (g + 1) (spread_from (g + 1) n rows) ≡ rows) → (Rise (g + 1) (g + 1 + n) (r ∷ rows) → numbered (g + 1) (spread_from (g + 1) n (r ∷ rows)) ≡ r ∷ rows) → numbered g (spread_from g (suc n) (r ∷ rows)) ≡ r ∷ rows
      by true e front back =
          let same = eqb-true r.0 g e in
          ap (λ (xs : List (Option T)). numbered g xs) (taken g n r rows true e)
          ∙ ap (λ (xs : List (ℕ × T)). (g, r.1) ∷ xs) (front (moved_end g n rows (rise_behind g (g + suc n) r rows e h)))
          ∙ ap (λ (k : ℕ). (k, r.1) ∷ rows) (sym same)
      by false e front back =
          ap (λ (xs : List (Option T)). numbered g xs) (taken g n r rows false e) ∙ back (moved_end g n (r ∷ rows) (rise_next g (g + suc n) r rows e h))

  -- ---- the rows from a number on

  place_behind : (g i : ℕ) (r : ℕ × T) (rows : List (ℕ × T)) → IsPlace (r ∷ rows) g (suc i) → IsPlace rows g i
  place_behind g i r rows place = record {
    below = λ j s less e. place.below (suc j) s (omega (arith, less)) e;
    above = λ j s le e. place.above (suc j) s (omega (arith, le)) e;
  }

  place_first : (g n i : ℕ) (rows : List (ℕ × T)) → Rise g (g + n) rows → IsPlace rows (g + 0) i → i ≤ length rows → i ≡ 0
  place_first g n zero rows rise place bound = refl
  place_first g n (suc i) [] rise place bound = absurd (omega (arith, bound))
  place_first g n (suc i) (r ∷ rows) rise place bound = let low = place.below 0 r (omega arith) refl in let high = rise.0 in absurd (omega (arith, low, high))

  drop_none : (rows : List (ℕ × T)) (i : ℕ) → rows ≡ [] → drop i rows ≡ []
  drop_none [] zero e = refl
  drop_none [] (suc i) e = refl
  drop_none (r ∷ rows) i e = absurd cc

  pub from_place : (f g n i : ℕ) (rows : List (ℕ × T)) → Rise g (g + n) rows → IsPlace rows (g + f) i → i ≤ length rows → drop i rows ≡ numbered (g + f) (drop f (spread_from g n rows))
  from_place zero g n i rows rise place bound =
      let first = place_first g n i rows rise place bound in let number : g ≡ g + 0 = omega arith in
      ap (λ (k : ℕ). drop k rows) first ∙ sym (spread-numbered g n rows rise) ∙ ap (λ (k : ℕ). numbered k (spread_from g n rows)) number
  from_place (suc f) g zero i [] rise place bound = drop_none [] i refl
  from_place (suc f) g zero i (r ∷ rows) rise place bound = let low = rise.0 in let high = rise.1 in absurd (omega (arith, low, high))
  from_place (suc f) g (suc n) i [] rise place bound =
      let number : g + 1 + f ≡ g + suc f = omega arith in
      from_place f (g + 1) n i [] tt (subst (λ (k : ℕ). IsPlace {T = T} [] k i) (sym number) place) bound ∙ ap (λ (k : ℕ). numbered k (drop f (spread_from (g + 1) n []))) number
  from_place (suc f) g (suc n) i (r ∷ rows) rise place bound = by (r.0 == g) refl i place bound (λ j. from_place f (g + 1) n j rows) (from_place f (g + 1) n i (r ∷ rows))
    where
      number : g + 1 + f ≡ g + suc f
      number = omega arith

      by : (b : Bool) → (r.0 == g) ≡ b → (i : ℕ) → IsPlace (r ∷ rows) (g + suc f) i → i ≤ length (r ∷ rows)
          → ((j : ℕ) → Rise (g + 1) (g + 1 + n) rows → IsPlace rows (g + 1 + f) j → j ≤ length rows → drop j rows ≡ numbered (g + 1 + f) (drop f (spread_from (g + 1) n rows)))
          → (Rise (g + 1) (g + 1 + n) (r ∷ rows) → IsPlace (r ∷ rows) (g + 1 + f) i → i ≤ length (r ∷ rows) → drop i (r ∷ rows) ≡ numbered (g + 1 + f) (drop f (spread_from (g + 1) n (r ∷ rows))))
          → drop i (r ∷ rows) ≡ numbered (g + suc f) (drop (suc f) (spread_from g (suc n) (r ∷ rows)))
      by true e zero place bound front back = let high = place.above 0 r (omega arith) refl in let same = eqb-true r.0 g e in absurd (omega (arith, high, same))
      by true e (suc j) place bound front back =
          front j (moved_end g n rows (rise_behind g (g + suc n) r rows e rise)) (subst (λ (k : ℕ). IsPlace rows k j) (sym number) (place_behind (g + suc f) j r rows place)) (omega (arith, bound))
          ∙ ap (λ (k : ℕ). numbered k (drop f (spread_from (g + 1) n rows))) number
          ∙ ap (λ (xs : List (Option T)). numbered (g + suc f) (drop (suc f) xs)) (sym (taken g n r rows true e))
      by false e i place bound front back =
          back (moved_end g n (r ∷ rows) (rise_next g (g + suc n) r rows e rise)) (subst (λ (k : ℕ). IsPlace (r ∷ rows) k i) (sym number) place) bound
          ∙ ap (λ (k : ℕ). numbered k (drop f (spread_from (g + 1) n (r ∷ rows)))) number
          ∙ ap (λ (xs : List (Option T)). numbered (g + suc f) (drop (suc f) xs)) (sym (taken g n r rows false e))

  -- ---- where a search ends

  module _ (rows : List (ℕ × T)) (end g i : ℕ) (rise : Rise 0 end rows) (place : IsPlace rows g i) where
    -- every other row behind the place has a higher number than the one there
    behind_place : (r s : ℕ × T) (j : ℕ) → slice_get rows i ≡ Some r → i ≤ j → slice_get rows j ≡ Some s → r.0 ≤ s.0
    behind_place r s j e le f = elim (cases_le i j le) [
      | inl same ↦ let is : Some r ≡ Some s = sym e ∙ ap (slice_get rows) same ∙ f in let one : r ≡ s = cc in le_of (ap (λ (t : ℕ × T). t.0) one)
      | inr less ↦ let order = rise_order 0 end i j r s rows rise less e f in omega (arith, order)
    ]
      where
        le_of : {a b : ℕ} → a ≡ b → a ≤ b
        le_of e = omega (arith, e)

    -- from a number on up to that of the row there none is there; without such a row, none at all
    pub none_up_to : (r : ℕ × T) → slice_get rows i ≡ Some r → (k : ℕ) → g ≤ k → k < r.0 → HasNone k rows
    none_up_to r e k from to j s f is =
        elim (cases_lt j i) [ inl less ↦ let low = place.below j s less f in omega (arith, low, is, from) | inr le ↦ let high = behind_place r s j e le f in omega (arith, high, is, to) ]

    pub none_past : length rows ≤ i → (k : ℕ) → g ≤ k → HasNone k rows
    none_past over k from j s f is = let within = slice_get_within rows j s f in let low = place.below j s (omega (arith, over, within)) f in omega (arith, low, is, from)

    pub none_other : (r : ℕ × T) → slice_get rows i ≡ Some r → (r.0 ≡ g → ⊥) → HasNone g rows
    none_other r e differs = let high = place.above i r (omega arith) e in none_up_to r e g (omega arith) (less g r.0 high (λ same. differs (sym same)))
      where
        less : (a b : ℕ) → a ≤ b → (a ≡ b → ⊥) → a < b
        less a b le apart = grind (arith, le, apart)

  pub gone_where : (end k : ℕ) (rows : List (ℕ × T)) → HasNone k rows → value_of k (spread_from 0 end rows) ≡ None
  gone_where end k rows none = spread-none 0 end k rows (λ j s f is. none j s f (is ∙ omega arith))

  pub end_is : (end : ℕ) (rows : List (ℕ × T)) → Rise 0 end rows → Rise 0 (0 + end) rows
  end_is end rows rise = subst (λ (k : ℕ). Rise 0 k rows) (omega arith) rise

  module _ (rows : List (ℕ × T)) (end g i : ℕ) (rise : Rise 0 end rows) (x : T) (here : slice_get rows i ≡ Some (g, x)) where
    at_zero : slice_get rows i ≡ Some (0 + g, x)
    at_zero = here ∙ ap (λ (k : ℕ). Some (k, x)) (omega arith)

    pub value_there : value_of g (spread_from 0 end rows) ≡ Some x
    value_there = ap flat (spread-edited None 0 end i g x rows (end_is end rows rise) at_zero).1

    pub changed_there : (w : T) → spread_from 0 end (slice_set rows i (g, w)) ≡ slice_set (spread_from 0 end rows) g (Some w)
    changed_there w =
        let zero-g : 0 + g ≡ g = omega arith in
        ap (spread_from 0 end) (sym (edited-set w rows i g) ∙ ap (edited (Some w) rows i) (sym zero-g)) ∙ (spread-edited (Some w) 0 end i g x rows (end_is end rows rise) at_zero).0

    pub removed_there : spread_from 0 end (remove rows i) ≡ slice_set (spread_from 0 end rows) g None
    removed_there =
        let zero-g : 0 + g ≡ g = omega arith in
        ap (spread_from 0 end) (sym (edited-remove rows i g) ∙ ap (edited None rows i) (sym zero-g)) ∙ (spread-edited None 0 end i g x rows (end_is end rows rise) at_zero).0

    pub rise_changed : (w : T) → Rise 0 end (slice_set rows i (g, w))
    rise_changed w = subst (Rise 0 end) (edited-set w rows i g) (rise_edited (Some w) 0 end i g x rows rise here)

    pub rise_removed : Rise 0 end (remove rows i)
    rise_removed = subst (Rise 0 end) (edited-remove rows i g) (rise_edited None 0 end i g x rows rise here)

  -- ---- a search among the rows

  abbrev pub is_low : ℕ → ℕ × T → Bool
  is_low g r = nat_lt r.0 g

  pub parted : (g end : ℕ) (rows : List (ℕ × T)) → Rise 0 end rows → IsPartitionedBy (is_low g) rows
  parted g end rows rise i j d le less test = elim (cases_le i j le) [
    | inl same ↦ ap (λ (k : ℕ). is_low g (slice_index_or rows k d)) same ∙ test
    | inr before ↦
        let order = rise_order 0 end i j (slice_index_or rows i d) (slice_index_or rows j d) rows rise before (slice_get-get_or rows i d (omega (arith, before, less))) (slice_get-get_or rows j d less) in
        grind (arith, nat_tests, order, test)
  ]

  pub place_is : (g i : ℕ) (rows : List (ℕ × T)) → IsPartitionPoint (λ (r : ℕ × T). is_low g r ≡ true) (λ (r : ℕ × T). is_low g r ≡ false) rows i → i ≤ length rows → IsPlace rows g i
  place_is g i rows point bound = record {
    below = λ j r less e. low r (subst (λ (o : ℕ × T). is_low g o ≡ true) (get_or_from_slice_get rows j r r e) (point.0 j r (omega arith) less));
    above = λ j r le e. high r (subst (λ (o : ℕ × T). is_low g o ≡ false) (get_or_from_slice_get rows j r r e) (point.1 j r le (slice_get_within rows j r e)));
  }
    where
      low : (r : ℕ × T) → is_low g r ≡ true → r.0 < g
      low r e = grind (arith, nat_tests, e)

      high : (r : ℕ × T) → is_low g r ≡ false → g ≤ r.0
      high r e = grind (arith, nat_tests, e)

  -- ---- what is read at a place

  pub read : (rows : List (ℕ × T)) (i : ℕ) (r : ℕ × T) → i < length rows → r ≡ slice_index_or rows i r → slice_get rows i ≡ Some r
  read rows i r less e = slice_get_read rows (length rows) i r refl less e

  module _ (rows : List (ℕ × T)) (end g i : ℕ) (rise : Rise 0 end rows) (x : T) (here : slice_get rows i ≡ Some (g, x)) (r : ℕ × T) (e : r ≡ slice_index_or rows i r) where
    row_is : r ≡ (g, x)
    row_is = e ∙ get_or_from_slice_get rows i (g, x) r here

    pub read_there : value_of g (spread_from 0 end rows) ≡ Some r.1
    read_there = value_there rows end g i rise x here ∙ ap (λ (s : ℕ × T). Some s.1) (sym row_is)

    pub read_rise : (w : T) → Rise 0 end (slice_set rows i (r.0, w))
    read_rise w = subst (λ (s : ℕ × T). Rise 0 end (slice_set rows i (s.0, w))) (sym row_is) (rise_changed rows end g i rise x here w)

    pub read_changed : (w : T) → spread_from 0 end (slice_set rows i (r.0, w)) ≡ slice_set (spread_from 0 end rows) g (Some w)
    read_changed w = ap (λ (s : ℕ × T). spread_from 0 end (slice_set rows i (s.0, w))) row_is ∙ changed_there rows end g i rise x here w

  pub more_at_end : (end : ℕ) (x : T) (rows : List (ℕ × T)) → Rise 0 end rows → spread_from 0 (end + 1) (rows ++ (end, x) ∷ []) ≡ spread_from 0 end rows ++ Some x ∷ []
  more_at_end end x rows rise =
      let zero-end : end ≡ 0 + end = omega arith in
      ap (λ (k : ℕ). spread_from 0 (end + 1) (rows ++ (k, x) ∷ [])) zero-end ∙ spread-more 0 end x rows (end_is end rows rise)
