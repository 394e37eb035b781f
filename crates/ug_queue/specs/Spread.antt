-- Values by number, none where one is gone: the list that only grows, of those alone that are there.
use Rattle.std.specs.Prelude.{◌≡◌, ℕ, zero, suc, ◌+◌, ◌<◌, ◌≤◌, ◌==◌, List, [], ◌∷◌, Option, Some, None, slice_get, if◌then◌else◌}

module _ {T : Type 0} where
  -- so many numbers from `g` on, where these have a value
  abbrev pub spread_from : ℕ → ℕ → List (ℕ × T) → List (Option T)
  spread_from g zero rows = []
  spread_from g (suc n) [] = None ∷ spread_from (g + 1) n []
  spread_from g (suc n) (r ∷ rows) = if r.0 == g then Some r.1 ∷ spread_from (g + 1) n rows else None ∷ spread_from (g + 1) n (r ∷ rows)

  -- their numbers rise, from `g` on, and are below the end
  abbrev pub Rise : ℕ → ℕ → List (ℕ × T) → Type 0
  Rise g end [] = Unit {0}
  Rise g end (r ∷ rows) = (g ≤ r.0) × (r.0 < end) × Rise (r.0 + 1) end rows

  -- those that are there, with their numbers, of which the first is `g`
  abbrev pub numbered : ℕ → List (Option T) → List (ℕ × T)
  numbered g [] = []
  numbered g (None ∷ xs) = numbered (g + 1) xs
  numbered g (Some x ∷ xs) = (g, x) ∷ numbered (g + 1) xs

  abbrev pub flat : Option (Option T) → Option T
  flat None = None
  flat (Some x) = x

  -- the value of that number, where it is there
  abbrev pub value_of : ℕ → List (Option T) → Option T
  value_of g xs = flat (slice_get xs g)

  -- none from one number up to another one is there
  abbrev pub AreGone : ℕ → ℕ → List (Option T) → Type 0
  AreGone from to xs = (k : ℕ) → from ≤ k → k < to → value_of k xs ≡ None

  -- ---- the entries

  abbrev pub AreRising : List (ℕ × T) → Type 0
  AreRising rows = (end : ℕ) × Rise 0 end rows

  -- the one at the place has that number
  abbrev pub HasAt : List (ℕ × T) → ℕ → ℕ → Type 0
  HasAt rows k i = (x : T) × (slice_get rows i ≡ Some (k, x))

  -- none has that number
  abbrev pub HasNone : ℕ → List (ℕ × T) → Type 0
  HasNone k rows = (i : ℕ) (r : ℕ × T) → slice_get rows i ≡ Some r → r.0 ≡ k → ⊥

  -- those below the place have lower numbers, and all others have not
  pub record IsPlace (rows : List (ℕ × T)) (g i : ℕ) : Type 0 where
    pub below : (j : ℕ) (r : ℕ × T) → j < i → slice_get rows j ≡ Some r → r.0 < g
    pub above : (j : ℕ) (r : ℕ × T) → i ≤ j → slice_get rows j ≡ Some r → g ≤ r.0
