-- Searches among those that are there, in order of number.
use Rattle.std.specs.Prelude.{ℕ, ◌+◌, Bool, List, [], ◌∷◌, ◌++◌, ◌==◌, Option, Some, None, slice_get, if◌then◌else◌}
use Rattle.std.specs.Option.{option_map}
use Rattle.std.specs.List.{list_any}
use Rattle.ug_groups.specs.declared.entry.Entry.{Entry}

module _ {T : Type 0} where
  -- the number of the first that passes the test, where the first of all has the number `g`
  abbrev pub first_of : (ℕ → T → Bool) → ℕ → List (Option T) → Option ℕ
  first_of test g [] = None
  first_of test g (None ∷ xs) = first_of test (g + 1) xs
  first_of test g (Some x ∷ xs) = if test g x then Some g else first_of test (g + 1) xs

  -- the number of the entry at the place
  abbrev pub number_at : Option ℕ → List (ℕ × T) → Option ℕ
  number_at None rows = None
  number_at (Some i) rows = option_map (λ (r : ℕ × T). r.0) (slice_get rows i)

-- one of them is of the class
abbrev pub has_class : List (ℕ × Entry) → ℕ → Bool
has_class rows class = list_any (λ (r : ℕ × Entry). r.1.class == class) rows

-- the numbers of the first of each class, but of those that stand before
abbrev pub firsts : List (ℕ × Entry) → List (ℕ × Entry) → List ℕ
firsts before [] = []
firsts before (r ∷ rows) = if has_class before r.1.class then firsts (before ++ r ∷ []) rows else r.0 ∷ firsts (before ++ r ∷ []) rows
