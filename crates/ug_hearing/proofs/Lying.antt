-- Lists that lie one behind the other.
use Rattle.std.proofs.Common.{◌≡◌, ℕ, zero, suc, ◌+◌, ◌-◌, ◌<◌, ◌≤◌, List, [], ◌∷◌, ◌++◌, length, take, drop, slice_get, slice_range, get_or, Some, refl, sym, ◌∙◌, ap, subst, arith}
use Rattle.std.specs.List.{sum_by}
use Rattle.std.proofs.lemmas.List.{take-append-le, take_all, drop-append-le, length-drop, length-take-le}
use Rattle.std.proofs.lemmas.List.Sums.{sum_by-cons}
use Rattle.ug_hearing.specs.Lists.{lists_to, AreEnds, start_at}

pub ends-within : (from : ℕ) (ends : List ℕ) (all : ℕ) → AreEnds from ends all → from ≤ all
ends-within from [] all h = omega (arith, h)
ends-within from (end ∷ ends) all h = let rest = ends-within end ends all h.1 in omega (arith, rest, h.0)

pub ends-more : (from : ℕ) (ends : List ℕ) (all more : ℕ) → AreEnds from ends all → all ≤ more → AreEnds from (ends ++ more ∷ []) more
ends-more from [] all more h up = (omega (arith, h, up), refl)
ends-more from (end ∷ ends) all more h up = (h.0, ends-more end ends all more h.1 up)

some_same : {X : Type 0} (a b : X) → Some a ≡ Some b → a ≡ b
some_same a b e = cc

-- a list begins and ends within the items
pub bounds-within : (from : ℕ) (ends : List ℕ) (all place to : ℕ) → AreEnds from ends all → slice_get ends place ≡ Some to → (start_at from ends place ≤ to) × (to ≤ all)
bounds-within from [] all place to h there = absurd cc
bounds-within from (end ∷ ends) all zero to h there =
    let same : end ≡ to = some_same end to there in
    subst (λ (n : ℕ). (from ≤ n) × (n ≤ all)) same (h.0, ends-within end ends all h.1)
bounds-within from (end ∷ ends) all (suc place) to h there = bounds-within end ends all place to h.1 there

-- one that isn't the first begins at the end of the one before it
pub starts-behind : (from : ℕ) (ends : List ℕ) (place d : ℕ) → place < length ends → start_at from ends (suc place) ≡ get_or ends place d
starts-behind from [] place d less = absurd (omega arith)
starts-behind from (end ∷ ends) zero d less = refl
starts-behind from (end ∷ ends) (suc place) d less = starts-behind end ends place d (omega arith)

pub starts-at : (ends : List ℕ) (place : ℕ) → 0 < place → place < length ends → get_or ends (place - 1) 0 ≡ start_at 0 ends place
starts-at ends zero some less = absurd (omega (arith, some))
starts-at ends (suc place) some less = let same : suc place - 1 ≡ place = omega arith in ap (λ (n : ℕ). get_or ends n 0) same ∙ sym (starts-behind 0 ends place 0 (omega (arith, less)))

module _ {T : Type 0} where
  pub lists-count : (from : ℕ) (ends : List ℕ) (items : List T) → length (lists_to from ends items) ≡ length ends
  lists-count from [] items = refl
  lists-count from (end ∷ ends) items = ap suc (lists-count end ends items)

  pub list-at : (from : ℕ) (ends : List ℕ) (items : List T) (place to : ℕ) → slice_get ends place ≡ Some to → slice_get (lists_to from ends items) place ≡ Some (slice_range items (start_at from ends place) to)
  list-at from [] items place to there = absurd cc
  list-at from (end ∷ ends) items zero to there = let same : end ≡ to = some_same end to there in ap (λ (n : ℕ). Some (slice_range items from n)) same
  list-at from (end ∷ ends) items (suc place) to there = list-at end ends items place to there

  -- what lies before the end of items is the same with more behind them
  before : (items more : List T) (from to : ℕ) → from ≤ to → to ≤ length items → slice_range (items ++ more) from to ≡ slice_range items from to
  before items more from to up within =
      let size = length-drop from items in
      ap (λ (xs : List T). take (to - from) xs) (drop-append-le from items more (omega (arith, up, within))) ∙ take-append-le (to - from) (drop from items) more (omega (arith, size))

  behind_all : (items more : List T) → drop (length items) (items ++ more) ≡ more
  behind_all [] more = refl
  behind_all (x ∷ items) more = behind_all items more

  -- and what lies behind it is what was added
  behind : (items more : List T) (from to : ℕ) → from ≡ length items → to ≡ length items + length more → slice_range (items ++ more) from to ≡ more
  behind items more from to at end =
      ap (λ (n : ℕ). take (to - n) (drop n (items ++ more))) at
      ∙ (ap (λ (xs : List T). take (to - length items) xs) (behind_all items more) ∙ take_all (to - length items) more (omega (arith, end)))

  pub lists-more : (from : ℕ) (ends : List ℕ) (items more : List T) (to : ℕ) → AreEnds from ends (length items) → to ≡ length items + length more
      → lists_to from (ends ++ to ∷ []) (items ++ more) ≡ lists_to from ends items ++ more ∷ []
  lists-more from [] items more to h end = ap (λ (xs : List T). xs ∷ []) (behind items more from to h end)
  lists-more from (next ∷ ends) items more to h end =
      ap (λ (xs : List T). xs ∷ lists_to next (ends ++ to ∷ []) (items ++ more)) (before items more from next h.0 (ends-within next ends (length items) h.1))
      ∙ ap (λ (xs : List (List T)). slice_range items from next ∷ xs) (lists-more next ends items more to h.1 end)

  range-size : (items : List T) (from to : ℕ) → from ≤ to → to ≤ length items → length (slice_range items from to) ≡ to - from
  range-size items from to up within = let size = length-drop from items in length-take-le (to - from) (drop from items) (omega (arith, up, within, size))

  -- all items are those of one list or another
  pub lists-sum : (from : ℕ) (ends : List ℕ) (items : List T) → AreEnds from ends (length items) → from + sum_by (λ (xs : List T). length xs) (lists_to from ends items) ≡ length items
  lists-sum from [] items h = omega (arith, h)
  lists-sum from (end ∷ ends) items h =
      let first = range-size items from end h.0 (ends-within end ends (length items) h.1) in
      let rest = lists-sum end ends items h.1 in
      let all = sum_by-cons (λ (xs : List T). length xs) (slice_range items from end) (lists_to end ends items) in
      let up = h.0 in
      omega (arith, first, rest, all, up)
