-- Lists that lie one behind the other, and lists by key.
use Rattle.std.specs.Prelude.{◌≡◌, ℕ, zero, suc, ◌≤◌, List, [], ◌∷◌, slice_range, Option, Some, None}
use Rattle.std.specs.Global.{Vec}
use Rattle.ug_types.specs.declared.key.Key.{Key}

-- the lists from a place of the items on, which end at these places
abbrev pub lists_to : {T : Type 0} → ℕ → List ℕ → List T → List (List T)
lists_to from [] items = []
lists_to from (end ∷ ends) items = slice_range items from end ∷ lists_to end ends items

-- No end lies before the one before it, and the last is that of all items.
abbrev pub AreEnds : ℕ → List ℕ → ℕ → Type 0
AreEnds from [] all = from ≡ all
AreEnds from (end ∷ ends) all = (from ≤ end) × AreEnds end ends all

-- where the list at a place begins
abbrev pub start_at : ℕ → List ℕ → ℕ → ℕ
start_at from ends zero = from
start_at from [] (suc place) = from
start_at from (end ∷ ends) (suc place) = start_at end ends place

-- what a vector has, where there is one
abbrev pub items_in : {T : Type 0} → Option (Vec T) → List T
items_in None = []
items_in (Some list) = list.items

-- the same keys, each with what its vector has
abbrev pub listed : {T : Type 0} → List (Key × Vec T) → List (Key × List T)
listed [] = []
listed (e ∷ entries) = (e.0, e.1.items) ∷ listed entries
