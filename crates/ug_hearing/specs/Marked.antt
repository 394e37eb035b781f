-- What is found at the marks of a message.
use Rattle.std.specs.Prelude.{◌≡◌, ◌≢◌, ℕ, ◌<◌, ◌≤◌, List, slice_get, Option, Some, None}
use Rattle.std.specs.declared.cmp.Ordering.TheVariants.{Greater}
use Rattle.ug_types.specs.declared.key.Key.{Key}
use Rattle.ug_types.specs.declared.mark.Mark.{Mark}
use Rattle.ug_types.specs.Orders.{key_cmp}
use Rattle.ug_hearing.specs.declared.change.Change.{Change}
use Rattle.ug_hearing.specs.declared.row.Row.{Row}
use Rattle.ug_hearing.specs.Differences.{Differs, IsSame}

-- one of these marks, from one place up to another
pub record IsMarkIn (syncs : List Mark) (from to : ℕ) (m : Mark) : Type 0 where
  pub place : ℕ
  pub there : slice_get syncs place ≡ Some m
  pub low : from ≤ place
  pub high : place < to

-- The least key that differs at one of these marks, or that none does.
abbrev pub IsWorst : List (Key × Row) → List (Key × List Change) → ℕ → List Mark → ℕ → ℕ → Option Key → Type 0
IsWorst rows entries begin syncs from to None = (m : Mark) → IsMarkIn syncs from to m → (q : Key) → IsSame rows entries begin m.version q
IsWorst rows entries begin syncs from to (Some k) =
    (m : Mark) × IsMarkIn syncs from to m × Differs rows entries begin m.version k × ((o : Mark) (q : Key) → IsMarkIn syncs from to o → Differs rows entries begin o.version q → key_cmp k q ≢ Greater)

-- All marks of so many messages, from one place on, are up to another.
pub record AreMarksOf (syncs : List Mark) (from to messages : ℕ) : Type 0 where
  pub low : from ≤ to
  pub of : (m : Mark) → IsMarkIn syncs from to m → m.handed ≡ messages
  pub behind : (m : Mark) → slice_get syncs to ≡ Some m → m.handed ≢ messages

-- The key is as in the table at each of these marks, or differs at one of them.
abbrev pub IsSameAtAll : List (Key × Row) → List (Key × List Change) → ℕ → List Mark → ℕ → ℕ → Key → Type 0
IsSameAtAll rows entries begin syncs from to key = (m : Mark) → IsMarkIn syncs from to m → IsSame rows entries begin m.version key

abbrev pub DiffersAtOne : List (Key × Row) → List (Key × List Change) → ℕ → List Mark → ℕ → ℕ → Key → Type 0
DiffersAtOne rows entries begin syncs from to key = (m : Mark) × IsMarkIn syncs from to m × Differs rows entries begin m.version key
