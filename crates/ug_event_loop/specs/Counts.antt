-- How many steps the jobs of a builder count.
use Rattle.std.specs.Prelude.{ℕ, ◌+◌, ◌≤◌, List, [], ◌∷◌, Option, Some, None, if◌then◌else◌}
use Rattle.ug_board.specs.declared.steps.BoardStep.{BoardStep}
use Rattle.ug_board.specs.declared.steps.BoardStep.TheVariants.{Job as DoJob, Lane as LaneTakes}
use Rattle.ug_board.specs.Entry.{Entry}
use Rattle.ug_board.specs.Rules.{Rules}
use Rattle.ug_board.specs.History.{after_step}
use Rattle.ug_board.specs.Deeds.{of_pass}

module _ {Opening State Job Said : Type 0} (rules : Rules Opening State Job Said) (number : Job → State → ℕ) where
  -- the number of a job where it stands; a step of a lane has none
  abbrev pub of_step : BoardStep Job → State → ℕ
  of_step (DoJob job) state = number job state
  of_step (LaneTakes step) state = 0

  -- the sum over the builder's entries
  abbrev pub sum_from : State → List (Entry Job Said) → ℕ
  sum_from state [] = 0
  sum_from state (entry ∷ entries) = (if of_pass 0 entry then of_step entry.step state else 0) + sum_from (after_step rules entry.step state) entries

  unfoldable pub sum_of : Opening → List (Entry Job Said) → ℕ
  sum_of opening history = sum_from (rules.start opening) history

  -- the same of a pass, whose root is known
  unfoldable pub sum_at : Option Opening → List (Entry Job Said) → ℕ
  sum_at None seen = 0
  sum_at (Some opening) seen = sum_of opening seen

module _ {Opening State Job Said : Type 0} (rules : Rules Opening State Job Said) where
  -- the fewest and the most steps that the jobs of a history count
  abbrev pub least_of : Opening → List (Entry Job Said) → ℕ
  least_of opening history = sum_of rules rules.least opening history

  abbrev pub most_of : Opening → List (Entry Job Said) → ℕ
  most_of opening history = sum_of rules rules.most opening history

  abbrev pub least_at : Option Opening → List (Entry Job Said) → ℕ
  least_at root seen = sum_at rules rules.least root seen

  abbrev pub most_at : Option Opening → List (Entry Job Said) → ℕ
  most_at root seen = sum_at rules rules.most root seen

-- On the way from one history to a longer one a counter rose by no less than the jobs between them count at least: `old`
-- and `new` are what the jobs of each count.
abbrev pub RisesBy : ℕ → ℕ → ℕ → ℕ → Type 0
RisesBy before after old new = before + new ≤ after + old

-- and by no more than they count at most
abbrev pub RisesWithin : ℕ → ℕ → ℕ → ℕ → Type 0
RisesWithin before after old new = after + old ≤ before + new
