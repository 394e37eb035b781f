-- Words and what is left of them, without where they lie in memory.
use Rattle.std.specs.Prelude.{ℕ, List, [], Option, Some, None}
use Rattle.std.specs.Borrow.{Bor}
use Rattle.ug_events.specs.declared.field.Field.{Field}
use Rattle.ug_events.specs.Words.{words}
use Rattle.ug_events.specs.Paths.{runs}

abbrev pub field_seen : Field × Bor (List ℕ) → Field × List ℕ
field_seen x = (x.0, x.1.now)

-- the runs of what is left, where there is something
abbrev pub runs_in : Option (Bor (List ℕ)) → List (List (List ℕ))
runs_in None = []
runs_in (Some text) = runs (words text.now)
