-- A climb that goes on, value by value.
use Rattle.std.specs.Prelude.{ℕ, ◌+◌, ◌==◌, Bool, List, [], ◌∷◌, ◌++◌, if◌then◌else◌}

-- a step at which the place moves, counted from 1, and the place that it moves to
pub record Shift : Type 0 where
  pub message : ℕ
  pub place : ℕ

abbrev pub shift_where : Bool → ℕ → ℕ → List Shift
shift_where still message place = if still then [] else record { message = message; place = place } ∷ []

-- the moves among these places, from the one before, of which the first is that after this message
abbrev pub shifts_from : ℕ → ℕ → List ℕ → List Shift
shifts_from before message [] = []
shifts_from before message (place ∷ places) = shift_where (place == before) message place ++ shifts_from place (message + 1) places

-- the last of these places, and where there is none the one before them
abbrev pub last_place : ℕ → List ℕ → ℕ
last_place before [] = before
last_place before (place ∷ places) = last_place place places
