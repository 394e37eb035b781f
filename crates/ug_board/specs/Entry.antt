-- What a history keeps of a step: who made it, the step, and what was said to it.
use Rattle.std.specs.Prelude.{ℕ}
use Rattle.ug_board.specs.declared.steps.BoardStep.{BoardStep}
use Rattle.ug_board.specs.declared.steps.BoardSaid.{BoardSaid}

pub record Entry (J R : Type 0) : Type 0 where
  pub pass : ℕ
  pub step : BoardStep J
  pub said : BoardSaid R
