-- A text that grows at its front.
use Rattle.std.specs.Prelude.{ℕ, List}

-- the text, and how many further bytes there is room for
pub record Fronted : Type 0 where
  pub text : List ℕ
  pub room : ℕ
