-- What a list type shows: its items, and how many more can be taken in without memory.
use Rattle.std.specs.Prelude.{ℕ, List}

pub record Listed (T : Type 0) : Type 0 where
  pub items : List T
  pub spare : ℕ
