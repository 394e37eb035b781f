-- The sessions of a wire in memory. Those that found no memory are the last ones, and are empty.
use Rattle.std.specs.Prelude.{ℕ, List, [], ◌++◌, map, replicate}
use Rattle.ug_types.specs.Listed.{Listed}

-- the bytes of each session, and how many of the last sessions found no memory
pub record SessionsState : Type 0 where
  pub bytes : List (List ℕ)
  pub unkept : ℕ

-- the bytes of the sessions that are kept, and after them the empty ones
abbrev pub session_bytes : List (Listed ℕ) → ℕ → List (List ℕ)
session_bytes kept unkept = map (λ session. session.items) kept ++ replicate unkept []
