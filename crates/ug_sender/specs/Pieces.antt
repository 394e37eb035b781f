-- A message that a wire took in part.
use Rattle.std.specs.Prelude.{ℕ, ◌<◌, List, length, take, Option}
use Rattle.ug_edge.specs.Told.{SendsPiece}

-- The front of a message was sent, and less than all of it.
abbrev pub SendsFront : Option (List (List ℕ)) → Option (List (List ℕ)) → List ℕ → Type 0
SendsFront old new piece = (n : ℕ) × (n < length piece) × SendsPiece old new (take n piece)
