-- Parts of a report.
use Rattle.std.specs.Prelude.{◌≡◌, ℕ, List, ◌++◌, Option}
use Rattle.ug_edge.specs.Told.{AppendsPiece}

-- A front of the text was added, all of it or less.
abbrev pub AppendsFront : Option (List ℕ) → Option (List ℕ) → List ℕ → Type 0
AppendsFront old new text = (front : List ℕ) × (tail : List ℕ) × (text ≡ front ++ tail) × AppendsPiece old new front
