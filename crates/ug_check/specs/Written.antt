-- How far a report is written, line by line.
use Rattle.std.specs.Prelude.{◌≡◌, ℕ, List, ◌++◌, Option}
use Rattle.std.specs.List.{concat}
use Rattle.ug_edge.specs.Told.{AppendsPiece}

-- Of these lines some were added to the report, some stand in a text that is still to be added, and these are to come.
pub record HasWritten (before held : Option (List ℕ)) (text : List ℕ) (lines rest : List (List ℕ)) : Type 0 where
  pub front : List (List ℕ)
  pub pending : List (List ℕ)
  pub parts : lines ≡ front ++ (pending ++ rest)
  pub added : AppendsPiece before held (concat front)
  pub text_is : text ≡ concat pending
