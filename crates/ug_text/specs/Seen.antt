-- What the readers' values say, without where they lie in memory.
use Rattle.std.specs.Prelude.{ℕ, List, [], Option, Some, None}
use Rattle.std.specs.Borrow.{Bor}
use Rattle.std.specs.Option.{option_map}
use Rattle.ug_text.specs.Cutting.{pieces}

abbrev pub seen_parts : Option (Bor (List ℕ) × Bor (List ℕ)) → Option (List ℕ × List ℕ)
seen_parts parts = option_map (λ (x : Bor (List ℕ) × Bor (List ℕ)). (x.0.now, x.1.now)) parts

-- the parts of what is left, where there is something
abbrev pub pieces_in : ℕ → Option (Bor (List ℕ)) → List (List ℕ)
pieces_in separator None = []
pieces_in separator (Some text) = pieces separator text.now
