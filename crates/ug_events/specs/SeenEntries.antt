-- The parts of an entry and its bounds, without where they lie in memory.
use Rattle.std.specs.Prelude.{ℕ, List, Option, Some, None}
use Rattle.std.specs.Borrow.{Bor}
use Rattle.std.specs.Option.{option_map}
use Rattle.ug_text.specs.Seen.{pieces_in}
use Rattle.ug_events.specs.declared.entries.LengthBounds.{LengthBounds}
use Rattle.ug_events.specs.Entries.{Bounds}

abbrev pub pieces_left : Option (Bor (List ℕ)) → List (List ℕ)
pieces_left rest = pieces_in 58 rest

abbrev pub bounds_seen : Option LengthBounds → Option Bounds
bounds_seen bounds = option_map (λ (b : LengthBounds). record { ge = b.ge; le = b.le }) bounds
