-- Lines of events.
use Rattle.std.specs.Prelude.{◌≡◌, ℕ, List, map, None, Ok}
use Rattle.ug_pieces.specs.Lines.{lines_of}
use Rattle.ug_events.specs.Events.{Happening, Saying, Says, IsEvent}
use Rattle.ug_events.specs.Reads.{Reads}
use Rattle.ug_events.specs.Grammar.{line_of}
use Rattle.ug_world.specs.World.{World}
use Rattle.ug_world.specs.Verdicts.{verdict}
use Rattle.ug_world.specs.Worlds.{Outcome, world_after, where_accepted}

-- what the lines of a text say
abbrev pub said_in : List ℕ → List (Reads Saying)
said_in events = map line_of (lines_of events)

-- The line has this event, which the world accepts.
pub record IsAccepted (w : World) (line : Reads Saying) (e : Happening) : Type 0 where
  pub said : line ≡ Ok (Says e)
  pub accepted : verdict w e ≡ None
  pub form : IsEvent e

-- A line leaves the world as it is.
pub record IsPassed (w : World) (o : Outcome) : Type 0 where
  pub world : world_after w o ≡ w
  pub none : (ws : List World) → where_accepted o ws ≡ ws
