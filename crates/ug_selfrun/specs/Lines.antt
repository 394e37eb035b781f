-- Events as lines that say them.
use Rattle.std.specs.Prelude.{ℕ, List, [], ◌∷◌, ◌++◌, map, Option, Some, None, Ok}
use Rattle.ug_events.specs.Events.{Happening, Saying, Says}
use Rattle.ug_events.specs.Reads.{Reads}
use Rattle.ug_world.specs.World.{World}
use Rattle.ug_world.specs.Verdicts.{verdict}
use Rattle.ug_world.specs.Worlds.{outcome, world_after}

abbrev pub line_of : Happening → Reads Saying
line_of e = Ok (Says e)

abbrev pub lines_of : List Happening → List (Reads Saying)
lines_of events = map line_of events

-- An event is accepted where nothing refuses it.
abbrev pub accepted_by : Option ℕ → Happening → List Happening
accepted_by None e = e ∷ []
accepted_by (Some number) e = []

-- the events that are accepted, one after the other from this world on
abbrev pub accepted_events : World → List Happening → List Happening
accepted_events w [] = []
accepted_events w (e ∷ events) = accepted_by (verdict w e) e ++ accepted_events (world_after w (outcome w (line_of e))) events
