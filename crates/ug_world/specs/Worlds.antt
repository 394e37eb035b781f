-- The worlds that lines of events lead through, and what a session's tables have to follow.
use Rattle.std.specs.Prelude.{ℕ, ◌==◌, Bool, false, ◌&&◌, List, [], ◌∷◌, map, filter, slice_get, Option, Some, None, Ok, Err}
use Rattle.ug_message.specs.Tables.{Table, no_routes}
use Rattle.ug_events.specs.Events.{Happening, Saying, SaysNothing, SaysSync, Says}
use Rattle.ug_events.specs.Reads.{Refusal, Reads}
use Rattle.ug_world.specs.declared.peer_state.PeerState.{PeerState}
use Rattle.ug_world.specs.World.{World}
use Rattle.ug_world.specs.Verdicts.{verdict}
use Rattle.ug_world.specs.After.{after}
use Rattle.ug_world.specs.Private.{private_table}

-- what a line does to a world: nothing, an accepted event's change, or a refusal
pub data Outcome : Type 0 where
  Passes : Outcome
  Accepts : World → Outcome
  Refuses : Refusal → Outcome

abbrev pub judged : World → Happening → Option ℕ → Outcome
judged w e None = Accepts (after w e)
judged w e (Some number) = Refuses (record { number = number; inner = None })

-- a line, as it reads, in a world
abbrev pub outcome : World → Reads Saying → Outcome
outcome w (Ok SaysNothing) = Passes
outcome w (Ok SaysSync) = Passes
outcome w (Ok (Says e)) = judged w e (verdict w e)
outcome w (Err refusal) = Refuses refusal

abbrev pub world_after : World → Outcome → World
world_after w Passes = w
world_after w (Accepts next) = next
world_after w (Refuses refusal) = w

abbrev pub where_accepted : Outcome → List World → List World
where_accepted Passes worlds = worlds
where_accepted (Accepts next) worlds = next ∷ worlds
where_accepted (Refuses refusal) worlds = worlds

-- the world after each accepted line
abbrev pub accepted_worlds : World → List (Reads Saying) → List World
accepted_worlds w [] = []
accepted_worlds w (line ∷ lines) = where_accepted (outcome w line) (accepted_worlds (world_after w (outcome w line)) lines)

-- the first world, then that after each accepted line, in order
abbrev pub worlds : World → List (Reads Saying) → List World
worlds w lines = w ∷ accepted_worlds w lines

-- the world that the lines lead to
abbrev pub last_world : World → List (Reads Saying) → World
last_world w [] = w
last_world w (line ∷ lines) = last_world (world_after w (outcome w line)) lines

abbrev pub is_up_in : ℕ → Option PeerState → Bool
is_up_in n None = false
is_up_in n (Some s) = s.up && (s.sessions == n)

-- the peer is up in its session of that number
abbrev pub in_session : ℕ → ℕ → World → Bool
in_session p n w = is_up_in n (slice_get w.peers p)

-- what a session's tables follow: the empty table, then the private table of each world of the session, in order
abbrev pub past : ℕ → ℕ → List World → List Table
past p n ws = no_routes ∷ map (private_table p) (filter (in_session p n) ws)
