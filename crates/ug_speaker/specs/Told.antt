-- What a history says: the events that were taken, the worlds they led through, and what each session was told.
use Rattle.std.specs.Prelude.{ℕ, ◌+◌, ◌==◌, Bool, true, ◌&&◌, not, List, [], ◌∷◌, ◌++◌, length, if◌then◌else◌}
use Rattle.std.specs.List.{list_any}
use Rattle.ug_types.specs.Messages.{Message}
use Rattle.ug_types.specs.declared.mark.Mark.{Mark}
use Rattle.ug_board.specs.declared.steps.BoardStep.{BoardStep}
use Rattle.ug_board.specs.declared.steps.BoardStep.TheVariants.{Job as DoJob, Lane as LaneTakes}
use Rattle.ug_board.specs.Entry.{Entry}
use Rattle.ug_board.specs.Rules.{Rules}
use Rattle.ug_board.specs.History.{replay}
use Rattle.ug_board.specs.Deeds.{Deed, deeds, losses, to_peer, when}
use Rattle.ug_board.specs.Sessions.{Session, sessions_of}
use Rattle.ug_events.specs.Events.{Happening}
use Rattle.ug_world.specs.declared.peer_state.PeerState.{PeerState}
use Rattle.ug_world.specs.World.{World}
use Rattle.ug_world.specs.After.{after}
use Rattle.ug_world.specs.Touches.{is_about}
use Rattle.ug_speaker.specs.Speech.{Speech, events_for, is_request}

-- the first world, then that after each event, in order
abbrev pub worlds_through : World → List Happening → List World
worlds_through w [] = w ∷ []
worlds_through w (e ∷ events) = w ∷ worlds_through (after w e) events

-- the world that the events lead to
abbrev pub world_after : World → List Happening → World
world_after w [] = w
world_after w (e ∷ events) = world_after (after w e) events

-- the messages handed out in the session of that number
abbrev pub handed_in : ℕ → List (Session Message) → List Message
handed_in number [] = []
handed_in number (session ∷ sessions) = if session.number == number then session.handed else handed_in number sessions

module _ {Opening State Job Said : Type 0} (rules : Rules Opening State Job Said) (speech : Speech Opening State Job Said) where
  abbrev pub step_events : BoardStep Job → List Happening
  step_events (DoJob job) = events_for (speech.purpose job)
  step_events (LaneTakes step) = []

  -- the events that were taken, in order
  abbrev pub events_in : List (Entry Job Said) → List Happening
  events_in [] = []
  events_in (entry ∷ entries) = step_events entry.step ++ events_in entries

  -- the worlds of a history, one a version
  abbrev pub worlds_of : Opening → List (Entry Job Said) → List World
  worlds_of opening history = worlds_through (speech.first opening) (events_in history)

  abbrev pub deeds_to : ℕ → Opening → List (Entry Job Said) → List (Deed Message)
  deeds_to p opening history = deeds rules speech.message (to_peer p) opening history

  -- the messages of session `n` of a peer
  abbrev pub told : ℕ → ℕ → Opening → List (Entry Job Said) → List Message
  told p n opening history = handed_in n (sessions_of (deeds_to p opening history))

  -- session `n` of a peer is lost
  abbrev pub is_lost : ℕ → ℕ → Opening → List (Entry Job Said) → Bool
  is_lost p n opening history = list_any (λ (m : ℕ). m == n) (losses (deeds_to p opening history))

  -- so many sessions of a peer were begun
  abbrev pub begun : ℕ → Opening → List (Entry Job Said) → ℕ
  begun p opening history = rules.begun p (replay rules opening history)

  -- the world in which a history ends
  abbrev pub world_at : Opening → List (Entry Job Said) → World
  world_at opening history = speech.world (replay rules opening history)

  -- a peer is up, and its session isn't lost
  abbrev pub is_live : ℕ → PeerState → Opening → List (Entry Job Said) → Bool
  is_live p s opening history = s.up && not (is_lost p s.sessions opening history)

  -- how much a peer was told in its present session
  abbrev pub mark_of : ℕ → PeerState → Opening → List (Entry Job Said) → Mark
  mark_of p s opening history = record {
    version = (world_at opening history).version;
    peer = p;
    session = s.sessions;
    handed = length (told p s.sessions opening history);
  }

  -- The marks of these peers, the first of which stands at place `p`, for each that is live and passes the test.
  abbrev pub marks_from : (PeerState → Bool) → ℕ → List PeerState → Opening → List (Entry Job Said) → List Mark
  marks_from test p [] opening history = []
  marks_from test p (s ∷ peers) opening history =
      when (test s && is_live p s opening history) (mark_of p s opening history ∷ []) ++ marks_from test (p + 1) peers opening history

  -- the marks of all live peers, in configured order
  abbrev pub marks_of_all : Opening → List (Entry Job Said) → List Mark
  marks_of_all opening history = marks_from (λ _. true) 0 (world_at opening history).peers opening history

  -- the mark of the live peer that asks for all routes again by this event, or none
  abbrev pub marks_of_asker : Happening → Opening → List (Entry Job Said) → List Mark
  marks_of_asker e opening history = marks_from (λ s. is_request e && is_about e s) 0 (world_at opening history).peers opening history
