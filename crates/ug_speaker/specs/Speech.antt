-- What a machine that speaks to peers is about: worlds, events and messages, in place of states and bytes.
use Rattle.std.specs.Prelude.{ℕ, Bool, true, false, List, [], ◌∷◌}
use Rattle.ug_types.specs.Messages.{Message}
use Rattle.ug_types.specs.declared.capabilities.Capabilities.{Capabilities}
use Rattle.ug_types.specs.declared.mark.Mark.{Mark}
use Rattle.ug_outbound.specs.declared.peer.Peer.{Peer}
use Rattle.ug_events.specs.Events.{Happening, ComesUp, GoesDown, HasPaths, HasNone, HasPolicy, HasEntries, AsksAgain, SendsRequest, SendsList}
use Rattle.ug_world.specs.World.{World}

-- What a job is for: an event, a mark of how much each peer was told, the end, or work that nobody asked for.
pub data Purpose : Type 0 where
  TakesEvent : Happening → Purpose
  MarksTold : Purpose
  Ends : Purpose
  Prepares : Purpose

pub record Speech (Opening State Job Said : Type 0) : Type 0 where
  -- the world that a machine is made with, and the one in which it stands
  pub first : Opening → World
  pub world : State → World
  pub purpose : Job → Purpose
  -- the message whose bytes are handed out to this peer, where its next step hands some out
  pub message : ℕ → State → Message
  -- No job may be done any more; nothing has to be done before the next event; everything is told.
  pub closed : State → Bool
  pub settled : State → Bool
  pub drained : State → Bool
  -- the marks that a reply tells
  pub marks : Said → List Mark

-- what a session of this peer is opened with
abbrev pub capabilities_of : Peer → Capabilities
capabilities_of p = record { family = p.family; add_path = p.add_path; extended = p.extended }

-- The event asks for all routes again: a request, or a list of the peer's own that is to be in force at once.
abbrev pub is_request : Happening → Bool
is_request (AsksAgain name) = true
is_request (SendsRequest name) = true
is_request (SendsList name request) = request.now
is_request (ComesUp name) = false
is_request (GoesDown name) = false
is_request (HasPaths prefix paths) = false
is_request (HasNone prefix) = false
is_request (HasPolicy name policy) = false
is_request (HasEntries name entries) = false

-- an event, where the purpose is one
abbrev pub events_for : Purpose → List Happening
events_for (TakesEvent e) = e ∷ []
events_for MarksTold = []
events_for Ends = []
events_for Prepares = []
