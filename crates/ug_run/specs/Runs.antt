-- A run between its beginning and its end.
use Rattle.std.specs.Prelude.{◌≡◌, ℕ, ◌+◌, ◌≤◌, List, [], length}
use Rattle.ug_types.specs.Listed.{Listed}
use Rattle.ug_edge.specs.Told.{WireName}
use Rattle.ug_board.specs.Entry.{Entry}
use Rattle.ug_turnstile.specs.Passes.{Gate, Held}
use Rattle.ug_events.specs.declared.event.Event.{Event}
use Rattle.ug_world.specs.World.{World}
use Rattle.ug_speaker.specs.Speech.{Speech}
use Rattle.ug_report.specs.Report.{names_in}
use Rattle.ug_sender.specs.Lanes.{LaneView}
use Rattle.ug_event_loop.specs.declared.grammar.Grammar.{Grammar}
use Rattle.ug_event_loop.specs.Standing.{BuilderView}
use Rattle.ug_run.specs.Lanes.{AreAtPosts, fresh_lanes}
use Rattle.ug_run.specs.Boards.{AreDealt}

-- A run as contracts see it: its turnstile, its builder, its lanes, and the events that come ahead of the file.
pub record RunView (W Opening Job Said : Type 0) : Type 0 where
  pub gate : Gate
  pub builder : BuilderView Opening Job Said
  pub lanes : List (LaneView W Opening Job Said)
  pub first : List Event

-- What a run keeps: its builder and its lanes have the passes of its turnstile, a lane for each peer, and there is room for the
-- wires and the passes that come back.
pub record KeepsRun {W Opening Job Said : Type 0} (gate : Gate) (builder : BuilderView Opening Job Said) (lanes : List (LaneView W Opening Job Said)) (peers : ℕ) (wires : Listed W) (passes : Listed (Held (Entry Job Said) Opening)) : Type 0 where
  pub here : builder.pass.turnstile ≡ gate.id
  pub posts : AreAtPosts gate.id builder.pass.root 0 lanes
  pub count : gate.count ≡ length lanes + 1
  pub all : peers ≡ length lanes
  pub no_wires : wires.items ≡ []
  pub no_passes : passes.items ≡ []
  pub wires_room : length lanes ≤ wires.spare
  pub passes_room : length lanes + 1 ≤ passes.spare

-- a builder with this pass that has taken no lines
abbrev pub fresh_builder : {Opening Job Said : Type 0} → Held (Entry Job Said) Opening → List (List ℕ) → Grammar → ℕ → BuilderView Opening Job Said
fresh_builder pass names grammar coalesce = record { pass = pass; names = names; grammar = grammar; coalesce = coalesce; tally = record { lines = 0; accepted = 0; refused = 0 } }

-- A run begins in this world over these wires: each has a lane with the pass of its peer, and the builder, which knows these
-- verbs and tells what is new at the pace of the world, has taken no lines.
pub record IsBegun {W Opening State Job Said : Type 0} (speech : Speech Opening State Job Said) (made_for : W → WireName) (w : World) (grammar : Grammar) (wires : List W) (run : RunView W Opening Job Said) : Type 0 where
  pub passes : List (Held (Entry Job Said) Opening)
  pub dealt : AreDealt speech w run.gate run.builder.pass passes
  pub builder : run.builder ≡ fresh_builder run.builder.pass (names_in w) grammar w.local.coalesce
  pub all : length wires ≡ length w.peers
  pub lanes : run.lanes ≡ fresh_lanes made_for 0 wires passes
