-- What `selfrun` promises: a run over the workload of its number.
use Rattle.std.specs.Prelude.{◌≡◌, ℕ, Bool, true, List, [], Option}
use Rattle.ug_edge.specs.Told.{AppendsPiece}
use Rattle.ug_pieces.specs.Reporting.{AppendsFront}
use Rattle.ug_board.specs.Entry.{Entry}
use Rattle.ug_board.specs.Rules.{Rules}
use Rattle.ug_board.specs.History.{IsLegal, replay}
use Rattle.ug_events.specs.Events.{Happening}
use Rattle.ug_world.specs.World.{World}
use Rattle.ug_world.specs.Worlds.{last_world}
use Rattle.ug_speaker.specs.Speech.{Speech}
use Rattle.ug_speaker.specs.Told.{events_in}
use Rattle.ug_commands.specs.Files.{AppendsThenStatus}
use Rattle.ug_report.specs.Report.{accepted_count, refused_count}
use Rattle.ug_report.specs.Statuses.{status_text}
use Rattle.ug_report.specs.declared.status.Status.{Status}
use Rattle.ug_report.specs.declared.status.Status.TheVariants as statuses
use Rattle.ug_selfrun.specs.Configuration.{workload_world}
use Rattle.ug_selfrun.specs.Workload.{workload}
use Rattle.ug_run.specs.Promise.{IsStopped}
use Rattle.ug_selfrun.specs.Lines.{lines_of, accepted_events}
use Rattle.ug_selfrun.specs.Summary.{HasText}

-- the world of six peers, and four thousand events that are drawn after they came up
abbrev pub drawn_world : World
drawn_world = workload_world 6

abbrev pub drawn_events : ℕ → List Happening
drawn_events number = workload number 6 4000

-- What the report of a run got that came to this world and these counts, by the status: the text, a front of it where the report
-- failed, and the status line alone where memory ran out. It comes to nothing else.
abbrev pub IsSummed : ℕ → World → ℕ → ℕ → Status → Option (List ℕ) → Option (List ℕ) → Type 0 → Type 0
IsSummed number last accepted refused statuses.Ok before held failed = (text : List ℕ) × HasText number last accepted refused text × AppendsPiece before held text
IsSummed number last accepted refused statuses.ReportFault before held failed = failed × (text : List ℕ) × HasText number last accepted refused text × AppendsFront before held text
IsSummed number last accepted refused statuses.NoMemory before held failed = AppendsThenStatus before held failed [] (status_text statuses.NoMemory)
IsSummed number last accepted refused statuses.Usage before held failed = ⊥
IsSummed number last accepted refused (statuses.Config refusal field) before held failed = ⊥
IsSummed number last accepted refused statuses.ReadFault before held failed = ⊥
IsSummed number last accepted refused statuses.SiteFault before held failed = ⊥
IsSummed number last accepted refused statuses.TooLong before held failed = ⊥
IsSummed number last accepted refused (statuses.Lost peer session) before held failed = ⊥
IsSummed number last accepted refused (statuses.Malformed cause offset) before held failed = ⊥
IsSummed number last accepted refused (statuses.Refuted peer session kind message key) before held failed = ⊥
IsSummed number last accepted refused (statuses.Unclear line) before held failed = ⊥

module _ {Opening State Job Said : Type 0} (rules : Rules Opening State Job Said) (speech : Speech Opening State Job Said) where
  -- The history is a legal one from an opening in this world; its events are those of these that are accepted, in order, and at
  -- its end everything is told.
  pub record IsDrawnRun (w : World) (events : List Happening) (history : List (Entry Job Said)) : Type 0 where
    pub root : Opening
    pub first : speech.first root ≡ w
    pub legal : IsLegal rules root history
    pub taken : events_in rules speech history ≡ accepted_events w events
    pub drained : speech.drained (replay rules root history) ≡ true
    pub closed : speech.closed (replay rules root history) ≡ true

  -- The report is that of the workload of this number: its counts, and where each peer stands in its last world. Unless
  -- memory ran out the history is that of a run over it; and however it ended no job may follow, unless the board was
  -- spent.
  pub record IsSelfRun (number : ℕ) (status : Status) (history : List (Entry Job Said)) (spent : Bool) (before held : Option (List ℕ)) (failed : Type 0) : Type 0 where
    pub summed : IsSummed number (last_world drawn_world (lines_of (drawn_events number))) (accepted_count drawn_world (lines_of (drawn_events number)))
        (refused_count drawn_world (lines_of (drawn_events number))) status before held failed
    pub ran : (status ≡ statuses.NoMemory → ⊥) → IsDrawnRun drawn_world (drawn_events number) history
    pub stopped : IsStopped rules speech drawn_world spent history
