-- What the commands promise that speak with neighbours: `one` and `run`.
use Rattle.std.specs.Prelude.{◌≡◌, ℕ, ◌⊎◌, Bool, true, false, List, [], ◌∷◌, Option, Some, None, Ok, Err, codes}
use Rattle.ug_edge.specs.Told.{AppendsAll, FileTold, Missing, Picks, file_told}
use Rattle.ug_commands.specs.Words.{Command, RunCommand, One, Run, Check, Groups, SelfRun, Audit}
use Rattle.ug_board.specs.Entry.{Entry}
use Rattle.ug_board.specs.Rules.{Rules}
use Rattle.ug_events.specs.Events.{Saying, Says, ComesUp}
use Rattle.ug_events.specs.Reads.{Reads}
use Rattle.ug_world.specs.World.{World}
use Rattle.ug_speaker.specs.Speech.{Speech}
use Rattle.ug_event_loop.specs.declared.grammar.Grammar.TheVariants.{Every, Routes}
use Rattle.ug_config.specs.One.{one_world}
use Rattle.ug_commands.specs.Files.{AppendsThenStatus, PicksJust}
use Rattle.ug_report.specs.Statuses.{status_text}
use Rattle.ug_commands.specs.Listed.{IsConfigured, IsTooLong}
use Rattle.ug_report.specs.declared.status.Status.{Status}
use Rattle.ug_report.specs.declared.status.Status.TheVariants as statuses
use Rattle.ug_report.specs.Report.{names_in}
use Rattle.ug_run.specs.Wires.{AreMadeFor}
use Rattle.ug_run.specs.Told.{RunTold, HasFailed, picked_before}
use Rattle.ug_run.specs.Promise.{IsPromised, IsCountedFrom}

-- the commands that speak with neighbours, if only with neighbours of their own
abbrev pub has_sessions : Option Command → Bool
has_sessions None = false
has_sessions (Some (One command)) = true
has_sessions (Some (Run command)) = true
has_sessions (Some (Check command)) = false
has_sessions (Some (Groups command)) = false
has_sessions (Some (SelfRun command)) = true
has_sessions (Some (Audit command)) = false

-- the commands that read one file last, of events or a stream; which files `audit` reads to their ends it says itself
abbrev pub is_fed : Option Command → Bool
is_fed None = true
is_fed (Some (One command)) = true
is_fed (Some (Run command)) = true
is_fed (Some (Check command)) = true
is_fed (Some (Groups command)) = true
is_fed (Some (SelfRun command)) = false
is_fed (Some (Audit command)) = false

-- the line before those of the file that `one` reads: its peer comes up
abbrev pub up_p1 : List (Reads Saying)
up_p1 = Ok (Says (ComesUp (codes "p1"))) ∷ []

-- Why a configuration stands for no world, by the status: the file is there, and it is refused or too long; of a read that failed and of
-- running out of memory nothing is said.
abbrev pub IsUnconfigured : FileTold → Status → Type 0
IsUnconfigured file (statuses.Config number field) = (file ≡ Missing → ⊥) × IsConfigured file (Err (record { number = number; field = field.items }))
IsUnconfigured file statuses.TooLong = (file ≡ Missing → ⊥) × IsTooLong file
IsUnconfigured file statuses.ReadFault = Unit {0}
IsUnconfigured file statuses.NoMemory = Unit {0}
IsUnconfigured file statuses.Ok = ⊥
IsUnconfigured file statuses.Usage = ⊥
IsUnconfigured file statuses.ReportFault = ⊥
IsUnconfigured file statuses.SiteFault = ⊥
IsUnconfigured file (statuses.Lost peer session) = ⊥
IsUnconfigured file (statuses.Malformed cause offset) = ⊥
IsUnconfigured file (statuses.Refuted peer session kind message key) = ⊥
IsUnconfigured file (statuses.Unclear line) = ⊥

-- A run that ended with its configuration, the only file that was picked: no wire was made, nothing was done, and the report has the status line alone.
pub record EndsUnset {Job Said : Type 0} (config : List ℕ) (run : RunTold Job Said) : Type 0 where
  pub cause : IsUnconfigured (file_told run.before.files config) run.status
  pub picked : PicksJust run.before.picks.names run.after.picks.names config run.status
  pub no_wires : run.wires ≡ []
  pub unmade : run.after.made ≡ run.before.made
  pub none : run.history ≡ []
  pub unspent : run.spent ≡ false
  pub report : AppendsThenStatus run.before.held run.after.held (HasFailed run) [] (status_text run.status)

module _ {Opening State Job Said : Type 0} (rules : Rules Opening State Job Said) (speech : Speech Opening State Job Said) where
  -- `one`: a run over its fixed world, whose peer is up, with the verbs of routes alone.
  abbrev pub IsOne : List ℕ → RunTold Job Said → Type 0
  IsOne events run = IsPromised rules speech one_world Routes up_p1 events run

  -- A run over the world of a configuration, with every verb. The configuration is picked, and then the file of events, each
  -- once; and the wires that are given back are those that the site made, in this folder, for the first of the peers in
  -- configured order.
  pub record IsConfiguredRun (command : RunCommand) (run : RunTold Job Said) : Type 0 where
    pub there : file_told run.before.files command.config ≡ Missing → ⊥
    pub world : World
    pub configured : IsConfigured (file_told run.before.files command.config) (Ok world)
    pub then_picks : Picks
    pub picked : AppendsAll run.before.picks.names then_picks.names (command.config ∷ [])
    pub made_all : AreMadeFor run.before.made run.after.made command.dir (names_in world) run.made_for
    pub promised : IsPromised rules speech world Every [] command.events (picked_before then_picks run)

  -- What `run` counted: nothing where nothing was done, and else what a run over the world of its configuration does.
  abbrev pub IsCountedRun : FileTold → Bool → List (Entry Job Said) → ℕ → ℕ → Type 0
  IsCountedRun config completed history before after =
      ((history ≡ []) × (after ≡ before)) ⊎ ((w : World) × IsConfigured config (Ok w) × IsCountedFrom rules speech w completed history before after)

  -- `run`: over the world of the configuration, where it stands for one.
  abbrev pub IsRunOf : RunCommand → RunTold Job Said → Type 0
  IsRunOf command run = EndsUnset command.config run ⊎ IsConfiguredRun command run
