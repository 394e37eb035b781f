-- What a run over a world promises.
use Rattle.std.specs.Prelude.{◌≡◌, ℕ, ◌+◌, ◌≤◌, ◌⊎◌, Bool, true, false, not, List, [], ◌∷◌, length, Option}
use Rattle.ug_edge.specs.Told.{AppendsAll, IsFresh, FileTold, Missing, file_told}
use Rattle.ug_board.specs.Entry.{Entry}
use Rattle.ug_board.specs.Rules.{Rules}
use Rattle.ug_board.specs.History.{replay}
use Rattle.ug_board.specs.Deeds.{Each}
use Rattle.ug_events.specs.Events.{Saying}
use Rattle.ug_events.specs.Reads.{Reads}
use Rattle.ug_world.specs.World.{World}
use Rattle.ug_speaker.specs.Speech.{Speech}
use Rattle.ug_event_loop.specs.declared.grammar.Grammar.{Grammar}
use Rattle.ug_event_loop.specs.Counts.{least_of, most_of}
use Rattle.ug_commands.specs.Files.{IsPartOf, AgreesWithSite, AppendsThenStatus}
use Rattle.ug_report.specs.Statuses.{status_text}
use Rattle.ug_report.specs.declared.status.Status.{Status}
use Rattle.ug_report.specs.declared.status.Status.TheVariants as statuses
use Rattle.ug_event_loop.specs.Contents.{WireTold}
use Rattle.ug_run.specs.Told.{After, RunTold, HasFailed}
use Rattle.ug_run.specs.Outcomes.{Course, IsOutcome}

-- ---- a run that ended before its first line

-- the statuses of a run whose wires could not be made
abbrev pub IsUnmade : Status → Type 0
IsUnmade status = (status ≡ statuses.SiteFault) ⊎ (status ≡ statuses.NoMemory)

-- A wire has no sessions, and no faults.
abbrev pub IsUntouched : WireTold → Type 0
IsUntouched wire = IsFresh wire.sessions × (wire.faults ≡ 0)

-- Nothing of the file of this name was read: it was not picked, or it was picked once and all of it is left.
abbrev pub IsUnread : List ℕ → FileTold → Option (List (List ℕ)) → Option (List (List ℕ)) → Bool → Option (List ℕ) → Type 0
IsUnread name file names names' is_open left =
    AppendsAll names names' [] ⊎ (AppendsAll names names' (name ∷ []) × (rest : List ℕ) × IsPartOf file [] rest × AgreesWithSite is_open left [] rest)

-- Why nobody was told anything, by the status, and how many wires were made for so many peers: the file of events could not be
-- picked, a wire could not be made, or memory ran out.
abbrev pub IsEarly : (peers wires : ℕ) → (is_open : Bool) → Status → Type 0
IsEarly peers wires is_open statuses.ReadFault = (is_open ≡ false) × (wires ≡ peers)
IsEarly peers wires is_open statuses.SiteFault = wires ≤ peers
IsEarly peers wires is_open statuses.NoMemory = wires ≤ peers
IsEarly peers wires is_open statuses.Ok = ⊥
IsEarly peers wires is_open statuses.Usage = ⊥
IsEarly peers wires is_open (statuses.Config number field) = ⊥
IsEarly peers wires is_open statuses.ReportFault = ⊥
IsEarly peers wires is_open statuses.TooLong = ⊥
IsEarly peers wires is_open (statuses.Lost peer session) = ⊥
IsEarly peers wires is_open (statuses.Malformed cause offset) = ⊥
IsEarly peers wires is_open (statuses.Refuted peer session kind message key) = ⊥
IsEarly peers wires is_open (statuses.Unclear line) = ⊥

-- Nobody was told anything: nothing of the file of events was read, each wire that was made is as it was made, nothing was
-- done, and the report has the status line alone.
pub record EndsEarly {Job Said : Type 0} (w : World) (events : List ℕ) (run : RunTold Job Said) : Type 0 where
  pub early : IsEarly (length w.peers) (length run.wires) run.after.picks.is_open run.status
  pub unread : IsUnread events (file_told run.before.files events) run.before.picks.names run.after.picks.names run.after.picks.is_open run.after.left
  pub untouched : Each IsUntouched run.wires
  pub none : run.history ≡ []
  pub unspent : run.spent ≡ false
  pub report : AppendsThenStatus run.before.held run.after.held (HasFailed run) [] (status_text run.status)

-- ---- a run

-- The bytes of the file are those that were read and then the rest, and the site reads from it.
pub record IsReadFrom (file : FileTold) (after : After) (read rest : List ℕ) : Type 0 where
  pub is_part : IsPartOf file read rest
  pub there : file ≡ Missing → ⊥
  pub opened : after.picks.is_open ≡ true
  pub agrees : AgreesWithSite after.picks.is_open after.left read rest

module _ {Opening State Job Said : Type 0} (rules : Rules Opening State Job Said) (speech : Speech Opening State Job Said) where
  -- A run over a world, in which the first lines come before those of the file of events.
  pub record IsRun (w : World) (grammar : Grammar) (first : List (Reads Saying)) (events : List ℕ) (run : RunTold Job Said) : Type 0 where
    pub course : Course
    pub file : IsReadFrom (file_told run.before.files events) run.after course.read course.rest
    pub aligned : length course.ahead_marks ≡ length course.ahead
    pub outcome : IsOutcome rules speech w grammar first run course run.status

  -- Of what was done, from an opening in this world, no job may follow, unless the board was spent: then one may, for which
  -- memory ran out.
  pub record IsStoppedFrom (w : World) (spent : Bool) (history : List (Entry Job Said)) : Type 0 where
    pub root : Opening
    pub first : speech.first root ≡ w
    pub stopped : speech.closed (replay rules root history) ≡ not spent

  -- the same, or nothing was done
  abbrev pub IsStopped : World → Bool → List (Entry Job Said) → Type 0
  IsStopped w spent history = ((history ≡ []) × (spent ≡ false)) ⊎ IsStoppedFrom w spent history

  -- What a run counted, from an opening in this world: no less than its jobs count at least, and where it completed no more
  -- than they count at most.
  pub record IsCountedFrom (w : World) (completed : Bool) (history : List (Entry Job Said)) (before after : ℕ) : Type 0 where
    pub root : Opening
    pub first : speech.first root ≡ w
    pub least : before + least_of rules root history ≤ after
    pub most : completed ≡ true → after ≤ before + most_of rules root history

  -- the same, or nothing was done, and nothing counted
  abbrev pub IsCounted : World → Bool → List (Entry Job Said) → ℕ → ℕ → Type 0
  IsCounted w completed history before after = ((history ≡ []) × (after ≡ before)) ⊎ IsCountedFrom w completed history before after

  -- What a run over a world promises. The file of events is picked once, and no other.
  abbrev pub IsPromised : World → Grammar → List (Reads Saying) → List ℕ → RunTold Job Said → Type 0
  IsPromised w grammar first events run =
      EndsEarly w events run ⊎ (AppendsAll run.before.picks.names run.after.picks.names (events ∷ []) × IsRun w grammar first events run)
