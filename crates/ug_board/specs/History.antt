-- Histories: which are legal, and what state they leave.
use Rattle.std.specs.Prelude.{◌≡◌, ℕ, Bool, true, List, [], ◌∷◌, if◌then◌else◌, false, ◌≤◌, length}
use Rattle.ug_board.specs.declared.steps.BoardStep.{BoardStep}
use Rattle.ug_board.specs.declared.steps.BoardStep.TheVariants.{Job as DoJob, Lane as LaneTakes}
use Rattle.ug_board.specs.declared.steps.BoardSaid.{BoardSaid}
use Rattle.ug_board.specs.declared.steps.BoardSaid.TheVariants.{Job as JobSaid, Lane as LaneGot}
use Rattle.ug_board.specs.declared.steps.LaneStep.{LaneStep}
use Rattle.ug_board.specs.declared.steps.LaneStep.TheVariants.{Next, Lost}
use Rattle.ug_board.specs.declared.steps.LaneSaid.{LaneSaid}
use Rattle.ug_board.specs.declared.steps.LaneSaid.TheVariants.{Stop, Noted}
use Rattle.ug_board.specs.Entry.{Entry}
use Rattle.ug_board.specs.Rules.{Rules, counts, lane_said}

-- What contracts see of a board: the opening of its machine, the history, and whether it is spent.
pub record BoardState (Opening Job Said : Type 0) : Type 0 where
  pub opening : Opening
  pub history : List (Entry Job Said)
  pub spent : Bool

-- the board of a machine with this opening, before any step
abbrev pub fresh_board : {Opening Job Said : Type 0} → Opening → BoardState Opening Job Said
fresh_board opening = record { opening = opening; history = []; spent = false }

-- what a spent board says to a lane
abbrev pub spent_said : LaneStep → LaneSaid
spent_said (Next peer) = Stop
spent_said (Lost peer session) = Noted

module _ {Opening State Job Said : Type 0} (rules : Rules Opening State Job Said) where
  -- the state after a step
  abbrev pub after_step : BoardStep Job → State → State
  after_step (DoJob job) state = rules.after job state
  after_step (LaneTakes step) state = rules.after_lane step state

  -- A step is legal in this state, and this is what is said to it.
  abbrev pub IsLegalStep : BoardStep Job → BoardSaid Said → State → Type 0
  IsLegalStep (DoJob job) (JobSaid said) state = (rules.legal job state ≡ true) × (said ≡ rules.reply job state)
  IsLegalStep (LaneTakes step) (LaneGot said) state = (counts rules step state ≡ true) × (said ≡ lane_said rules step state)
  IsLegalStep (DoJob job) (LaneGot said) state = ⊥
  IsLegalStep (LaneTakes step) (JobSaid said) state = ⊥

  -- Each step of a history is legal where it stands, and what was said to it is what the rules say.
  abbrev pub IsLegalFrom : State → List (Entry Job Said) → Type 0
  IsLegalFrom state [] = Unit {0}
  IsLegalFrom state (entry ∷ entries) =
      IsLegalStep entry.step entry.said state × IsLegalFrom (after_step entry.step state) entries

  -- the state that a history leaves
  abbrev pub replay_from : State → List (Entry Job Said) → State
  replay_from state [] = state
  replay_from state (entry ∷ entries) = replay_from (after_step entry.step state) entries

  abbrev pub IsLegal : Opening → List (Entry Job Said) → Type 0
  IsLegal opening history = IsLegalFrom (rules.start opening) history

  abbrev pub replay : Opening → List (Entry Job Said) → State
  replay opening history = replay_from (rules.start opening) history

  -- There is a job that may be done after this history.
  abbrev pub MayGoOn : Opening → List (Entry Job Said) → Type 0
  MayGoOn opening history = (job : Job) × (rules.legal job (replay opening history) ≡ true)

  -- the state in which the machine of a board stands, unless the board is spent
  abbrev pub state_of : BoardState Opening Job Said → State
  state_of board = replay board.opening board.history

  -- The machine stands where the history leads, there is room for the entries that are due, and no more jobs were
  -- done than there are entries.
  pub record IsInStep (opening : Opening) (history : List (Entry Job Said)) (spare : ℕ) (state : State) (jobs : ℕ) : Type 0 where
    pub stands : state ≡ replay opening history
    pub room : rules.due state ≤ spare
    pub counted : jobs ≤ length history

  -- the entry of a job
  abbrev pub job_entry : ℕ → Job → State → Entry Job Said
  job_entry pass job state = record { pass = pass; step = DoJob job; said = JobSaid (rules.reply job state) }

  -- the entries that a lane's step leaves: one, or none
  abbrev pub lane_entries : ℕ → LaneStep → State → List (Entry Job Said)
  lane_entries pass step state =
      if counts rules step state then record { pass = pass; step = LaneTakes step; said = LaneGot (lane_said rules step state) } ∷ [] else []
