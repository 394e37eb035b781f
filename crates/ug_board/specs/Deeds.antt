-- What a history tells of the sessions to a peer: one begins, something is handed out in one, or one is lost.
use Rattle.std.specs.Prelude.{◌≡◌, ℕ, ◌+◌, ◌<◌, ◌==◌, Bool, true, false, List, [], ◌∷◌, ◌++◌}
use Rattle.ug_board.specs.declared.steps.BoardStep.{BoardStep}
use Rattle.ug_board.specs.declared.steps.BoardStep.TheVariants.{Job as DoJob, Lane as LaneTakes}
use Rattle.ug_board.specs.declared.steps.BoardSaid.{BoardSaid}
use Rattle.ug_board.specs.declared.steps.BoardSaid.TheVariants.{Job as JobSaid, Lane as LaneGot}
use Rattle.ug_board.specs.declared.steps.LaneStep.{LaneStep}
use Rattle.ug_board.specs.declared.steps.LaneStep.TheVariants.{Next, Lost}
use Rattle.ug_board.specs.declared.steps.LaneSaid.{LaneSaid}
use Rattle.ug_board.specs.declared.steps.LaneSaid.TheVariants.{Begun, Hand, Idle, Stop, Noted}
use Rattle.ug_board.specs.Entry.{Entry}
use Rattle.ug_board.specs.Rules.{Rules}
use Rattle.ug_board.specs.History.{after_step}

-- A deed, with the number of its session. What is handed out is bytes, or a message.
pub data Deed (X : Type 0) : Type 0 where
  Begins : ℕ → Deed X
  Hands : ℕ → X → Deed X
  Loses : ℕ → Deed X

-- The fact holds of each of these.
abbrev pub Each : {A : Type 0} → (A → Type 0) → List A → Type 0
Each P [] = Unit {0}
Each P (x ∷ xs) = P x × Each P xs

-- the items, where the test is true
abbrev pub when : {A : Type 0} → Bool → List A → List A
when true items = items
when false items = []

-- A step is a lane's of this peer.
abbrev pub lane_is_to : ℕ → LaneStep → Bool
lane_is_to peer (Next other) = other == peer
lane_is_to peer (Lost other session) = other == peer

abbrev pub is_to : {J : Type 0} → ℕ → BoardStep J → Bool
is_to peer (DoJob job) = false
is_to peer (LaneTakes step) = lane_is_to peer step

-- an entry that stands for a lane's step of this peer
abbrev pub to_peer : {J R : Type 0} → ℕ → Entry J R → Bool
to_peer peer entry = is_to peer entry.step

-- an entry of this pass
abbrev pub of_pass : {J R : Type 0} → ℕ → Entry J R → Bool
of_pass pass entry = entry.pass == pass

-- What is told by what was said to a lane: `told peer state` is what is handed out to the peer in that state.
abbrev pub lane_deeds : {State X : Type 0} → (ℕ → State → X) → LaneStep → LaneSaid → State → List (Deed X)
lane_deeds told (Next peer) (Begun session) state = Begins session ∷ []
lane_deeds told (Next peer) (Hand session made len) state = Hands session (told peer state) ∷ []
lane_deeds told (Next peer) Idle state = []
lane_deeds told (Next peer) Stop state = []
lane_deeds told (Next peer) Noted state = []
lane_deeds told (Lost peer session) said state = Loses session ∷ []

abbrev pub step_deeds : {J R State X : Type 0} → (ℕ → State → X) → BoardStep J → BoardSaid R → State → List (Deed X)
step_deeds told (DoJob job) said state = []
step_deeds told (LaneTakes step) (LaneGot said) state = lane_deeds told step said state
step_deeds told (LaneTakes step) (JobSaid said) state = []

-- the deeds of the chosen entries of a history that begins in this state
abbrev pub deeds_from : {Opening State Job Said X : Type 0} → Rules Opening State Job Said → (ℕ → State → X) → (Entry Job Said → Bool) → State → List (Entry Job Said) → List (Deed X)
deeds_from rules told chosen state [] = []
deeds_from rules told chosen state (entry ∷ entries) =
    when (chosen entry) (step_deeds told entry.step entry.said state) ++ deeds_from rules told chosen (after_step rules entry.step state) entries

-- the deeds of the chosen entries of a whole history
abbrev pub deeds : {Opening State Job Said X : Type 0} → Rules Opening State Job Said → (ℕ → State → X) → (Entry Job Said → Bool) → Opening → List (Entry Job Said) → List (Deed X)
deeds rules told chosen opening history = deeds_from rules told chosen (rules.start opening) history

-- how many sessions begin
abbrev pub begins : {X : Type 0} → List (Deed X) → ℕ
begins [] = 0
begins (Begins session ∷ deeds) = 1 + begins deeds
begins (Hands session item ∷ deeds) = begins deeds
begins (Loses session ∷ deeds) = begins deeds

-- Where this many sessions are begun, these deeds begin those that follow one by one, and things are handed out in the
-- session that was begun last.
abbrev pub IsInTurn : {X : Type 0} → ℕ → List (Deed X) → Type 0
IsInTurn begun [] = Unit {0}
IsInTurn begun (Begins session ∷ deeds) = (session ≡ begun + 1) × IsInTurn (begun + 1) deeds
IsInTurn begun (Hands session item ∷ deeds) = (session ≡ begun) × (0 < session) × IsInTurn begun deeds
IsInTurn begun (Loses session ∷ deeds) = IsInTurn begun deeds

-- the numbers of the sessions that are lost, in order
abbrev pub losses : {X : Type 0} → List (Deed X) → List ℕ
losses [] = []
losses (Begins session ∷ deeds) = losses deeds
losses (Hands session item ∷ deeds) = losses deeds
losses (Loses session ∷ deeds) = session ∷ losses deeds
