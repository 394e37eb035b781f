-- What a machine does, step by step, as definitions over plain data, and what each machine keeps.
use Rattle.std.specs.Prelude.{◌≡◌, ℕ, ◌+◌, ◌<◌, ◌≤◌, Bool, true, false, List, length, take}
use Rattle.ug_board.specs.declared.steps.LaneStep.{LaneStep}
use Rattle.ug_board.specs.declared.steps.LaneStep.TheVariants.{Next, Lost}
use Rattle.ug_board.specs.declared.steps.LaneSaid.{LaneSaid}
use Rattle.ug_board.specs.declared.steps.LaneSaid.TheVariants.{Begun, Hand, Idle, Stop, Noted}

-- The rules of a machine. Peers and sessions are numbers.
pub record Rules (Opening State Job Said : Type 0) : Type 0 where
  -- the state in which a machine with this opening starts
  pub start : Opening → State
  -- A job may be done in this state; what is said to it, the state after it, and the fewest and the most of the
  -- steps that it counts.
  pub legal : Job → State → Bool
  pub reply : Job → State → Said
  pub after : Job → State → State
  pub least : Job → State → ℕ
  pub most : Job → State → ℕ
  -- The loss of this session to this peer may be noted.
  pub may_lose : ℕ → ℕ → State → Bool
  -- what is said to a lane's step, and the state after it
  pub lane_reply : LaneStep → State → LaneSaid
  pub after_lane : LaneStep → State → State
  -- the bytes that are handed out to this peer, where its next step hands some out
  pub handed : ℕ → State → List ℕ
  -- A bound on the entries that lanes can add before the next job.
  pub due : State → ℕ
  -- how many sessions of this peer were begun
  pub begun : ℕ → State → ℕ

-- what a buffer holds at least: the longest message
abbrev pub buffer_size : ℕ
buffer_size = 65535

-- A step of a lane leaves an entry: a session begins, a packet is handed out, or a loss is noted.
abbrev pub says_more : LaneSaid → Bool
says_more (Begun session) = true
says_more (Hand session made len) = true
says_more Idle = false
says_more Stop = false
says_more Noted = false

module _ {Opening State Job Said : Type 0} (rules : Rules Opening State Job Said) where
  abbrev pub counts : LaneStep → State → Bool
  counts (Next peer) state = says_more (rules.lane_reply (Next peer) state)
  counts (Lost peer session) state = rules.may_lose peer session state

  -- what a board says to a lane's step in this state: a loss that may not be noted is passed over
  abbrev pub lane_said : LaneStep → State → LaneSaid
  lane_said (Next peer) state = rules.lane_reply (Next peer) state
  lane_said (Lost peer session) state = Noted

  -- A lane may take this step: a loss is one that may be noted.
  abbrev pub MayTake : LaneStep → State → Type 0
  MayTake (Next peer) state = Unit {0}
  MayTake (Lost peer session) state = rules.may_lose peer session state ≡ true

  -- Where bytes are handed out, they stand at the front of the buffer.
  abbrev pub LeavesHanded : LaneStep → LaneSaid → State → List ℕ → Type 0
  LeavesHanded (Next peer) (Hand session made len) state buf = take len buf ≡ rules.handed peer state
  LeavesHanded (Next peer) (Begun session) state buf = Unit {0}
  LeavesHanded (Next peer) Idle state buf = Unit {0}
  LeavesHanded (Next peer) Stop state buf = Unit {0}
  LeavesHanded (Next peer) Noted state buf = Unit {0}
  LeavesHanded (Lost peer session) said state buf = Unit {0}

  -- The same sessions are begun in both states.
  abbrev pub BegunAlike : State → State → Type 0
  BegunAlike old new = (peer : ℕ) → rules.begun peer new ≡ rules.begun peer old

  -- One more session of this peer is begun, with the number that follows, and no other.
  pub record BeginsNext (peer session : ℕ) (old new : State) : Type 0 where
    pub number : session ≡ rules.begun peer old + 1
    pub rises : rules.begun peer new ≡ rules.begun peer old + 1
    pub others : (other : ℕ) → ((other ≡ peer) → ⊥) → rules.begun other new ≡ rules.begun other old

  -- Bytes are handed out to this peer in the session that was begun last. They fit the buffer.
  pub record HandsOut (peer session len : ℕ) (old new : State) : Type 0 where
    pub some : 0 < session
    pub last : session ≡ rules.begun peer old
    pub size : len ≡ length (rules.handed peer old)
    pub fits : len ≤ buffer_size
    pub alike : BegunAlike old new

  -- what may be said to the question what is next for this peer, and what becomes of the state
  abbrev pub IsNext : ℕ → State → LaneSaid → State → Type 0
  IsNext peer old (Begun session) new = BeginsNext peer session old new
  IsNext peer old (Hand session made len) new = HandsOut peer session len old new
  IsNext peer old Idle new = new ≡ old
  IsNext peer old Stop new = new ≡ old
  IsNext peer old Noted new = ⊥

  -- What each machine keeps, in every state.
  pub record IsMachine : Type 0 where
    -- at the start no session is begun, and a job begins none
    pub none_begun : (opening : Opening) (peer : ℕ) → rules.begun peer (rules.start opening) ≡ 0
    pub jobs_begin_none : (job : Job) (state : State) → rules.legal job state ≡ true → BegunAlike state (rules.after job state)
    -- the answer to what is next
    pub next : (peer : ℕ) (state : State) → IsNext peer state (rules.lane_reply (Next peer) state) (rules.after_lane (Next peer) state)
    -- a loss that may be noted is noted, and begins nothing
    pub noted : (peer session : ℕ) (state : State) → rules.may_lose peer session state ≡ true → rules.lane_reply (Lost peer session) state ≡ Noted
    pub losses_begin_none : (peer session : ℕ) (state : State) → rules.may_lose peer session state ≡ true → BegunAlike state (rules.after_lane (Lost peer session) state)
    -- a step of a lane that leaves an entry lowers what is due
    pub due_falls : (step : LaneStep) (state : State) → counts step state ≡ true → rules.due (rules.after_lane step state) < rules.due state
