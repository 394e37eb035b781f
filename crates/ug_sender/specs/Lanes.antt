-- A lane as contracts see it, and what it keeps.
use Rattle.std.specs.Prelude.{◌≡◌, ℕ, ◌⊎◌, Bool, true, false, List, [], ◌∷◌, ◌++◌, Option, Some, None}
use Rattle.ug_edge.specs.Told.{WireName}
use Rattle.ug_board.specs.Entry.{Entry}
use Rattle.ug_board.specs.declared.steps.LaneStep.TheVariants.{Next}
use Rattle.ug_board.specs.declared.steps.LaneSaid.TheVariants.{Idle, Stop}
use Rattle.ug_board.specs.History.{replay}
use Rattle.ug_board.specs.Rules.{Rules}
use Rattle.ug_board.specs.Deeds.{Deed, Begins, deeds, of_pass, to_peer, Each}
use Rattle.ug_turnstile.specs.Passes.{Held}
use Rattle.ug_sender.specs.Courses.{Course, KeepsWire}
use Rattle.ug_turnstile.specs.Passes.{IsSamePass, StartsWith}
use Rattle.ug_sender.specs.Tellings.{Shown}

-- A lane: its wire, for whom that was made, its pass, its peer, the session that is open, and whether the loss of one was not
-- taken.
pub record LaneView (W Opening Job Said : Type 0) : Type 0 where
  pub wire : W
  pub made_for : WireName
  pub pass : Held (Entry Job Said) Opening
  pub peer : ℕ
  pub latest : Option ℕ
  pub unnoted : Bool

-- a lane of this wire, which was made so, and of this pass and peer, before any step
abbrev pub fresh_lane : {W Opening Job Said : Type 0} → W → WireName → Held (Entry Job Said) Opening → ℕ → LaneView W Opening Job Said
fresh_lane wire made_for pass peer = record { wire = wire; made_for = made_for; pass = pass; peer = peer; latest = None; unnoted = false }

-- It is the same pass and the same peer, and a wire that was made for the same.
abbrev pub IsSamePost : {W Opening Job Said : Type 0} → LaneView W Opening Job Said → LaneView W Opening Job Said → Type 0
IsSamePost old new = IsSamePass old.pass new.pass × (new.peer ≡ old.peer) × (new.made_for ≡ old.made_for)

-- The entries of this number are steps of a lane of this peer.
abbrev pub AreOfPeer : {Job Said : Type 0} → ℕ → ℕ → List (Entry Job Said) → Type 0
AreOfPeer peer number = Each (λ entry. of_pass number entry ≡ true → to_peer peer entry ≡ true)

-- the same of the entries of a pass
abbrev pub IsOfPeer : {Opening Job Said : Type 0} → ℕ → Held (Entry Job Said) Opening → Type 0
IsOfPeer peer pass = AreOfPeer peer pass.number pass.seen

-- This session begins among the deeds that were added.
abbrev pub BeginsAmong : ℕ → List (Deed (List ℕ)) → List (Deed (List ℕ)) → Type 0
BeginsAmong session old new = (front : List (Deed (List ℕ))) × (rest : List (Deed (List ℕ))) × (new ≡ old ++ (front ++ Begins session ∷ rest))

module _ {Opening State Job Said : Type 0} (rules : Rules Opening State Job Said) where
  -- what the entries of a number tell of a history with this root: bytes are handed out
  abbrev pub deeds_at : Option Opening → ℕ → List (Entry Job Said) → List (Deed (List ℕ))
  deeds_at None number seen = []
  deeds_at (Some root) number seen = deeds rules rules.handed (of_pass number) root seen

  -- what a pass was handed
  abbrev pub pass_deeds : Held (Entry Job Said) Opening → List (Deed (List ℕ))
  pass_deeds pass = deeds_at pass.root pass.number pass.seen

  -- What a lane keeps of its pass and its wire: the entries of its pass are its own steps, and its wire holds what
  -- they were handed.
  pub record KeepsLane (pass : Held (Entry Job Said) Opening) (peer : ℕ) (told : Option (List (List ℕ))) (begun faults : ℕ) (latest : Option ℕ) (unnoted : Bool) : Type 0 where
    pub free : pass.holds ≡ false
    pub own : IsOfPeer peer pass
    pub courses : List Course
    pub kept : KeepsWire courses (pass_deeds pass) told begun faults latest unnoted

  -- what a lane shows of a step
  abbrev pub shown : {W : Type 0} → LaneView W Opening Job Said → Shown
  shown lane = record { deeds = pass_deeds lane.pass; latest = lane.latest; unnoted = lane.unnoted }

  -- Where this history leads from this root, there is nothing to send to the peer for now.
  abbrev pub IdlesAt : Option Opening → ℕ → List (Entry Job Said) → Type 0
  IdlesAt None peer seen = ⊥
  IdlesAt (Some root) peer seen = rules.lane_reply (Next peer) (replay rules root seen) ≡ Idle

  -- There is nothing more to send to the peer.
  abbrev pub StopsAt : Option Opening → ℕ → List (Entry Job Said) → Type 0
  StopsAt None peer seen = ⊥
  StopsAt (Some root) peer seen = rules.lane_reply (Next peer) (replay rules root seen) ≡ Stop

  -- Nothing more is sent to the peer, as far as the pass has seen: the history says so, or the board is spent.
  abbrev pub IsOver : ℕ → Held (Entry Job Said) Opening → Type 0
  IsOver peer pass = (pass.spent ≡ true) ⊎ StopsAt pass.root peer pass.seen

  -- The loss of this session to the peer may not be noted, where this history leads from this root.
  abbrev pub MayNotLoseAt : Option Opening → ℕ → ℕ → List (Entry Job Said) → Type 0
  MayNotLoseAt None peer session seen = ⊥
  MayNotLoseAt (Some root) peer session seen = rules.may_lose peer session (replay rules root seen) ≡ false

  -- The loss of this session to the peer is passed over, as far as the pass has seen: it may not be noted, or the board
  -- is spent.
  abbrev pub IsPassedOver : ℕ → ℕ → Held (Entry Job Said) Opening → Type 0
  IsPassedOver peer session pass = (pass.spent ≡ true) ⊎ MayNotLoseAt pass.root peer session pass.seen

  -- The same at a moment between these two of one pass.
  abbrev pub WasPassedOver : ℕ → ℕ → Held (Entry Job Said) Opening → Held (Entry Job Said) Opening → Type 0
  WasPassedOver peer session old new =
      (moment : Held (Entry Job Said) Opening) × IsSamePass old moment × StartsWith moment.seen old.seen × StartsWith new.seen moment.seen × IsPassedOver peer session moment

  -- The loss of a session was passed over between these two moments of one pass: of the one that was open, or of one that
  -- began between them.
  abbrev pub MissesLoss : ℕ → Option ℕ → Held (Entry Job Said) Opening → Held (Entry Job Said) Opening → Type 0
  MissesLoss peer latest old new =
      (session : ℕ) × ((latest ≡ Some session) ⊎ BeginsAmong session (pass_deeds old) (pass_deeds new)) × WasPassedOver peer session old new

  -- Nothing is sent to the peer for now, or nothing more.
  abbrev pub IsAtRest : ℕ → Held (Entry Job Said) Opening → Type 0
  IsAtRest peer pass = ((pass.spent ≡ false) × IdlesAt pass.root peer pass.seen) ⊎ IsOver peer pass
