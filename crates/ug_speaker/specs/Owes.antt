-- What a machine that speaks to peers owes: of each step, and of each whole history.
use Rattle.std.specs.Prelude.{◌≡◌, ℕ, ◌≤◌, ◌<◌, nat_le, nat_lt, Bool, true, false, ◌&&◌, not, List, [], ◌∷◌, ◌++◌, length, slice_get, Option, Some, is_none}
use Rattle.ug_board.specs.declared.steps.LaneStep.{LaneStep}
use Rattle.ug_board.specs.declared.steps.LaneStep.TheVariants.{Next}
use Rattle.ug_board.specs.declared.steps.LaneSaid.TheVariants.{Hand, Idle, Stop}
use Rattle.ug_board.specs.Entry.{Entry}
use Rattle.ug_board.specs.Rules.{Rules, counts, says_more}
use Rattle.ug_board.specs.History.{IsLegal, replay, job_entry}
use Rattle.ug_message.specs.Texts.{written}
use Rattle.ug_outbound.specs.Bounds.{SetsFew}
use Rattle.ug_events.specs.Events.{Happening, IsEvent}
use Rattle.ug_world.specs.declared.parts.WorldParts.{WorldParts}
use Rattle.ug_world.specs.declared.peer_state.PeerState.{PeerState}
use Rattle.ug_world.specs.Parts.{IsGood, first_world}
use Rattle.ug_world.specs.World.{World}
use Rattle.ug_world.specs.Verdicts.{verdict}
use Rattle.ug_world.specs.After.{after}
use Rattle.ug_world.specs.Touches.{is_about}
use Rattle.ug_world.specs.Good.{IsWorldInRange}
use Rattle.ug_speaker.specs.Speech.{Purpose, TakesEvent, MarksTold, Ends, Prepares, Speech, capabilities_of, is_request}
use Rattle.ug_speaker.specs.Told.{events_in, worlds_of, world_after, told, is_lost, begun, is_live, world_at, marks_of_all, marks_of_asker}
use Rattle.ug_speaker.specs.Right.{IsToldRight, IsToldAll, IsToldAgain}

-- A world in which a run may begin: nobody is up and there are no routes, each route map sets little, and the values of
-- its configuration can be spelled.
pub record IsOpening (w : World) : Type 0 where
  pub parts : WorldParts
  pub good : IsGood parts
  pub first : w ≡ first_world parts
  pub few_sets : (map : Option (List ℕ)) → SetsFew w.tables.maps map
  pub in_range : IsWorldInRange w

-- each event is of its form
abbrev pub AreEvents : List Happening → Type 0
AreEvents [] = Unit {0}
AreEvents (e ∷ events) = IsEvent e × AreEvents events

module _ {Opening State Job Said : Type 0} (rules : Rules Opening State Job Said) (speech : Speech Opening State Job Said) where
  -- the world after a job, by what it is for
  abbrev pub world_by : Purpose → World → World
  world_by (TakesEvent e) w = after w e
  world_by MarksTold w = w
  world_by Ends w = w
  world_by Prepares w = w

  -- When a job may be done: an event where the world accepts it and the state is settled, and marks where everything is
  -- told; nothing behind the end.
  abbrev pub IsTimely : Purpose → Bool → State → Type 0
  IsTimely (TakesEvent e) legal s = legal ≡ (is_none (verdict (speech.world s) e) && (nat_lt (speech.world s).version 4294967295 && (speech.settled s && not (speech.closed s))))
  IsTimely MarksTold legal s = legal ≡ (speech.drained s && not (speech.closed s))
  IsTimely Ends legal s = legal ≡ not (speech.closed s)
  IsTimely Prepares legal s = legal ≡ true → speech.closed s ≡ false

  -- Nothing is left that prepares: what goes on now is asked for by a line, or is a lane's.
  abbrev pub IsPrepared : State → Type 0
  IsPrepared s = (job : Job) → speech.purpose job ≡ Prepares → rules.legal job s ≡ false

  -- The end closes, and nothing else does.
  abbrev pub closed_by : Purpose → Bool → Bool
  closed_by Ends closed = true
  closed_by (TakesEvent e) closed = closed
  closed_by MarksTold closed = closed
  closed_by Prepares closed = closed

  -- What is told stays told, but for an event.
  abbrev pub StaysDrained : Purpose → State → State → Type 0
  StaysDrained (TakesEvent e) old new = Unit {0}
  StaysDrained MarksTold old new = speech.drained old ≡ true → speech.drained new ≡ true
  StaysDrained Ends old new = speech.drained old ≡ true → speech.drained new ≡ true
  StaysDrained Prepares old new = speech.drained old ≡ true → speech.drained new ≡ true

  -- What each step does, in every state.
  pub record StepsRight : Type 0 where
    pub first_world : (opening : Opening) → speech.world (rules.start opening) ≡ speech.first opening
    pub first_open : (opening : Opening) → speech.closed (rules.start opening) ≡ false
    pub timely : (job : Job) (s : State) → IsTimely (speech.purpose job) (rules.legal job s) s
    pub world_after_job : (job : Job) (s : State) → rules.legal job s ≡ true → speech.world (rules.after job s) ≡ world_by (speech.purpose job) (speech.world s)
    pub closed_after_job : (job : Job) (s : State) → rules.legal job s ≡ true → speech.closed (rules.after job s) ≡ closed_by (speech.purpose job) (speech.closed s)
    pub drained_after_job : (job : Job) (s : State) → rules.legal job s ≡ true → StaysDrained (speech.purpose job) s (rules.after job s)
    pub world_after_lane : (step : LaneStep) (s : State) → counts rules step s ≡ true → speech.world (rules.after_lane step s) ≡ speech.world s
    pub closed_after_lane : (step : LaneStep) (s : State) → counts rules step s ≡ true → speech.closed (rules.after_lane step s) ≡ speech.closed s
    pub drained_after_lane : (step : LaneStep) (s : State) → counts rules step s ≡ true → speech.drained s ≡ true → speech.drained (rules.after_lane step s) ≡ true
    -- what is drained is settled, and has nothing more for a lane
    pub drained_settled : (s : State) → speech.drained s ≡ true → speech.settled s ≡ true
    pub drained_rests : (p : ℕ) (s : State) → speech.drained s ≡ true → says_more (rules.lane_reply (Next p) s) ≡ false
    -- a lane stops exactly where it has nothing more to do behind the end
    pub stops : (p : ℕ) (s : State) → rules.lane_reply (Next p) s ≡ Stop → speech.closed s ≡ true
    pub rests : (p : ℕ) (s : State) → rules.lane_reply (Next p) s ≡ Idle → speech.closed s ≡ false

  -- A history that may have come about: from an opening world, each step legal, each event of its form.
  pub record IsCourse (opening : Opening) (history : List (Entry Job Said)) : Type 0 where
    pub opens : IsOpening (speech.first opening)
    pub legal : IsLegal rules opening history
    pub events : AreEvents (events_in rules speech history)

  -- a peer of the configuration, as it now is
  abbrev pub IsPeer : ℕ → PeerState → Opening → List (Entry Job Said) → Type 0
  IsPeer p s opening history = slice_get (world_at rules speech opening history).peers p ≡ Some s

  -- Behind this history a live peer asks for all routes again, by a job that may be done.
  pub record IsAskingAgain (opening : Opening) (before : List (Entry Job Said)) (p : ℕ) (asker : PeerState) : Type 0 where
    pub job : Job
    pub event : Happening
    pub takes : speech.purpose job ≡ TakesEvent event
    pub request : is_request event ≡ true
    pub there : IsPeer p asker opening before
    pub about : is_about event asker ≡ true
    pub live : is_live rules speech p asker opening before ≡ true
    pub legal : rules.legal job (replay rules opening before) ≡ true

  -- A live peer has asked for all routes again behind the history `before`, which then went on to `whole`: there it is live
  -- in the session in which it asked, and everything is told.
  pub record IsDrainedSince (opening : Opening) (before whole : List (Entry Job Said)) (p : ℕ) (asker s : PeerState) : Type 0 where
    pub asks : IsAskingAgain opening before p asker
    pub pass : ℕ
    pub later : List (Entry Job Said)
    pub goes_on : whole ≡ before ++ job_entry rules pass asks.job (replay rules opening before) ∷ later
    pub course : IsCourse opening whole
    pub there : IsPeer p s opening whole
    pub same_session : s.sessions ≡ asker.sessions
    pub live : is_live rules speech p s opening whole ≡ true
    pub drained : speech.drained (replay rules opening whole) ≡ true

  -- What the marks of a job's reply tell.
  abbrev pub TellsMarks : Purpose → Said → Opening → List (Entry Job Said) → Type 0
  TellsMarks (TakesEvent e) said opening history = speech.marks said ≡ marks_of_asker rules speech e opening history
  TellsMarks MarksTold said opening history = speech.marks said ≡ marks_of_all rules speech opening history
  TellsMarks Ends said opening history = speech.marks said ≡ []
  TellsMarks Prepares said opening history = speech.marks said ≡ []

  -- What is so of each history.
  pub record HistoriesRight : Type 0 where
    -- the world is that which the events lead to
    pub world : (opening : Opening) (history : List (Entry Job Said)) → IsCourse opening history
        → world_at rules speech opening history ≡ world_after (speech.first opening) (events_in rules speech history)
    -- each session that a peer has begun was told right
    pub right : (opening : Opening) (history : List (Entry Job Said)) (p n : ℕ) (s : PeerState) → IsCourse opening history → IsPeer p s opening history
        → 0 < n → n ≤ begun rules speech p opening history
        → IsToldRight p n s.peer (worlds_of rules speech opening history) (told rules speech p n opening history)
    -- no more sessions are begun than came up, and all of them when everything is told
    pub begun_at_most : (opening : Opening) (history : List (Entry Job Said)) (p : ℕ) (s : PeerState) → IsCourse opening history → IsPeer p s opening history
        → begun rules speech p opening history ≤ s.sessions
    pub begun_all : (opening : Opening) (history : List (Entry Job Said)) (p : ℕ) (s : PeerState) → IsCourse opening history → IsPeer p s opening history
        → speech.drained (replay rules opening history) ≡ true → begun rules speech p opening history ≡ s.sessions
    -- when everything is told each live peer has its private table
    pub all_told : (opening : Opening) (history : List (Entry Job Said)) (p : ℕ) (s : PeerState) → IsCourse opening history → IsPeer p s opening history
        → speech.drained (replay rules opening history) ≡ true → is_live rules speech p s opening history ≡ true
        → IsToldAll p (world_at rules speech opening history) (told rules speech p s.sessions opening history)
    -- what is handed out is the text of its message
    pub text : (opening : Opening) (history : List (Entry Job Said)) (p session made len : ℕ) (s : PeerState) → IsCourse opening history → IsPeer p s opening history
        → rules.lane_reply (Next p) (replay rules opening history) ≡ Hand session made len
        → written (capabilities_of s.peer) (speech.message p (replay rules opening history)) ≡ Some (rules.handed p (replay rules opening history))
    -- a loss may be noted exactly once for each session that was begun
    pub losses : (opening : Opening) (history : List (Entry Job Said)) (p n : ℕ) → IsCourse opening history
        → rules.may_lose p n (replay rules opening history) ≡ (nat_le 1 n && (nat_le n (begun rules speech p opening history) && not (is_lost rules speech p n opening history)))
    -- marks tell what was told
    pub marks : (opening : Opening) (history : List (Entry Job Said)) (pass : ℕ) (job : Job) → IsCourse opening history
        → rules.legal job (replay rules opening history) ≡ true
        → TellsMarks (speech.purpose job) (rules.reply job (replay rules opening history)) opening (history ++ job_entry rules pass job (replay rules opening history) ∷ [])
    -- After a request of a live peer, when everything is told in that session, every route was announced again.
    pub told_again : (opening : Opening) (before whole : List (Entry Job Said)) (p : ℕ) (asker s : PeerState) → IsDrainedSince opening before whole p asker s
        → IsToldAgain p s.peer (world_at rules speech opening whole) (length (told rules speech p asker.sessions opening before)) (told rules speech p s.sessions opening whole)

  -- What a speaker owes.
  pub record IsSpeaker : Type 0 where
    pub steps : StepsRight
    pub histories : HistoriesRight
