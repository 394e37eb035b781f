-- What is known of a run when all its lanes are back and its board is closed.
use Rattle.std.specs.Prelude.{◌≡◌, ℕ, zero, suc, ◌+◌, ◌≤◌, ◌==◌, Bool, true, false, List, [], ◌∷◌, ◌++◌, length, Option, if◌then◌else◌}
use Rattle.ug_types.specs.declared.mark.Mark.{Mark}
use Rattle.ug_board.specs.declared.steps.BoardStep.{BoardStep}
use Rattle.ug_board.specs.declared.steps.BoardStep.TheVariants.{Job as DoJob, Lane as LaneTakes}
use Rattle.ug_board.specs.declared.steps.LaneStep.{LaneStep}
use Rattle.ug_board.specs.declared.steps.LaneStep.TheVariants.{Next, Lost}
use Rattle.ug_board.specs.Entry.{Entry}
use Rattle.ug_board.specs.Rules.{Rules}
use Rattle.ug_board.specs.History.{IsLegal, replay}
use Rattle.ug_board.specs.Deeds.{Each}
use Rattle.ug_turnstile.specs.Passes.{Held, Agrees}
use Rattle.ug_sender.specs.Lanes.{KeepsLane}
use Rattle.ug_events.specs.Events.{Saying}
use Rattle.ug_events.specs.Reads.{Reads}
use Rattle.ug_speaker.specs.Speech.{Speech}
use Rattle.ug_speaker.specs.Owes.{IsOpening}
use Rattle.ug_event_loop.specs.Contents.{WireTold}
use Rattle.ug_speaker.specs.Story.{IsSound, IsStory}

-- the losses of a peer's sessions that are entries of a history, in order
abbrev pub losses_by : ℕ → LaneStep → List ℕ
losses_by p (Next peer) = []
losses_by p (Lost peer session) = if peer == p then session ∷ [] else []

abbrev pub step_losses : {J : Type 0} → ℕ → BoardStep J → List ℕ
step_losses p (DoJob job) = []
step_losses p (LaneTakes step) = losses_by p step

abbrev pub losses_in : {J R : Type 0} → ℕ → List (Entry J R) → List ℕ
losses_in p [] = []
losses_in p (entry ∷ entries) = step_losses p entry.step ++ losses_in p entries

-- the same for so many peers, of which the first stands at place `p`
abbrev pub all_losses : {J R : Type 0} → ℕ → ℕ → List (Entry J R) → List (List ℕ)
all_losses p zero history = []
all_losses p (suc count) history = losses_in p history ∷ all_losses (p + 1) count history

-- For each wire, by the place of its peer.
abbrev pub EachLaneFrom : (ℕ → WireTold → Type 0) → ℕ → List WireTold → Type 0
EachLaneFrom P p [] = Unit {0}
EachLaneFrom P p (wire ∷ wires) = P p wire × EachLaneFrom P (p + 1) wires

module _ {Opening State Job Said : Type 0} (rules : Rules Opening State Job Said) (speech : Speech Opening State Job Said) where
  -- The wire at a place, and the pass by which it was told what to send. Where the run completed no loss was passed over.
  pub record IsCrewed (opening : Opening) (history : List (Entry Job Said)) (complete : Bool) (p : ℕ) (wire : WireTold) : Type 0 where
    pub pass : Held (Entry Job Said) Opening
    pub number : pass.number ≡ p + 1
    pub agrees : Agrees (λ (entry : Entry Job Said). entry.pass) opening history pass
    pub begun : ℕ
    pub latest : Option ℕ
    pub unnoted : Bool
    pub kept : KeepsLane rules pass p wire.sessions begun wire.faults latest unnoted
    pub noted : complete ≡ true → unnoted ≡ false

  -- A run whose history is closed: what its builder did, what each lane did, and that nobody else did anything. Where it
  -- completed everything is told.
  pub record IsClosed (opening : Opening) (lines : List (Reads Saying)) (marks : List (List Mark)) (complete : Bool) (wires : List WireTold) (history : List (Entry Job Said)) : Type 0 where
    pub opens : IsOpening (speech.first opening)
    pub sound : Each IsSound lines
    pub legal : IsLegal rules opening history
    pub story : IsStory rules speech opening [] lines marks history
    pub crew : EachLaneFrom (IsCrewed opening history complete) 0 wires
    pub all : length wires ≡ length (speech.first opening).peers
    pub owned : Each (λ (entry : Entry Job Said). entry.pass ≤ length wires) history
    pub drained : complete ≡ true → speech.drained (replay rules opening history) ≡ true
