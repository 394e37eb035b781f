-- What a builder does on a board in its turns.
use Rattle.std.specs.Prelude.{◌≡◌, ◌+◌, ◌<◌, ℕ, Bool, true, false, List, [], ◌++◌, length, Option, Some, None}
use Rattle.ug_types.specs.declared.mark.Mark.{Mark}
use Rattle.ug_board.specs.declared.steps.BoardStep.{BoardStep}
use Rattle.ug_board.specs.declared.steps.BoardStep.TheVariants.{Job as DoJob, Lane as LaneTakes}
use Rattle.ug_board.specs.Entry.{Entry}
use Rattle.ug_board.specs.Rules.{Rules}
use Rattle.ug_board.specs.History.{IsLegal, replay}
use Rattle.ug_board.specs.Deeds.{Each, of_pass}
use Rattle.ug_events.specs.Events.{Saying}
use Rattle.ug_events.specs.Reads.{Reads}
use Rattle.ug_speaker.specs.Speech.{Speech, Ends, Prepares}
use Rattle.ug_speaker.specs.Told.{world_at}
use Rattle.ug_speaker.specs.Owes.{IsPrepared}
use Rattle.ug_report.specs.Report.{Answer, Passed, Refused, Took, Synced, answer_to}
use Rattle.ug_speaker.specs.Story.{IsBetween, Does}
use Rattle.ug_event_loop.specs.declared.came.Came.{Came}
use Rattle.ug_event_loop.specs.declared.came.Came.TheVariants as cames

-- what a line came to, with the marks that a reply tells
abbrev pub answer_of : {Said : Type 0} → (Said → List Mark) → Came Said → Answer
answer_of marks cames.Passed = Passed
answer_of marks (cames.Refused number inner) = Refused (record { number = number; inner = inner })
answer_of marks (cames.Took said) = Took (marks said)
answer_of marks (cames.Synced said) = Synced (marks said)

-- the marks in it
abbrev pub marks_of : Answer → List Mark
marks_of Passed = []
marks_of (Refused refusal) = []
marks_of (Took ms) = ms
marks_of (Synced ms) = ms

-- one where an event was taken, and one where the line was refused
abbrev pub is_taken : {Said : Type 0} → Came Said → ℕ
is_taken cames.Passed = 0
is_taken (cames.Refused number inner) = 0
is_taken (cames.Took said) = 1
is_taken (cames.Synced said) = 0

abbrev pub is_refused : {Said : Type 0} → Came Said → ℕ
is_refused cames.Passed = 0
is_refused (cames.Refused number inner) = 1
is_refused (cames.Took said) = 0
is_refused (cames.Synced said) = 0

-- so many more, by a count that stays at the end of its type once it is there
abbrev pub AreMore : {E : Type 0} → ℕ → List E → List E → Type 0
AreMore count old new = count < 18446744073709551615 → length new ≡ length old + count

module _ {Opening State Job Said : Type 0} (rules : Rules Opening State Job Said) (speech : Speech Opening State Job Said) where
  -- a step that prepares
  abbrev pub PreparesBy : BoardStep Job → Type 0
  PreparesBy (DoJob job) = speech.purpose job ≡ Prepares
  PreparesBy (LaneTakes step) = ⊥

  -- What the builder does here, who has pass 0, prepares. Of the steps of others nothing is said.
  abbrev pub IsPreparing : Entry Job Said → Type 0
  IsPreparing entry = of_pass 0 entry ≡ true → PreparesBy entry.step

  -- What prepares was done, and nothing else: the work isn't ended.
  pub record GoesOn (old new : List (Entry Job Said)) : Type 0 where
    pub more : List (Entry Job Said)
    pub parts : new ≡ old ++ more
    pub prepares : Each IsPreparing more

  -- What no line asks for was done, and nothing else; it may be that the work was ended by it.
  pub record WindsUp (old new : List (Entry Job Said)) : Type 0 where
    pub more : List (Entry Job Said)
    pub parts : new ≡ old ++ more
    pub between : Each (IsBetween rules speech) more

  -- a step that doesn't end the work
  abbrev pub EndsNot : BoardStep Job → Type 0
  EndsNot (DoJob job) = speech.purpose job ≡ Ends → ⊥
  EndsNot (LaneTakes step) = Unit {0}

  abbrev pub IsOpenBy : Entry Job Said → Type 0
  IsOpenBy entry = of_pass 0 entry ≡ true → EndsNot entry.step

  -- Whatever was done, the builder didn't end the work by it.
  pub record StaysOpen (old new : List (Entry Job Said)) : Type 0 where
    pub more : List (Entry Job Said)
    pub parts : new ≡ old ++ more
    pub each : Each IsOpenBy more

  -- For a line this was done, and this is what it came to.
  pub record Answers (opening : Opening) (line : Reads Saying) (answer : Answer) (old new : List (Entry Job Said)) : Type 0 where
    pub quiet : List (Entry Job Said)
    pub did : List (Entry Job Said)
    pub parts : new ≡ old ++ (quiet ++ did)
    pub prepares : Each IsPreparing quiet
    pub does : Does rules speech line opening (old ++ quiet) (marks_of answer) did
    pub is : answer_to (world_at rules speech opening (old ++ quiet)) line (marks_of answer) ≡ answer

  -- the same of a pass, whose root is known
  abbrev pub AnswersAt : Option Opening → Reads Saying → Answer → List (Entry Job Said) → List (Entry Job Said) → Type 0
  AnswersAt None line answer old new = Unit {0}
  AnswersAt (Some opening) line answer old new = Answers opening line answer old new

  -- the same of the replay: the history is legal
  abbrev pub IsLegalAt : Option Opening → List (Entry Job Said) → Type 0
  IsLegalAt None seen = Unit {0}
  IsLegalAt (Some opening) seen = IsLegal rules opening seen

  -- Nothing has to be done before the next event, if there may be one.
  abbrev pub IsSettled : State → Type 0
  IsSettled state = speech.closed state ≡ false → speech.settled state ≡ true

  -- the same of a pass, whose root is known
  abbrev pub IsSettledAt : Option Opening → List (Entry Job Said) → Type 0
  IsSettledAt None seen = Unit {0}
  IsSettledAt (Some opening) seen = IsSettled (replay rules opening seen)

  -- Only lanes can go on: not everything is told, and nothing is left that prepares.
  abbrev pub IsUntold : State → Type 0
  IsUntold state = (speech.drained state ≡ false) × IsPrepared rules speech state

  -- the same of a pass
  abbrev pub IsUntoldAt : Option Opening → List (Entry Job Said) → Type 0
  IsUntoldAt None seen = Unit {0}
  IsUntoldAt (Some opening) seen = IsUntold (replay rules opening seen)

  -- and the work is ended: everything is told, and no job may be done any more
  abbrev pub IsEndedAt : Option Opening → List (Entry Job Said) → Type 0
  IsEndedAt None seen = Unit {0}
  IsEndedAt (Some opening) seen = (speech.drained (replay rules opening seen) ≡ true) × (speech.closed (replay rules opening seen) ≡ true)

  -- The work is ended, unless the board is spent: no job may be done any more.
  abbrev pub IsClosedAt : Bool → Option Opening → List (Entry Job Said) → Type 0
  IsClosedAt spent None seen = Unit {0}
  IsClosedAt spent (Some opening) seen = spent ≡ false → speech.closed (replay rules opening seen) ≡ true
