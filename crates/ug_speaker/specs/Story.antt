-- What the builder of a run did on the board, line by line.
use Rattle.std.specs.Prelude.{◌≡◌, ℕ, true, List, [], ◌∷◌, ◌++◌, Option, Some, None, Ok, Err}
use Rattle.ug_types.specs.declared.mark.Mark.{Mark}
use Rattle.ug_board.specs.declared.steps.BoardStep.{BoardStep}
use Rattle.ug_board.specs.declared.steps.BoardStep.TheVariants.{Job as DoJob, Lane as LaneTakes}
use Rattle.ug_board.specs.Entry.{Entry}
use Rattle.ug_board.specs.Rules.{Rules}
use Rattle.ug_board.specs.History.{replay, job_entry}
use Rattle.ug_board.specs.Deeds.{Each, of_pass}
use Rattle.ug_events.specs.Events.{Happening, IsEvent, Saying, SaysNothing, SaysSync, Says}
use Rattle.ug_events.specs.Reads.{Reads}
use Rattle.ug_world.specs.Verdicts.{verdict}
use Rattle.ug_speaker.specs.Speech.{Purpose, TakesEvent, MarksTold, Ends, Prepares, Speech}
use Rattle.ug_speaker.specs.Told.{world_at}

-- A line's event is of its form.
abbrev pub IsSound : Reads Saying → Type 0
IsSound (Ok SaysNothing) = Unit {0}
IsSound (Ok SaysSync) = Unit {0}
IsSound (Ok (Says e)) = IsEvent e
IsSound (Err refusal) = Unit {0}

-- work that no line asks for
abbrev pub IsUnasked : Purpose → Type 0
IsUnasked (TakesEvent e) = ⊥
IsUnasked MarksTold = ⊥
IsUnasked Ends = Unit {0}
IsUnasked Prepares = Unit {0}

module _ {Opening State Job Said : Type 0} (rules : Rules Opening State Job Said) (speech : Speech Opening State Job Said) where
  abbrev pub IsUnaskedStep : BoardStep Job → Type 0
  IsUnaskedStep (DoJob job) = IsUnasked (speech.purpose job)
  IsUnaskedStep (LaneTakes step) = ⊥

  -- A step between lines: what the builder does there, who has pass 0, no line asks for. Of the steps of others nothing is said.
  abbrev pub IsBetween : Entry Job Said → Type 0
  IsBetween entry = of_pass 0 entry ≡ true → IsUnaskedStep entry.step

  -- One job was done behind this history, with these marks.
  pub record IsDone (purpose : Purpose) (opening : Opening) (before : List (Entry Job Said)) (ms : List Mark) (did : List (Entry Job Said)) : Type 0 where
    pub job : Job
    pub is : speech.purpose job ≡ purpose
    pub legal : rules.legal job (replay rules opening before) ≡ true
    pub entry : did ≡ job_entry rules 0 job (replay rules opening before) ∷ []
    pub marks : ms ≡ speech.marks (rules.reply job (replay rules opening before))

  abbrev pub IsNothing : List Mark → List (Entry Job Said) → Type 0
  IsNothing ms did = (ms ≡ []) × (did ≡ [])

  abbrev pub DoesEvent : Option ℕ → Happening → Opening → List (Entry Job Said) → List Mark → List (Entry Job Said) → Type 0
  DoesEvent None e opening before ms did = IsDone (TakesEvent e) opening before ms did
  DoesEvent (Some number) e opening before ms did = IsNothing ms did

  -- What was done for a line: an event that the world accepts is taken, and `sync` marks what was told.
  abbrev pub Does : Reads Saying → Opening → List (Entry Job Said) → List Mark → List (Entry Job Said) → Type 0
  Does (Ok SaysNothing) opening before ms did = IsNothing ms did
  Does (Ok SaysSync) opening before ms did = IsDone MarksTold opening before ms did
  Does (Ok (Says e)) opening before ms did = DoesEvent (verdict (world_at rules speech opening before) e) e opening before ms did
  Does (Err refusal) opening before ms did = IsNothing ms did

  -- The entries behind a history are those of these lines, with these marks, and work between.
  abbrev pub IsStory : Opening → List (Entry Job Said) → List (Reads Saying) → List (List Mark) → List (Entry Job Said) → Type 0
  IsStory opening before [] [] entries = Each IsBetween entries
  IsStory opening before [] (ms ∷ marks) entries = ⊥
  IsStory opening before (line ∷ lines) [] entries = ⊥
  IsStory opening before (line ∷ lines) (ms ∷ marks) entries =
      (quiet : List (Entry Job Said)) × (did : List (Entry Job Said)) × (later : List (Entry Job Said))
      × (entries ≡ quiet ++ (did ++ later)) × Each IsBetween quiet × Does line opening (before ++ quiet) ms did
      × IsStory opening (before ++ (quiet ++ did)) lines marks later
