-- The world that a story leads to, where others did nothing but steps of lanes.
use Rattle.std.proofs.Common.{◌≡◌, ℕ, Bool, true, false, List, [], ◌∷◌, ◌++◌, length, Option, Some, None, Ok, Err, refl, sym, ◌∙◌, ap, subst, append_assoc, arith}
use Rattle.std.proofs.lemmas.List.{append-nil}
use Rattle.ug_types.specs.declared.mark.Mark.{Mark}
use Rattle.ug_board.specs.declared.steps.BoardStep.{BoardStep}
use Rattle.ug_board.specs.declared.steps.BoardStep.TheVariants.{Job as DoJob, Lane as LaneTakes}
use Rattle.ug_board.specs.declared.steps.BoardSaid.{BoardSaid}
use Rattle.ug_board.specs.declared.steps.BoardSaid.TheVariants.{Job as JobSaid, Lane as LaneGot}
use Rattle.ug_board.specs.Entry.{Entry}
use Rattle.ug_board.specs.Rules.{Rules}
use Rattle.ug_board.specs.History.{IsLegalStep, IsLegalFrom, IsLegal, after_step, replay_from, replay, job_entry}
use Rattle.ug_board.proofs.Histories.{replay_from-append}
use Rattle.ug_board.specs.Deeds.{Each, of_pass}
use Rattle.ug_events.specs.Events.{Happening, Saying, SaysNothing, SaysSync, Says}
use Rattle.ug_events.specs.Reads.{Reads}
use Rattle.ug_world.specs.World.{World}
use Rattle.ug_world.specs.Verdicts.{verdict}
use Rattle.ug_world.specs.Worlds.{judged, outcome, world_after, last_world}
use Rattle.ug_speaker.specs.Speech.{Speech, Purpose, TakesEvent, MarksTold, Ends, Prepares}
use Rattle.ug_speaker.specs.Told.{world_at}
use Rattle.ug_speaker.specs.Owes.{StepsRight, world_by}
use Rattle.ug_speaker.specs.Story.{IsUnasked, IsUnaskedStep, IsBetween, IsDone, DoesEvent, Does, IsStory}
use Rattle.ug_event_loop.specs.Standing.{IsLaneStep, AreLanes}

pub lanes-front : {J R : Type 0} (xs ys : List (Entry J R)) → AreLanes (xs ++ ys) → AreLanes xs
lanes-front [] ys h = tt
lanes-front (x ∷ xs) ys h = (h.0, lanes-front xs ys h.1)

pub lanes-back : {J R : Type 0} (xs ys : List (Entry J R)) → AreLanes (xs ++ ys) → AreLanes ys
lanes-back [] ys h = h
lanes-back (x ∷ xs) ys h = lanes-back xs ys h.1

-- the last world of lines and then of more
pub last-more : (w : World) (first lines : List (Reads Saying)) → last_world w (first ++ lines) ≡ last_world (last_world w first) lines
last-more w [] lines = refl
last-more w (line ∷ first) lines = last-more (world_after w (outcome w line)) first lines

module _ {Opening State Job Said : Type 0} (rules : Rules Opening State Job Said) where
  pub legal-front : (s : State) (h more : List (Entry Job Said)) → IsLegalFrom rules s (h ++ more) → IsLegalFrom rules s h
  legal-front s [] more legal = tt
  legal-front s (entry ∷ h) more legal = (legal.0, legal-front (after_step rules entry.step s) h more legal.1)

  pub legal-back : (s : State) (h more : List (Entry Job Said)) → IsLegalFrom rules s (h ++ more) → IsLegalFrom rules (replay_from rules s h) more
  legal-back s [] more legal = legal
  legal-back s (entry ∷ h) more legal = legal-back (after_step rules entry.step s) h more legal.1

module _ {Opening State Job Said : Type 0} (rules : Rules Opening State Job Said) (speech : Speech Opening State Job Said) where
  -- each line has its marks
  pub story-marks : (opening : Opening) (before : List (Entry Job Said)) (lines : List (Reads Saying)) (marks : List (List Mark)) (entries : List (Entry Job Said))
      → IsStory rules speech opening before lines marks entries → length marks ≡ length lines
  story-marks opening before [] [] entries story = refl
  story-marks opening before [] (ms ∷ marks) entries story = absurd story
  story-marks opening before (line ∷ lines) [] entries story = absurd story
  story-marks opening before (line ∷ lines) (ms ∷ marks) entries (quiet, did, later, parts, between, does, rest) =
      let same = story-marks opening (before ++ (quiet ++ did)) lines marks later rest in omega arith

  module _ (steps : StepsRight rules speech) where
    unasked_world : (purpose : Purpose) (w : World) → IsUnasked purpose → world_by rules speech purpose w ≡ w
    unasked_world (TakesEvent e) w is = absurd is
    unasked_world MarksTold w is = absurd is
    unasked_world Ends w is = refl
    unasked_world Prepares w is = refl

    -- a step between lines, the builder's or another's
    between_step :
        (own : Bool) (step : BoardStep Job) (said : BoardSaid Said) (s : State)
        → (own ≡ true → IsUnaskedStep rules speech step) → (own ≡ false → IsLaneStep step) → IsLegalStep rules step said s
        → speech.world (after_step rules step s) ≡ speech.world s
    between_step true (DoJob job) (JobSaid said) s unasked lane legal = steps.world_after_job job s legal.0 ∙ unasked_world (speech.purpose job) (speech.world s) (unasked refl)
    between_step false (DoJob job) (JobSaid said) s unasked lane legal = absurd (lane refl)
    between_step true (LaneTakes step) (LaneGot said) s unasked lane legal = absurd (unasked refl)
    between_step false (LaneTakes step) (LaneGot said) s unasked lane legal = steps.world_after_lane step s legal.0
    between_step own (DoJob job) (LaneGot said) s unasked lane legal = absurd legal
    between_step own (LaneTakes step) (JobSaid said) s unasked lane legal = absurd legal

    between_from : (s : State) (entries : List (Entry Job Said)) → Each (IsBetween rules speech) entries → AreLanes entries → IsLegalFrom rules s entries
        → speech.world (replay_from rules s entries) ≡ speech.world s
    between_from s [] between lanes legal = refl
    between_from s (entry ∷ entries) between lanes legal =
        between_from (after_step rules entry.step s) entries between.1 lanes.1 legal.1
        ∙ between_step (of_pass 0 entry) entry.step entry.said s between.0 lanes.0 legal.0

    -- what stands between lines leaves the world
    pub world-between : (opening : Opening) (before quiet : List (Entry Job Said)) → Each (IsBetween rules speech) quiet → AreLanes quiet → IsLegal rules opening (before ++ quiet)
        → world_at rules speech opening (before ++ quiet) ≡ world_at rules speech opening before
    world-between opening before quiet between lanes legal =
        ap (λ (s : State). speech.world s) (replay_from-append rules (rules.start opening) before quiet)
        ∙ between_from (replay rules opening before) quiet between lanes (legal-back rules (rules.start opening) before quiet legal)

    done_world : (purpose : Purpose) (opening : Opening) (before : List (Entry Job Said)) (ms : List Mark) (did : List (Entry Job Said)) → IsDone rules speech purpose opening before ms did
        → world_at rules speech opening (before ++ did) ≡ world_by rules speech purpose (world_at rules speech opening before)
    done_world purpose opening before ms did done =
        ap (λ (h : List (Entry Job Said)). world_at rules speech opening (before ++ h)) done.entry
        ∙ (ap (λ (s : State). speech.world s) (replay_from-append rules (rules.start opening) before (job_entry rules 0 done.job (replay rules opening before) ∷ []))
        ∙ (steps.world_after_job done.job (replay rules opening before) done.legal
        ∙ ap (λ (p : Purpose). world_by rules speech p (world_at rules speech opening before)) done.is))

    none_world : (opening : Opening) (before did : List (Entry Job Said)) → did ≡ [] → world_at rules speech opening (before ++ did) ≡ world_at rules speech opening before
    none_world opening before did none =
        ap (λ (h : List (Entry Job Said)). world_at rules speech opening (before ++ h)) none ∙ ap (world_at rules speech opening) (append-nil before)

    event_world : (v : Option ℕ) (e : Happening) (opening : Opening) (before : List (Entry Job Said)) (ms : List Mark) (did : List (Entry Job Said)) → DoesEvent rules speech v e opening before ms did
        → world_at rules speech opening (before ++ did) ≡ world_after (world_at rules speech opening before) (judged (world_at rules speech opening before) e v)
    event_world None e opening before ms did does = done_world (TakesEvent e) opening before ms did does
    event_world (Some number) e opening before ms did does = none_world opening before did does.1

    -- what was done for a line leads to the next world
    line_world : (line : Reads Saying) (opening : Opening) (before : List (Entry Job Said)) (ms : List Mark) (did : List (Entry Job Said)) → Does rules speech line opening before ms did
        → world_at rules speech opening (before ++ did) ≡ world_after (world_at rules speech opening before) (outcome (world_at rules speech opening before) line)
    line_world (Ok SaysNothing) opening before ms did does = none_world opening before did does.1
    line_world (Ok SaysSync) opening before ms did does = done_world MarksTold opening before ms did does
    line_world (Ok (Says e)) opening before ms did does = event_world (verdict (world_at rules speech opening before) e) e opening before ms did does
    line_world (Err refusal) opening before ms did does = none_world opening before did does.1

    pub story-world : (opening : Opening) (before : List (Entry Job Said)) (lines : List (Reads Saying)) (marks : List (List Mark)) (entries : List (Entry Job Said))
        → IsStory rules speech opening before lines marks entries → AreLanes entries → IsLegal rules opening (before ++ entries)
        → world_at rules speech opening (before ++ entries) ≡ last_world (world_at rules speech opening before) lines
    story-world opening before [] [] entries story lanes legal = world-between opening before entries story lanes legal
    story-world opening before [] (ms ∷ marks) entries story lanes legal = absurd story
    story-world opening before (line ∷ lines) [] entries story lanes legal = absurd story
    story-world opening before (line ∷ lines) (ms ∷ marks) entries (quiet, did, later, parts, between, does, rest) lanes legal =
        let start = rules.start opening in
        let lanes' : AreLanes (quiet ++ (did ++ later)) = subst (λ (es : List (Entry Job Said)). AreLanes es) parts lanes in
        let behind : AreLanes (did ++ later) = lanes-back quiet (did ++ later) lanes' in
        let whole : before ++ entries ≡ (before ++ (quiet ++ did)) ++ later =
        ap (λ (es : List (Entry Job Said)). before ++ es) (parts ∙ sym (append_assoc quiet did later)) ∙ sym (append_assoc before (quiet ++ did) later) in
        let legal' : IsLegal rules opening ((before ++ (quiet ++ did)) ++ later) = subst (λ (es : List (Entry Job Said)). IsLegal rules opening es) whole legal in
        let here : IsLegal rules opening (before ++ (quiet ++ did)) = legal-front rules start (before ++ (quiet ++ did)) later legal' in
        let same : before ++ (quiet ++ did) ≡ (before ++ quiet) ++ did = sym (append_assoc before quiet did) in
        let first : IsLegal rules opening (before ++ quiet) =
        legal-front rules start (before ++ quiet) did (subst (λ (es : List (Entry Job Said)). IsLegal rules opening es) same here) in
        let next : world_at rules speech opening (before ++ (quiet ++ did)) ≡ world_after (world_at rules speech opening before) (outcome (world_at rules speech opening before) line) =
        ap (world_at rules speech opening) same
        ∙ (line_world line opening (before ++ quiet) ms did does
        ∙ ap (λ (w : World). world_after w (outcome w line)) (world-between opening before quiet between (lanes-front quiet (did ++ later) lanes') first)) in
        ap (world_at rules speech opening) whole
        ∙ (story-world opening (before ++ (quiet ++ did)) lines marks later rest (lanes-back did later behind) legal'
        ∙ ap (λ (w : World). last_world w lines) next)
