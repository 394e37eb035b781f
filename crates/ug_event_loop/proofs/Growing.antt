-- Histories by their fronts: which are legal, what state and what events they leave.
use Rattle.std.proofs.Common.{◌≡◌, List, [], ◌∷◌, ◌++◌, refl, sym, ◌∙◌, ap, subst, append_assoc}
use Rattle.ug_board.specs.declared.steps.BoardStep.{BoardStep}
use Rattle.ug_board.specs.declared.steps.BoardStep.TheVariants.{Job as DoJob, Lane as LaneTakes}
use Rattle.ug_board.specs.declared.steps.BoardSaid.{BoardSaid}
use Rattle.ug_board.specs.declared.steps.BoardSaid.TheVariants.{Job as JobSaid, Lane as LaneGot}
use Rattle.ug_board.specs.Entry.{Entry}
use Rattle.ug_board.specs.Rules.{Rules}
use Rattle.ug_board.specs.History.{IsLegalStep, IsLegalFrom, IsLegal, after_step, replay_from, replay}
use Rattle.ug_board.proofs.Histories.{replay_from-append}
use Rattle.ug_events.specs.Events.{Happening}
use Rattle.ug_world.specs.World.{World}
use Rattle.ug_world.specs.After.{after}
use Rattle.ug_speaker.specs.Speech.{Purpose, TakesEvent, MarksTold, Ends, Prepares, Speech, events_for}
use Rattle.ug_speaker.specs.Told.{world_after, step_events, events_in, world_at}
use Rattle.ug_speaker.specs.Owes.{AreEvents, IsCourse, StepsRight, world_by}

pub events-front : (es fs : List Happening) → AreEvents (es ++ fs) → AreEvents es
events-front [] fs h = tt
events-front (e ∷ es) fs h = (h.0, events-front es fs h.1)

pub events-join : (es fs : List Happening) → AreEvents es → AreEvents fs → AreEvents (es ++ fs)
events-join [] fs h k = k
events-join (e ∷ es) fs h k = (h.0, events-join es fs h.1 k)

pub after-append : (w : World) (es fs : List Happening) → world_after w (es ++ fs) ≡ world_after (world_after w es) fs
after-append w [] fs = refl
after-append w (e ∷ es) fs = after-append (after w e) es fs

module _ {Opening State Job Said : Type 0} (rules : Rules Opening State Job Said) where
  pub legal-front : (s : State) (h more : List (Entry Job Said)) → IsLegalFrom rules s (h ++ more) → IsLegalFrom rules s h
  legal-front s [] more legal = tt
  legal-front s (entry ∷ h) more legal = (legal.0, legal-front (after_step rules entry.step s) h more legal.1)

  pub legal-back : (s : State) (h more : List (Entry Job Said)) → IsLegalFrom rules s (h ++ more) → IsLegalFrom rules (replay_from rules s h) more
  legal-back s [] more legal = legal
  legal-back s (entry ∷ h) more legal = legal-back (after_step rules entry.step s) h more legal.1

module _ {Opening State Job Said : Type 0} (rules : Rules Opening State Job Said) (speech : Speech Opening State Job Said) where
  pub events-append : (h more : List (Entry Job Said)) → events_in rules speech (h ++ more) ≡ events_in rules speech h ++ events_in rules speech more
  events-append [] more = refl
  events-append (entry ∷ h) more =
      ap (λ (es : List Happening). step_events rules speech entry.step ++ es) (events-append h more)
      ∙ sym (append_assoc (step_events rules speech entry.step) (events_in rules speech h) (events_in rules speech more))

  -- a front of a course is a course
  pub course-front : (opening : Opening) (h more : List (Entry Job Said)) → IsCourse rules speech opening (h ++ more) → IsCourse rules speech opening h
  course-front opening h more course = record {
    opens = course.opens;
    legal = legal-front rules (rules.start opening) h more course.legal;
    events = events-front (events_in rules speech h) (events_in rules speech more) (subst (λ (es : List Happening). AreEvents es) (events-append h more) course.events);
  }

  -- ---- the world that steps lead to

  by_purpose : (purpose : Purpose) (w : World) → world_by rules speech purpose w ≡ world_after w (events_for purpose)
  by_purpose (TakesEvent e) w = refl
  by_purpose MarksTold w = refl
  by_purpose Ends w = refl
  by_purpose Prepares w = refl

  step_world : (steps : StepsRight rules speech) (step : BoardStep Job) (said : BoardSaid Said) (s : State) → IsLegalStep rules step said s
      → speech.world (after_step rules step s) ≡ world_after (speech.world s) (step_events rules speech step)
  step_world steps (DoJob job) (JobSaid said) s legal = steps.world_after_job job s legal.0 ∙ by_purpose (speech.purpose job) (speech.world s)
  step_world steps (LaneTakes step) (LaneGot said) s legal = steps.world_after_lane step s legal.0
  step_world steps (DoJob job) (LaneGot said) s legal = absurd legal
  step_world steps (LaneTakes step) (JobSaid said) s legal = absurd legal

  -- the world is that which the events of legal steps lead to
  pub world-led : (steps : StepsRight rules speech) (s : State) (h : List (Entry Job Said)) → IsLegalFrom rules s h
      → speech.world (replay_from rules s h) ≡ world_after (speech.world s) (events_in rules speech h)
  world-led steps s [] legal = refl
  world-led steps s (entry ∷ h) legal =
      world-led steps (after_step rules entry.step s) h legal.1
      ∙ (ap (λ (w : World). world_after w (events_in rules speech h)) (step_world steps entry.step entry.said s legal.0)
      ∙ sym (after-append (speech.world s) (step_events rules speech entry.step) (events_in rules speech h)))

  pub world-further : (steps : StepsRight rules speech) (opening : Opening) (h more : List (Entry Job Said)) → IsLegal rules opening (h ++ more)
      → world_at rules speech opening (h ++ more) ≡ world_after (world_at rules speech opening h) (events_in rules speech more)
  world-further steps opening h more legal =
      ap (λ (s : State). speech.world s) (replay_from-append rules (rules.start opening) h more)
      ∙ world-led steps (replay rules opening h) more (legal-back rules (rules.start opening) h more legal)

  -- where a front has no events behind it the world is the same
  pub world-still : (steps : StepsRight rules speech) (opening : Opening) (h more : List (Entry Job Said)) → IsLegal rules opening (h ++ more) → events_in rules speech more ≡ []
      → world_at rules speech opening (h ++ more) ≡ world_at rules speech opening h
  world-still steps opening h more legal none = world-further steps opening h more legal ∙ ap (λ (es : List Happening). world_after (world_at rules speech opening h) es) none

  pub world-first : (steps : StepsRight rules speech) (opening : Opening) (h : List (Entry Job Said)) → IsLegal rules opening h
      → world_at rules speech opening h ≡ world_after (speech.first opening) (events_in rules speech h)
  world-first steps opening h legal =
      world-led steps (rules.start opening) h legal ∙ ap (λ (w : World). world_after w (events_in rules speech h)) (steps.first_world opening)
