-- What the events of a whole history evaluate.
use Rattle.std.proofs.Common.{◌≡◌, ℕ, ◌+◌, ◌≤◌, List, [], ◌∷◌, ◌++◌, refl, sym, ◌∙◌, ap, subst, append_assoc, arith}
use Rattle.ug_board.specs.declared.steps.BoardStep.{BoardStep}
use Rattle.ug_board.specs.declared.steps.BoardStep.TheVariants.{Job as DoJob, Lane as LaneTakes}
use Rattle.ug_board.specs.declared.steps.BoardSaid.{BoardSaid}
use Rattle.ug_board.specs.declared.steps.BoardSaid.TheVariants.{Job as JobSaid, Lane as LaneGot}
use Rattle.ug_board.specs.History.{IsLegalStep, IsLegalFrom, after_step, replay_from, replay}
use Rattle.ug_events.specs.Events.{Happening}
use Rattle.ug_world.specs.World.{World}
use Rattle.ug_speaker.specs.Told.{step_events, events_in}
use Rattle.ug_speaker.specs.Owes.{AreEvents, IsCourse}
use Rattle.ug_group_rules.specs.Machine.{System, Job, Take, Format, Merge, Slow, Sync, Close}
use Rattle.ug_group_rules.specs.Rules.{group_rules, group_speech}
use Rattle.ug_group_rules.specs.PeerKeys.{evaluated_by, evaluated_from, most_along}
use Rattle.ug_group_rules.proofs.WorldStays.{world-event, world-job, stands-lane}
use Rattle.ug_group_rules.proofs.Histories.{GroupEntry}
use Rattle.ug_group_rules.proofs.Marks.{replay-push}
use Rattle.ug_group_rules.proofs.Evaluated.{evaluates-few}

-- ---- a front of a course is a course

legal_front : (s : System) (h more : List GroupEntry) → IsLegalFrom group_rules s (h ++ more) → IsLegalFrom group_rules s h
legal_front s [] more legal = tt
legal_front s (entry ∷ h) more legal = (legal.0, legal_front (after_step group_rules entry.step s) h more legal.1)

legal_back : (s : System) (h more : List GroupEntry) → IsLegalFrom group_rules s (h ++ more) → IsLegalFrom group_rules (replay_from group_rules s h) more
legal_back s [] more legal = legal
legal_back s (entry ∷ h) more legal = legal_back (after_step group_rules entry.step s) h more legal.1

events_append : (h more : List GroupEntry) → events_in group_rules group_speech (h ++ more) ≡ events_in group_rules group_speech h ++ events_in group_rules group_speech more
events_append [] more = refl
events_append (entry ∷ h) more =
    ap (λ (es : List Happening). step_events group_rules group_speech entry.step ++ es) (events_append h more)
    ∙ sym (append_assoc (step_events group_rules group_speech entry.step) (events_in group_rules group_speech h) (events_in group_rules group_speech more))

events_front : (es fs : List Happening) → AreEvents (es ++ fs) → AreEvents es
events_front [] fs are = tt
events_front (e ∷ es) fs are = (are.0, events_front es fs are.1)

course_front : (opening : World) (h more : List GroupEntry) → IsCourse group_rules group_speech opening (h ++ more) → IsCourse group_rules group_speech opening h
course_front opening h more course = record {
  opens = course.opens;
  legal = legal_front (group_rules.start opening) h more course.legal;
  events = events_front (events_in group_rules group_speech h) (events_in group_rules group_speech more) (subst (λ (es : List Happening). AreEvents es) (events_append h more) course.events);
}

-- ---- one step, and what follows

module _ (opening : World) (before : List GroupEntry) (course : IsCourse group_rules group_speech opening before) (n : ℕ) (es : List Happening) where
  abbrev here : System
  here = replay group_rules opening before

  abbrev Few : BoardStep Job → Type 0
  Few step = n ≤ most_along (after_step group_rules step here).world es → evaluated_by step here + n ≤ most_along here.world (step_events group_rules group_speech step ++ es)

  -- the world stays, and nothing is evaluated
  stays_few : (w : World) → w ≡ here.world → n ≤ most_along w es → 0 + n ≤ most_along here.world es
  stays_few w same rest = let still = ap (λ (v : World). most_along v es) same in omega arith

  step_few : (step : BoardStep Job) (said : BoardSaid _) → IsLegalStep group_rules step said here → Few step
  step_few (DoJob (Take e)) (JobSaid said) legal rest =
      let few = evaluates-few opening before course 0 e legal.0 in
      let same = ap (λ (w : World). most_along w es) (world-event e here) in
      omega arith
  step_few (DoJob (Format g)) (JobSaid said) legal rest = stays_few (after_step group_rules (DoJob (Format g)) here).world (world-job (Format g) here) rest
  step_few (DoJob (Merge g h)) (JobSaid said) legal rest = stays_few (after_step group_rules (DoJob (Merge g h)) here).world refl rest
  step_few (DoJob (Slow g)) (JobSaid said) legal rest = stays_few (after_step group_rules (DoJob (Slow g)) here).world (world-job (Slow g) here) rest
  step_few (DoJob Sync) (JobSaid said) legal rest = stays_few here.world refl rest
  step_few (DoJob Close) (JobSaid said) legal rest = stays_few here.world refl rest
  step_few (LaneTakes step) (LaneGot said) legal rest = stays_few (after_step group_rules (LaneTakes step) here).world (stands-lane step here).0 rest
  step_few (DoJob job) (LaneGot said) legal rest = absurd legal
  step_few (LaneTakes lane) (JobSaid said) legal rest = absurd legal

few_along : (opening : World) (before later : List GroupEntry) → IsCourse group_rules group_speech opening (before ++ later)
    → evaluated_from (replay group_rules opening before) later ≤ most_along (replay group_rules opening before).world (events_in group_rules group_speech later)
few_along opening before [] course = omega arith
few_along opening before (entry ∷ later) course =
    let whole : (before ++ entry ∷ []) ++ later ≡ before ++ entry ∷ later = append_assoc before (entry ∷ []) later in
    let rest = few_along opening (before ++ entry ∷ []) later (subst (λ (l : List GroupEntry). IsCourse group_rules group_speech opening l) (sym whole) course) in
    let legal = legal_back (group_rules.start opening) before (entry ∷ later) course.legal in
    let next = after_step group_rules entry.step (replay group_rules opening before) in
    step_few opening before (course_front opening before (entry ∷ later) course) (evaluated_from next later) (events_in group_rules group_speech later) entry.step entry.said legal.0
    (subst (λ (s : System). evaluated_from s later ≤ most_along s.world (events_in group_rules group_speech later)) (replay-push (group_rules.start opening) before entry) rest)

pub evaluated-few : (opening : World) (h : List GroupEntry) → IsCourse group_rules group_speech opening h → evaluated_from (group_rules.start opening) h ≤ most_along opening (events_in group_rules group_speech h)
evaluated-few opening h course = few_along opening [] h course
