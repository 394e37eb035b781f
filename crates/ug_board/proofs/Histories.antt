-- Histories that grow by an entry.
use Rattle.std.proofs.Common.{◌≡◌, ◌+◌, ◌<◌, ◌≤◌, ℕ, List, [], ◌∷◌, ◌++◌, length, true, refl, sym, ◌∙◌, ap, subst, arith, length-append}
use Rattle.ug_board.specs.declared.steps.BoardStep.TheVariants.{Job as DoJob, Lane as LaneTakes}
use Rattle.ug_board.specs.declared.steps.LaneStep.{LaneStep}
use Rattle.ug_board.specs.Entry.{Entry}
use Rattle.ug_board.specs.Rules.{Rules, IsMachine, counts}
use Rattle.ug_board.specs.History.{IsLegalStep, IsLegalFrom, replay_from, after_step, IsLegal, replay, IsInStep}

module _ {Opening State Job Said : Type 0} (rules : Rules Opening State Job Said) where
  pub replay_from-append :
      (state : State) (old new : List (Entry Job Said))
      → replay_from rules state (old ++ new) ≡ replay_from rules (replay_from rules state old) new
  replay_from-append state [] new = refl
  replay_from-append state (entry ∷ old) new = replay_from-append (after_step rules entry.step state) old new

  pub IsLegalFrom-append :
      (state : State) (old new : List (Entry Job Said))
      → IsLegalFrom rules state old → IsLegalFrom rules (replay_from rules state old) new
      → IsLegalFrom rules state (old ++ new)
  IsLegalFrom-append state [] new legal further = further
  IsLegalFrom-append state (entry ∷ old) new legal further =
      (legal.0, IsLegalFrom-append (after_step rules entry.step state) old new legal.1 further)

  -- A legal history goes on with a legal step.
  pub IsLegal-grown :
      (o o' : Opening) (old new : List (Entry Job Said)) (entry : Entry Job Said) (state : State)
      → o' ≡ o → state ≡ replay rules o old → IsLegal rules o old
      → IsLegalStep rules entry.step entry.said state → new ≡ old ++ entry ∷ []
      → IsLegal rules o' new
  IsLegal-grown o o' old new entry state same stands legal step grown =
      let step' : IsLegalStep rules entry.step entry.said (replay rules o old) = subst (λ s. IsLegalStep rules entry.step entry.said s) stands step in
      let whole : IsLegal rules o (old ++ entry ∷ []) = IsLegalFrom-append (rules.start o) old (entry ∷ []) legal (step', tt) in
      subst (λ h. IsLegal rules o' h) (sym grown) (subst (λ p. IsLegal rules p (old ++ entry ∷ [])) (sym same) whole)

  -- The machine that took the step stands where the longer history leads.
  pub replay-grown :
      (o o' : Opening) (old new : List (Entry Job Said)) (entry : Entry Job Said) (state state' : State)
      → o' ≡ o → state ≡ replay rules o old → state' ≡ after_step rules entry.step state → new ≡ old ++ entry ∷ []
      → state' ≡ replay rules o' new
  replay-grown o o' old new entry state state' same stands moved grown =
      let whole : replay rules o (old ++ entry ∷ []) ≡ after_step rules entry.step (replay rules o old) =
      replay_from-append (rules.start o) old (entry ∷ []) in
      moved ∙ (ap (λ s. after_step rules entry.step s) stands ∙ (sym whole ∙ (ap (λ p. replay rules p (old ++ entry ∷ [])) (sym same) ∙ ap (λ h. replay rules o' h) (sym grown))))

  -- A board whose machine took a lane's step that leaves an entry is in step again.
  pub IsInStep-lane :
      (machine : IsMachine rules) (o o' : Opening) (old new : List (Entry Job Said)) (entry : Entry Job Said)
      (spare spare' : ℕ) (state state' : State) (jobs jobs' : ℕ) (step : LaneStep)
      → o' ≡ o → IsInStep rules o old spare state jobs
      → entry.step ≡ LaneTakes step → counts rules step state ≡ true → state' ≡ rules.after_lane step state
      → new ≡ old ++ entry ∷ [] → spare ≤ spare' + 1 → jobs' ≡ jobs
      → IsInStep rules o' new spare' state' jobs'
  IsInStep-lane machine o o' old new entry spare spare' state state' jobs jobs' step same in_step is counted moved grown kept done =
      let falls : rules.due (rules.after_lane step state) < rules.due state = machine.due_falls step state counted in
      let room : rules.due state ≤ spare = in_step.room in
      let most : jobs ≤ length old = in_step.counted in
      let moved' : state' ≡ after_step rules entry.step state = moved ∙ ap (λ s. after_step rules s state) (sym is) in
      let longer : length new ≡ length old + 1 = ap length grown ∙ length-append old (entry ∷ []) in
      let lower : rules.due state' ≡ rules.due (rules.after_lane step state) = ap rules.due moved in
      record {
        stands = replay-grown o o' old new entry state state' same in_step.stands moved' grown;
        room = omega arith;
        counted = omega arith;
      }

  -- The same of a job, for whose entry and at least the steps that are due after it room was made.
  pub IsInStep-job :
      (o o' : Opening) (old new : List (Entry Job Said)) (entry : Entry Job Said)
      (spare spare' due : ℕ) (state state' : State) (jobs jobs' : ℕ) (job : Job)
      → o' ≡ o → state ≡ replay rules o old → jobs ≤ length old
      → entry.step ≡ DoJob job → state' ≡ rules.after job state
      → new ≡ old ++ entry ∷ [] → due + 1 ≤ spare → spare ≤ spare' + 1 → rules.due state' ≤ due → jobs' ≡ jobs + 1
      → IsInStep rules o' new spare' state' jobs'
  IsInStep-job o o' old new entry spare spare' due state state' jobs jobs' job same stands most is moved grown room kept owed done =
      let moved' : state' ≡ after_step rules entry.step state = moved ∙ ap (λ s. after_step rules s state) (sym is) in
      let longer : length new ≡ length old + 1 = ap length grown ∙ length-append old (entry ∷ []) in
      record {
        stands = replay-grown o o' old new entry state state' same stands moved' grown;
        room = omega arith;
        counted = omega arith;
      }
