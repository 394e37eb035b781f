use Rattle.std.proofs.Common.{◌≡◌, ◌∷◌, [], ◌++◌, true, false, refl, ◌∙◌, ap}
use Rattle.ug_board.specs.declared.steps.BoardStep.TheVariants.{Job as DoJob}
use Rattle.ug_board.specs.declared.steps.BoardSaid.TheVariants.{Job as JobSaid}
use Rattle.ug_board.specs.History.{state_of, job_entry}
use Rattle.ug_board.proofs.Histories.{IsLegal-grown, IsInStep-job}
use Rattle.ug_board.proofs.board.Board.job.Goals as goal

pub returns-clause-legal : goal.returns-clause-legal
returns-clause-legal g c =
    let unspent : c.self.inside.spent ≡ false = ap (λ v. v.spent) c.self.view_is ∙ c.requires.unspent in
    let in_step = c.self.invariant.1 unspent in
    let stands = in_step.stands ∙ ap (λ v. state_of g.M.Machine.rules v) c.self.view_is in
    let state = g.M.Machine.state c.self.inside.machine.value in
    let may : g.M.Machine.rules.legal c.args.job state ≡ true = ap (λ s. g.M.Machine.rules.legal c.args.job s) stands ∙ c.requires.legal in
    let entry = job_entry g.M.Machine.rules c.args.pass c.args.job state in
    let told = c.in_ok-kept.ensures ∙ c.in_ok-said.ensures.said in
    let front = c.make_room.new.history.items in
    let items : c.add_job.new.self.items ≡ c.self.inside.history.items ++ entry ∷ [] =
    c.add_job.ensures.items
    ∙ (ap (λ d. front ++ record { pass = c.args.pass; step = DoJob d.job; said = JobSaid d.said } ∷ []) c.in_ok-done.ensures
    ∙ (ap (λ r. front ++ record { pass = c.args.pass; step = DoJob c.args.job; said = JobSaid r } ∷ []) told
    ∙ ap (λ h. h ++ entry ∷ []) c.make_room.ensures.items)) in
    IsLegal-grown g.M.Machine.rules _ _ _ _ entry state c.job_behind.ensures.opening in_step.stands c.self.invariant.0 (may, refl) items

pub invariant_of-self-2 : goal.invariant_of-self-2
invariant_of-self-2 g c =
    let unspent : c.self.inside.spent ≡ false = ap (λ v. v.spent) c.self.view_is ∙ c.requires.unspent in
    let in_step = c.self.invariant.1 unspent in
    let state = g.M.Machine.state c.self.inside.machine.value in
    let entry = job_entry g.M.Machine.rules c.args.pass c.args.job state in
    let told = c.in_ok-kept.ensures ∙ c.in_ok-said.ensures.said in
    let front = c.make_room.new.history.items in
    let items : c.add_job.new.self.items ≡ c.self.inside.history.items ++ entry ∷ [] =
    c.add_job.ensures.items
    ∙ (ap (λ d. front ++ record { pass = c.args.pass; step = DoJob d.job; said = JobSaid d.said } ∷ []) c.in_ok-done.ensures
    ∙ (ap (λ r. front ++ record { pass = c.args.pass; step = DoJob c.args.job; said = JobSaid r } ∷ []) told
    ∙ ap (λ h. h ++ entry ∷ []) c.make_room.ensures.items)) in (
      returns-clause-legal g c,
      λ same. IsInStep-job g.M.Machine.rules _ _ _ _ entry _ _ c.room_for_lanes-due.result _ _ _ _ c.args.job
          c.job_behind.ensures.opening in_step.stands in_step.counted refl c.in_ok-said.ensures.state items
          c.in_ok-make_room.ensures.room c.add_job.ensures.spare c.room_for_lanes-due.ensures c.in_ok-said.ensures.jobs,
      λ same. absurd cc,
    )
