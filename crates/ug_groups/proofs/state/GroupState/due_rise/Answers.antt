use Rattle.std.proofs.Common.{◌≡◌, ◌≤◌, ◌+◌, ℕ, sym, ap, subst, ◌∙◌}
use Rattle.std.specs.Prelude.{IfSome}
use Rattle.ug_events.specs.declared.event.Event.{Event}
use Rattle.ug_events.specs.Views.{event_of}
use Rattle.ug_group_rules.specs.Machine as machine
use Rattle.ug_group_rules.specs.Machine.{Job, after_job}
use Rattle.ug_group_rules.specs.Rules.{group_rules}
use Rattle.ug_groups.specs.Jobs.{job_of}
use Rattle.ug_groups.proofs.state.GroupState.due_rise.Goals as goal

pub returns-in-Take : goal.returns-in-Take
returns-in-Take c =
    let job : machine.Take (event_of c.deref.result.now) ≡ c.args.job.now = ap (λ (e : Event). machine.Take (event_of e)) c.deref.ensures ∙ ap job_of (sym c.in-Take.is) ∙ c.job.view_is in
    subst (λ (j : Job). IfSome c.rise_by_event.result (λ (rise : ℕ). group_rules.due (after_job j c.args.self.now) ≤ group_rules.due c.args.self.now + rise)) job c.rise_by_event.ensures
