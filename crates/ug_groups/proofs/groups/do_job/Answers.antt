use Rattle.std.proofs.Common.{◌≡◌, ◌≤◌, ◌+◌, sym, ap, subst, ◌∙◌}
use Rattle.std.specs.Prelude.{IfOk}
use Rattle.ug_events.specs.declared.event.Event.{Event}
use Rattle.ug_events.specs.Views.{event_of}
use Rattle.ug_group_rules.specs.Machine as machine
use Rattle.ug_group_rules.specs.Machine.{Job, job_reply}
use Rattle.ug_group_rules.specs.Rules.{evaluations_of}
use Rattle.ug_groups.specs.Jobs.{job_of}
use Rattle.ug_groups.proofs.groups.do_job.Goals as goal

pub returns-in-Take-clause-said : goal.returns-in-Take-clause-said
returns-in-Take-clause-said g c =
    let job : machine.Take (event_of c.deref.result.now) ≡ c.args.job.now = ap (λ (e : Event). machine.Take (event_of e)) c.deref.ensures ∙ ap job_of (sym c.in-Take.is) ∙ c.job.view_is in
    subst (λ (j : Job). IfOk c.take.result (λ said. said ≡ job_reply j c.args.state.now)) job c.take.ensures.said

pub returns-in-Take-clause-most : goal.returns-in-Take-clause-most
returns-in-Take-clause-most g c =
    let job : machine.Take (event_of c.deref.result.now) ≡ c.args.job.now = ap (λ (e : Event). machine.Take (event_of e)) c.deref.ensures ∙ ap job_of (sym c.in-Take.is) ∙ c.job.view_is in
    subst (λ (j : Job). c.take.new.steps ≤ c.args.steps.now + evaluations_of j c.args.state.now) job c.take.ensures.most
