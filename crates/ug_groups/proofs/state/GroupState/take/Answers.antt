use Rattle.std.proofs.Common.{◌≤◌, ◌+◌, false, refl, ap, subst, ◌∙◌}
use Rattle.ug_events.specs.Views.{event_of}
use Rattle.ug_group_rules.specs.Machine.{System, take_event}
use Rattle.ug_group_rules.specs.Evaluations.{evaluations}
use Rattle.ug_groups.proofs.StateJobs.{same-kept, same-view, take-open, spent-after}
use Rattle.ug_groups.proofs.state.GroupState.take.Goals as goal

pub take_event-requires-clause-kept : goal.take_event-requires-clause-kept
take_event-requires-clause-kept g c =
    let i = c.self.inside in
    let open_ = take-open i.world i.closed i.made i.subgroups i.members.items c.args.self.now c.self.view_is (event_of c.args.event.now) c.requires.legal in
    (false, i.made, refl, same-kept i.world i.closed i.made i.subgroups c.replace-subgroups.result i.members.items c.replace-members.result.items c.self.invariant open_ c.replace-subgroups.ensures.value (ap (λ v. v.items) c.replace-members.ensures.value))

pub invariant_of-self : goal.invariant_of-self
invariant_of-self g c =
    let i = c.self.inside in
    spent-after i.world c.take_event.new.world i.closed i.made i.subgroups c.replace-subgroups.new.dest i.members.items c.replace-members.new.dest.items (event_of c.args.event.now) c.self.invariant c.requires.form
    c.sendable_laws.ensures.kept c.in_err-take_event.ensures.err (c.replace-subgroups.ensures.after ∙ c.new.ensures) (ap (λ v. v.items) c.replace-members.ensures.after ∙ c.new-2.ensures.items)

pub returns-in_err-take_event-clause-most : goal.returns-in_err-take_event-clause-most
returns-in_err-take_event-clause-most g c =
    let i = c.self.inside in
    let e = event_of c.args.event.now in
    let open_ = take-open i.world i.closed i.made i.subgroups i.members.items c.args.self.now c.self.view_is e c.requires.legal in
    subst (λ (s : System). c.take_event.new.steps ≤ c.args.steps.now + evaluations e s)
    (same-view i.world i.closed i.made i.subgroups c.replace-subgroups.result i.members.items c.replace-members.result.items c.args.self.now c.self.view_is open_ c.replace-subgroups.ensures.value (ap (λ v. v.items) c.replace-members.ensures.value))
    (c.take_event.ensures.most false i.made)

pub invariant_of-self-2 : goal.invariant_of-self-2
invariant_of-self-2 g c =
    let i = c.self.inside in
    let e = event_of c.args.event.now in
    let open_ = take-open i.world i.closed i.made i.subgroups i.members.items c.args.self.now c.self.view_is e c.requires.legal in
    c.in_ok-take_event.ensures.kept false i.made
    (same-kept i.world i.closed i.made i.subgroups c.replace-subgroups.result i.members.items c.replace-members.result.items c.self.invariant open_ c.replace-subgroups.ensures.value (ap (λ v. v.items) c.replace-members.ensures.value))

pub returns-clause-state : goal.returns-clause-state
returns-clause-state g c =
    let i = c.self.inside in
    let e = event_of c.args.event.now in
    let open_ = take-open i.world i.closed i.made i.subgroups i.members.items c.args.self.now c.self.view_is e c.requires.legal in
    c.in_ok-take_event.ensures.state false i.made
    ∙ ap (take_event e)
    (same-view i.world i.closed i.made i.subgroups c.replace-subgroups.result i.members.items c.replace-members.result.items c.args.self.now c.self.view_is open_ c.replace-subgroups.ensures.value (ap (λ v. v.items) c.replace-members.ensures.value))

pub returns-clause-steps : goal.returns-clause-steps
returns-clause-steps g c =
    let i = c.self.inside in
    let e = event_of c.args.event.now in
    let open_ = take-open i.world i.closed i.made i.subgroups i.members.items c.args.self.now c.self.view_is e c.requires.legal in
    c.in_ok-take_event.ensures.steps false i.made
    ∙ ap (λ (s : System). c.args.steps.now + evaluations e s)
    (same-view i.world i.closed i.made i.subgroups c.replace-subgroups.result i.members.items c.replace-members.result.items c.args.self.now c.self.view_is open_ c.replace-subgroups.ensures.value (ap (λ v. v.items) c.replace-members.ensures.value))

pub returns-clause-most : goal.returns-clause-most
returns-clause-most g c =
    let i = c.self.inside in
    let e = event_of c.args.event.now in
    let open_ = take-open i.world i.closed i.made i.subgroups i.members.items c.args.self.now c.self.view_is e c.requires.legal in
    subst (λ (s : System). c.take_event.new.steps ≤ c.args.steps.now + evaluations e s)
    (same-view i.world i.closed i.made i.subgroups c.replace-subgroups.result i.members.items c.replace-members.result.items c.args.self.now c.self.view_is open_ c.replace-subgroups.ensures.value (ap (λ v. v.items) c.replace-members.ensures.value))
    (c.take_event.ensures.most false i.made)
