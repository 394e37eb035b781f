use Rattle.std.proofs.Common.{◌≡◌, ◌+◌, ◌≤◌, List, length, sym, ap, subst, ◌∙◌}
use Rattle.std.proofs.lemmas.Result.{on_ok_weaker}
use Rattle.ug_events.specs.Views.{event_of}
use Rattle.ug_group_rules.specs.Machine.{take_event}
use Rattle.ug_group_rules.specs.Evaluations.{evaluations}
use Rattle.ug_groups.specs.declared.member.Member.{Member}
use Rattle.ug_groups.specs.Members.{system}
use Rattle.ug_groups.specs.Kept.{IsKept}
use Rattle.ug_groups.proofs.TakeNames.{named-there}
use Rattle.ug_groups.proofs.TakeDone.{whole-again}
use Rattle.ug_groups.proofs.taking.take_event.Goals as goal

pub returns-in_default-clause-state : goal.returns-in_default-clause-state
returns-in_default-clause-state g c =
    on_ok_weaker c.take_routes.result
    (λ h closed made. subst (λ (l : List Member). system c.take_routes.new.world closed made c.take_routes.new.subgroups l ≡ take_event (event_of c.args.event.now) (system c.args.world.now closed made c.args.subgroups.now l)) c.deref.ensures.value (h closed made))
    c.take_routes.ensures.state

pub returns-in_default-clause-kept : goal.returns-in_default-clause-kept
returns-in_default-clause-kept g c =
    on_ok_weaker c.take_routes.result
    (λ h closed made. subst (λ (l : List Member). IsKept c.args.world.now closed made c.args.subgroups.now l → IsKept c.take_routes.new.world closed made c.take_routes.new.subgroups l) c.deref.ensures.value (h closed made))
    c.take_routes.ensures.kept

pub returns-in_default-clause-steps : goal.returns-in_default-clause-steps
returns-in_default-clause-steps g c =
    on_ok_weaker c.take_routes.result
    (λ h closed made. subst (λ (l : List Member). c.take_routes.new.steps ≡ c.args.steps.now + evaluations (event_of c.args.event.now) (system c.args.world.now closed made c.args.subgroups.now l)) c.deref.ensures.value (h closed made))
    c.take_routes.ensures.steps

pub returns-in_default-clause-most : goal.returns-in_default-clause-most
returns-in_default-clause-most g c = λ closed made.
    subst (λ (l : List Member). c.take_routes.new.steps ≤ c.args.steps.now + evaluations (event_of c.args.event.now) (system c.args.world.now closed made c.args.subgroups.now l)) c.deref.ensures.value (c.take_routes.ensures.most closed made)

pub unreachable-requires : goal.unreachable-requires
unreachable-requires g c = named-there (event_of c.args.event.now) c.in-Some.name.now c.args.world.now (sym c.in-Some.ensures) c.requires.accepted c.in_default-peer_named.ensures

pub returns-clause-state : goal.returns-clause-state
returns-clause-state g c =
    on_ok_weaker c.take_turn.result
    (λ h closed made.
    let whole = whole-again c.args.members.now.len c.take_turn.new.members c.args.members.now.items (c.take_turn.auto.members ∙ ap (λ (l : List Member). length l) c.deref_mut.ensures.value) (sym c.args.members.now.ok.0) in
    ap (λ (l : List Member). system c.take_turn.new.world closed made c.take_turn.new.subgroups l) whole
    ∙ subst (λ (l : List Member). system c.take_turn.new.world closed made c.take_turn.new.subgroups c.take_turn.new.members ≡ take_event (event_of c.args.event.now) (system c.args.world.now closed made c.args.subgroups.now l)) c.deref_mut.ensures.value (h closed made))
    c.take_turn.ensures.state

pub returns-clause-kept : goal.returns-clause-kept
returns-clause-kept g c =
    on_ok_weaker c.take_turn.result
    (λ h closed made kept.
    let whole = whole-again c.args.members.now.len c.take_turn.new.members c.args.members.now.items (c.take_turn.auto.members ∙ ap (λ (l : List Member). length l) c.deref_mut.ensures.value) (sym c.args.members.now.ok.0) in
    subst (λ (l : List Member). IsKept c.take_turn.new.world closed made c.take_turn.new.subgroups l) (sym whole)
    (h closed made (subst (λ (l : List Member). IsKept c.args.world.now closed made c.args.subgroups.now l) (sym c.deref_mut.ensures.value) kept)))
    c.take_turn.ensures.kept

pub returns-clause-steps : goal.returns-clause-steps
returns-clause-steps g c =
    on_ok_weaker c.take_turn.result
    (λ h closed made. subst (λ (l : List Member). c.take_turn.new.steps ≡ c.args.steps.now + evaluations (event_of c.args.event.now) (system c.args.world.now closed made c.args.subgroups.now l)) c.deref_mut.ensures.value (h closed made))
    c.take_turn.ensures.steps

pub returns-clause-most : goal.returns-clause-most
returns-clause-most g c = λ closed made.
    subst (λ (l : List Member). c.take_turn.new.steps ≤ c.args.steps.now + evaluations (event_of c.args.event.now) (system c.args.world.now closed made c.args.subgroups.now l)) c.deref_mut.ensures.value (c.take_turn.ensures.most closed made)
