use Rattle.std.proofs.Common.{false, List, ap, ◌∙◌, arith}
use Rattle.ug_group_rules.specs.Machine as machine
use Rattle.ug_group_rules.specs.Machine.{System}
use Rattle.ug_groups.specs.declared.member.Member.{Member}
use Rattle.ug_groups.specs.Members.{system}
use Rattle.ug_groups.proofs.ListFacts.{put-back}
use Rattle.ug_groups.proofs.StateJobs.{same-kept, same-view, slow-open, slow-may}
use Rattle.ug_groups.proofs.state.GroupState.slow.Goals as goal

pub slow-requires-clause-kept : goal.slow-requires-clause-kept
slow-requires-clause-kept c =
    let i = c.self.inside in
    same-kept i.world i.closed i.made i.subgroups c.replace-subgroups.result i.members.items c.deref_mut.result.now c.self.invariant
    (slow-open i.world i.closed i.made i.subgroups i.members.items c.args.self.now c.self.view_is c.self.invariant c.replace-subgroups.result c.replace-subgroups.ensures.value c.know_rows.ensures c.args.sub c.requires)
    c.replace-subgroups.ensures.value (c.deref_mut.ensures.value ∙ ap (λ v. v.items) c.replace-members.ensures.value)

pub slow-requires-clause-may : goal.slow-requires-clause-may
slow-requires-clause-may c =
    let i = c.self.inside in
    slow-may i.world i.closed i.made i.subgroups i.members.items c.args.self.now c.self.view_is c.self.invariant c.replace-subgroups.result c.replace-subgroups.ensures.value c.know_rows.ensures c.args.sub c.requires

pub returns-clause-state : goal.returns-clause-state
returns-clause-state c =
    let i = c.self.inside in
    let len = c.deref_mut.ensures.len in
    let same = c.slow.auto.members in
    let open_ = slow-open i.world i.closed i.made i.subgroups i.members.items c.args.self.now c.self.view_is c.self.invariant c.replace-subgroups.result c.replace-subgroups.ensures.value c.know_rows.ensures c.args.sub c.requires in
    ap (λ (l : List Member). system i.world false i.made c.slow.new.subgroups l) (put-back c.replace-members.result.len c.replace-members.result.items c.slow.new.members (omega (arith, len, same)))
    ∙ c.in_ok-new.ensures.done.state
    ∙ ap (λ (s : System). machine.slow_of c.args.sub (machine.subgroup_at c.args.sub s) s)
    (same-view i.world i.closed i.made i.subgroups c.replace-subgroups.result i.members.items c.deref_mut.result.now c.args.self.now c.self.view_is open_ c.replace-subgroups.ensures.value (c.deref_mut.ensures.value ∙ ap (λ v. v.items) c.replace-members.ensures.value))
