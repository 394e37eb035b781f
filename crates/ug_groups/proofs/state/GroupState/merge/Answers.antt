use Rattle.std.proofs.Common.{false, List, ap, ◌∙◌, arith}
use Rattle.ug_group_rules.specs.Machine as machine
use Rattle.ug_groups.specs.declared.member.Member.{Member}
use Rattle.ug_groups.specs.Members.{system}
use Rattle.ug_groups.proofs.ListFacts.{put-back}
use Rattle.ug_groups.proofs.StateJobs.{same-kept, same-view, merge-open, merge-other, merge-may}
use Rattle.ug_groups.proofs.state.GroupState.merge.Goals as goal

pub merge-requires-clause-kept : goal.merge-requires-clause-kept
merge-requires-clause-kept c =
    let i = c.self.inside in
    same-kept i.world i.closed i.made i.subgroups c.replace-subgroups.result i.members.items c.deref_mut.result.now c.self.invariant
    (merge-open i.world i.closed i.made i.subgroups i.members.items c.args.self.now c.self.view_is c.self.invariant c.replace-subgroups.result c.replace-subgroups.ensures.value c.know_rows.ensures c.args.sub c.args.other c.requires)
    c.replace-subgroups.ensures.value (c.deref_mut.ensures.value ∙ ap (λ v. v.items) c.replace-members.ensures.value)

pub merge-requires-clause-other : goal.merge-requires-clause-other
merge-requires-clause-other c =
    let i = c.self.inside in
    merge-other i.world i.closed i.made i.subgroups i.members.items c.args.self.now c.self.view_is c.self.invariant c.replace-subgroups.result c.replace-subgroups.ensures.value c.know_rows.ensures c.args.sub c.args.other c.requires

pub merge-requires-clause-may : goal.merge-requires-clause-may
merge-requires-clause-may c =
    let i = c.self.inside in
    merge-may i.world i.closed i.made i.subgroups i.members.items c.args.self.now c.self.view_is c.self.invariant c.replace-subgroups.result c.replace-subgroups.ensures.value c.know_rows.ensures c.args.sub c.args.other c.requires

pub returns : goal.returns
returns c =
    let i = c.self.inside in
    let len = c.deref_mut.ensures.len in
    let same = c.merge.auto.members in
    let open_ = merge-open i.world i.closed i.made i.subgroups i.members.items c.args.self.now c.self.view_is c.self.invariant c.replace-subgroups.result c.replace-subgroups.ensures.value c.know_rows.ensures c.args.sub c.args.other c.requires in
    ap (λ (l : List Member). system i.world false i.made c.merge.new.subgroups l) (put-back c.replace-members.result.len c.replace-members.result.items c.merge.new.members (omega (arith, len, same)))
    ∙ c.in_ok-merge.ensures.state
    ∙ ap (machine.merge c.args.sub c.args.other)
    (same-view i.world i.closed i.made i.subgroups c.replace-subgroups.result i.members.items c.deref_mut.result.now c.args.self.now c.self.view_is open_ c.replace-subgroups.ensures.value (c.deref_mut.ensures.value ∙ ap (λ v. v.items) c.replace-members.ensures.value))
