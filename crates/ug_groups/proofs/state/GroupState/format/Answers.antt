use Rattle.std.proofs.Common.{ap, ◌∙◌}
use Rattle.ug_groups.proofs.StateJobs.{same-kept, format-open, format-may}
use Rattle.ug_groups.proofs.state.GroupState.format.Goals as goal

pub format-requires-clause-kept : goal.format-requires-clause-kept
format-requires-clause-kept c =
    let i = c.self.inside in
    same-kept i.world i.closed i.made i.subgroups c.replace-subgroups.result i.members.items c.deref.result.now c.self.invariant
    (format-open i.world i.closed i.made i.subgroups i.members.items c.args.self.now c.self.view_is c.self.invariant c.replace-subgroups.result c.replace-subgroups.ensures.value c.know_rows.ensures c.args.sub c.requires)
    c.replace-subgroups.ensures.value (c.deref.ensures.value ∙ ap (λ v. v.items) c.replace-members.ensures.value)

pub format-requires-clause-may : goal.format-requires-clause-may
format-requires-clause-may c =
    let i = c.self.inside in
    format-may i.world i.closed i.made i.subgroups i.members.items c.args.self.now c.self.view_is c.self.invariant c.replace-subgroups.result c.replace-subgroups.ensures.value c.know_rows.ensures c.args.sub c.requires
