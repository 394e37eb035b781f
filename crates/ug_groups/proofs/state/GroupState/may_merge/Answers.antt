use Rattle.std.proofs.Common.{sym, ap, ◌∙◌}
use Rattle.ug_group_rules.specs.Machine as machine
use Rattle.ug_group_rules.specs.Machine.{System}
use Rattle.ug_groups.proofs.SystemTests.{may-merge-is}
use Rattle.ug_groups.proofs.state.GroupState.may_merge.Goals as goal

pub returns : goal.returns
returns c =
    let i = c.self.inside in
    c.may_merge.ensures ∙ sym (may-merge-is i.world i.closed i.made i.subgroups i.members.items c.self.invariant c.know_rows.ensures c.args.sub c.args.other) ∙ ap (λ (s : System). machine.may_merge s c.args.sub c.args.other) c.self.view_is
