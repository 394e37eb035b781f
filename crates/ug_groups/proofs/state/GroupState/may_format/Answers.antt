use Rattle.std.proofs.Common.{sym, ap, ◌∙◌}
use Rattle.ug_group_rules.specs.Machine as machine
use Rattle.ug_group_rules.specs.Machine.{System}
use Rattle.ug_groups.proofs.SystemTests.{may-format-is}
use Rattle.ug_groups.proofs.state.GroupState.may_format.Goals as goal

pub returns : goal.returns
returns c =
    let i = c.self.inside in
    c.may_format.ensures ∙ sym (may-format-is i.world i.closed i.made i.subgroups i.members.items c.self.invariant c.know_rows.ensures c.args.sub) ∙ ap (λ (s : System). machine.may_format s c.args.sub) c.self.view_is
