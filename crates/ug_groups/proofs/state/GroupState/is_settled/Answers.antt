use Rattle.std.proofs.Common.{sym, ap, ◌∙◌}
use Rattle.ug_group_rules.specs.Machine as machine
use Rattle.ug_group_rules.specs.Machine.{System}
use Rattle.ug_groups.proofs.SystemTests.{settled-is}
use Rattle.ug_groups.proofs.state.GroupState.is_settled.Goals as goal

pub returns : goal.returns
returns c =
    let i = c.self.inside in
    c.is_settled.ensures ∙ sym (settled-is i.world i.closed i.made i.subgroups i.members.items c.self.invariant c.know_rows.ensures) ∙ ap (λ (s : System). machine.is_settled s) c.self.view_is
