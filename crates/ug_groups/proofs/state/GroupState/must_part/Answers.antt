use Rattle.std.proofs.Common.{sym, ap, ◌∙◌}
use Rattle.ug_group_rules.specs.Machine as machine
use Rattle.ug_group_rules.specs.Machine.{System}
use Rattle.ug_outbound.specs.declared.settings.Local.{Local}
use Rattle.ug_groups.specs.Rows.{row_at, any_at, must_part_row}
use Rattle.ug_groups.proofs.SystemTests.{must-part-is}
use Rattle.ug_groups.proofs.state.GroupState.must_part.Goals as goal

pub returns : goal.returns
returns c =
    let i = c.self.inside in
    c.must_part.ensures
    ∙ ap (λ (l : Local). any_at (must_part_row l.slow_after) (row_at c.args.sub i.subgroups)) c.local.ensures
    ∙ sym (must-part-is i.world i.closed i.made i.subgroups i.members.items c.self.invariant c.know_rows.ensures c.args.sub) ∙ ap (λ (s : System). machine.must_part s c.args.sub) c.self.view_is
