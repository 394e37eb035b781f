use Rattle.std.proofs.Common.{List, sym, ap, ◌∙◌}
use Rattle.ug_group_rules.specs.Machine as machine
use Rattle.ug_group_rules.specs.Machine.{System}
use Rattle.ug_groups.specs.declared.member.Member.{Member}
use Rattle.std.specs.Prelude.{◌&&◌, not}
use Rattle.ug_group_rules.specs.Machine.{owes, are_quiet}
use Rattle.ug_groups.specs.Rows.{must_part_row, some_row, some_merge}
use Rattle.ug_groups.specs.Members.{members_from}
use Rattle.ug_groups.proofs.SystemTests.{drained-is}
use Rattle.ug_groups.proofs.state.GroupState.is_drained.Goals as goal

pub returns : goal.returns
returns c =
    let i = c.self.inside in
    c.is_drained.ensures
    ∙ ap (λ (l : List Member). (not (some_merge i.subgroups) && not (some_row (must_part_row i.world.local.slow_after) i.subgroups)) && (not (some_row (λ r. owes r.sub) i.subgroups) && are_quiet i.world.peers (members_from i.subgroups 0 l))) c.deref.ensures.value
    ∙ sym (drained-is i.world i.closed i.made i.subgroups i.members.items c.self.invariant c.know_rows.ensures) ∙ ap (λ (s : System). machine.is_drained s) c.self.view_is
