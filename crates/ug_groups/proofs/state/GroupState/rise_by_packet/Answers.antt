use Rattle.std.proofs.Common.{refl}
use Rattle.ug_groups.specs.Rows.{row_at, may_format_row}
use Rattle.ug_groups.proofs.StateJobs.{format-may}
use Rattle.ug_groups.proofs.PacketDues.{packet-due, row-is-there}
use Rattle.ug_groups.proofs.state.GroupState.rise_by_packet.Goals as goal

pub member_count-requires : goal.member_count-requires
member_count-requires c =
    let i = c.self.inside in
    row-is-there may_format_row (row_at c.args.sub i.subgroups)
    (format-may i.world i.closed i.made i.subgroups i.members.items c.args.self.now c.self.view_is c.self.invariant i.subgroups refl c.know_rows.ensures c.args.sub c.requires)

pub returns : goal.returns
returns c =
    let i = c.self.inside in
    packet-due i.world i.closed i.made i.subgroups i.members.items c.args.self.now c.self.view_is c.self.invariant c.args.sub c.member_count.result c.member_count.ensures
