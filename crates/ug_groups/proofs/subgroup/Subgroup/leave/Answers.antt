use Rattle.std.proofs.Common.{ap, ◌∙◌}
use Rattle.ug_queue.specs.Queues.{Queued, without_member, shed}
use Rattle.ug_group_rules.specs.Packets.{Packet}
use Rattle.ug_groups.specs.Packets.{Packed}
use Rattle.ug_groups.specs.Subgroups.{Grouped, said_queue}
use Rattle.ug_groups.proofs.SaidQueues.{shed_said}
use Rattle.ug_groups.proofs.subgroup.Subgroup.leave.Goals as goal

pub returns : goal.returns
returns c =
    let i = c.self.inside in
    ap (λ (q : Queued Packed). record { point = i.point; queue = said_queue q }) c.leave.ensures
    ∙ ap (λ (q : Queued Packet). record { point = i.point; queue = q }) (shed_said (without_member i.queue c.args.member))
    ∙ ap (λ (g : Grouped). record { point = g.point; queue = shed (without_member g.queue c.args.member) }) c.self.view_is
