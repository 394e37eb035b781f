use Rattle.std.specs.Prelude.{List}
use Rattle.std.specs.List.{AllByRecursion}
use Rattle.std.proofs.Common.{sym, subst, ap, ◌∙◌}
use Rattle.ug_queue.specs.Queues.{Queued, passed, shed, without_members, AreMembers}
use Rattle.ug_group_rules.specs.Packets.{Packet}
use Rattle.ug_groups.specs.Packets.{Packed}
use Rattle.ug_groups.specs.Sent.{session_of, IsSent}
use Rattle.ug_groups.specs.Subgroups.{Grouped, said_queue}
use Rattle.ug_groups.proofs.SaidQueues.{shed_said, without_said, members_said, without_packets, all_dropped}
use Rattle.ug_groups.proofs.subgroup.Subgroup.leave_all.Goals as goal

pub leave_all-requires : goal.leave_all-requires
leave_all-requires c = members_said c.self.inside.queue c.args.members.now (subst (λ (g : Grouped). AreMembers g.queue c.args.members.now) (sym c.self.view_is) c.requires)

pub invariant_of-self : goal.invariant_of-self
invariant_of-self c =
    let i = c.self.inside in let q = without_members i.queue c.args.members.now in let sent = IsSent (session_of i.point.key) in
    subst (λ (n : Queued Packed). AllByRecursion sent n.packets) (sym c.leave_all.ensures)
    (all_dropped sent (passed q) q.packets (subst (λ (ps : List Packed). AllByRecursion sent ps) (sym (without_packets i.queue c.args.members.now)) c.self.invariant))

pub returns : goal.returns
returns c =
    let i = c.self.inside in let ms = c.args.members.now in
    ap (λ (q : Queued Packed). record { point = i.point; queue = said_queue q }) c.leave_all.ensures
    ∙ ap (λ (q : Queued Packet). record { point = i.point; queue = q }) (shed_said (without_members i.queue ms) ∙ ap shed (without_said i.queue ms))
    ∙ ap (λ (g : Grouped). record { point = g.point; queue = shed (without_members g.queue ms) }) c.self.view_is
