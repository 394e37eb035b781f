use Rattle.std.specs.Prelude.{List}
use Rattle.std.specs.List.{AllByRecursion}
use Rattle.std.proofs.Common.{sym, subst, ap, ◌∙◌}
use Rattle.ug_queue.specs.Queues.{Queued, with_members, AreNewcomers}
use Rattle.ug_group_rules.specs.Packets.{Packet}
use Rattle.ug_groups.specs.Packets.{Packed}
use Rattle.ug_groups.specs.Sent.{session_of, IsSent}
use Rattle.ug_groups.specs.Subgroups.{Grouped, said_queue}
use Rattle.ug_groups.proofs.SaidQueues.{with_said, newcomers_said, with_packets}
use Rattle.ug_groups.proofs.subgroup.Subgroup.join_all.Goals as goal

pub join_all_at_end-requires : goal.join_all_at_end-requires
join_all_at_end-requires c = newcomers_said c.self.inside.queue c.args.members.now (subst (λ (g : Grouped). AreNewcomers g.queue c.args.members.now) (sym c.self.view_is) c.requires)

pub invariant_of-self-2 : goal.invariant_of-self-2
invariant_of-self-2 c =
    let i = c.self.inside in let sent = IsSent (session_of i.point.key) in
    subst (λ (n : Queued Packed). AllByRecursion sent n.packets) (sym c.in_ok-join_all_at_end.ensures.ok)
    (subst (λ (ps : List Packed). AllByRecursion sent ps) (sym (with_packets i.queue c.args.members.now)) c.self.invariant)

pub returns-clause-ok : goal.returns-clause-ok
returns-clause-ok c =
    let i = c.self.inside in let ms = c.args.members.now in
    ap (λ (q : Queued Packed). record { point = i.point; queue = said_queue q }) c.in_ok-join_all_at_end.ensures.ok
    ∙ ap (λ (q : Queued Packet). record { point = i.point; queue = q }) (with_said i.queue ms)
    ∙ ap (λ (g : Grouped). record { point = g.point; queue = with_members g.queue ms }) c.self.view_is
