use Rattle.std.specs.Prelude.{map, List}
use Rattle.std.specs.List.{AllByRecursion}
use Rattle.std.proofs.Common.{sym, subst, ap, ◌∙◌}
use Rattle.ug_outbound.specs.declared.key.GroupKey.{GroupKey}
use Rattle.ug_queue.specs.Queues.{rest_of}
use Rattle.ug_groups.specs.Packets.{Packed, said}
use Rattle.ug_groups.specs.Sent.{session_of, IsSent}
use Rattle.ug_groups.specs.Standings.{Standing}
use Rattle.ug_groups.specs.Subgroups.{Grouped}
use Rattle.ug_groups.proofs.SaidQueues.{all_rest, rest_said}
use Rattle.ug_groups.proofs.subgroup.Subgroup.copy.Goals as goal

pub invariant_of-result : goal.invariant_of-result
invariant_of-result c =
    let i = c.self.inside in
    subst (λ (key : GroupKey). AllByRecursion (IsSent (session_of key)) c.in_ok-queue.queue.packets) (sym (ap (λ (k : Standing). k.key) c.in_ok-point.ensures.point))
    (subst (λ (ps : List Packed). AllByRecursion (IsSent (session_of i.point.key)) ps) (sym c.in_ok-queue.ensures.packets) (all_rest (IsSent (session_of i.point.key)) i.queue c.args.first c.self.invariant))

pub returns-clause-packets : goal.returns-clause-packets
returns-clause-packets c =
    let i = c.self.inside in
    ap (map said) c.in_ok-queue.ensures.packets ∙ sym (rest_said i.queue c.args.first) ∙ ap (λ (g : Grouped). rest_of g.queue c.args.first) c.self.view_is
