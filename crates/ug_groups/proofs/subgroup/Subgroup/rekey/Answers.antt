use Rattle.std.specs.List.{AllByRecursion}
use Rattle.std.proofs.Common.{sym, subst, ap, ◌∙◌}
use Rattle.ug_types.specs.declared.capabilities.Capabilities.{Capabilities}
use Rattle.ug_groups.specs.Sent.{session_of, IsSent}
use Rattle.ug_groups.specs.Standings.{Standing}
use Rattle.ug_groups.specs.Subgroups.{Grouped}
use Rattle.ug_groups.proofs.subgroup.Subgroup.rekey.Goals as goal

pub invariant_of-self : goal.invariant_of-self
invariant_of-self c =
    subst (λ (s : Capabilities). AllByRecursion (IsSent s) c.self.inside.queue.packets)
    (ap (λ (g : Grouped). session_of g.point.key) c.self.view_is ∙ sym c.requires ∙ ap (λ (k : Standing). session_of k.key) (sym c.rekey.ensures)) c.self.invariant
