use Rattle.std.proofs.Common.{ap, ◌∙◌}
use Rattle.ug_group_rules.specs.Machine.{is_pending}
use Rattle.ug_groups.specs.Standings.{seen}
use Rattle.ug_groups.specs.Subgroups.{Grouped}
use Rattle.ug_groups.proofs.subgroup.Subgroup.is_pending.Goals as goal

pub returns : goal.returns
returns c pool = c.is_pending.ensures pool ∙ ap (λ (g : Grouped). is_pending (seen pool g.point)) c.self.view_is
