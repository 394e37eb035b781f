use Rattle.std.proofs.Common.{ap, ◌∙◌}
use Rattle.ug_group_rules.specs.Machine.{owes}
use Rattle.ug_groups.specs.Standings.{seen}
use Rattle.ug_groups.specs.Subgroups.{Grouped}
use Rattle.ug_groups.proofs.subgroup.Subgroup.owes.Goals as goal

pub returns : goal.returns
returns c pool = c.owes.ensures pool ∙ ap (λ (g : Grouped). owes (seen pool g.point)) c.self.view_is
