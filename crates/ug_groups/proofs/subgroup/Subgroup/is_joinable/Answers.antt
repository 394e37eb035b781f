use Rattle.std.proofs.Common.{ap, ◌∙◌}
use Rattle.ug_group_rules.specs.Machine.{is_joinable}
use Rattle.ug_groups.specs.Standings.{seen}
use Rattle.ug_groups.specs.Subgroups.{Grouped}
use Rattle.ug_groups.proofs.subgroup.Subgroup.is_joinable.Goals as goal

pub returns : goal.returns
returns c pool = c.is_joinable.ensures pool ∙ ap (λ (g : Grouped). is_joinable c.args.key.now (seen pool g.point)) c.self.view_is
