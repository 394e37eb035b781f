use Rattle.std.proofs.Common.{sym, ◌∙◌}
use Rattle.ug_groups.proofs.Found.{no_partner}
use Rattle.ug_groups.proofs.scans.has_any_partner.Goals as goal

pub returns-else-is_level : goal.returns-else-is_level
returns-else-is_level c = c.if-is_level.false ∙ no_partner c.args.e.now c.args.entries.now (sym c.is_level.ensures ∙ c.if-is_level.false)
