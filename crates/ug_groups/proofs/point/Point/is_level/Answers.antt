use Rattle.std.proofs.Common.{sym, ap, ◌∙◌}
use Rattle.ug_types.specs.Bytes.{is_empty}
use Rattle.ug_groups.specs.Standings.{Standing, seen}
use Rattle.ug_groups.proofs.Formats.{level_not, level_so}
use Rattle.ug_groups.proofs.point.Point.is_level.Goals as goal

pub returns-then-owes : goal.returns-then-owes
returns-then-owes c pool = level_not (seen pool c.args.self.now) (sym (c.owes.ensures pool) ∙ c.if-owes.true)

pub returns : goal.returns
returns c pool =
    c.is_unforced.ensures ∙ ap (λ (k : Standing). is_empty k.adj.forced) c.self.view_is ∙ level_so (seen pool c.args.self.now) (sym (c.owes.ensures pool) ∙ c.if-owes.false)
