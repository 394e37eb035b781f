use Rattle.std.proofs.Common.{sym, ap, ◌∙◌}
use Rattle.ug_groups.specs.Standings.{Standing, seen}
use Rattle.ug_groups.proofs.Formats.{asked_forced}
use Rattle.ug_groups.proofs.point.Point.refresh.Goals as goal

pub returns-clause-point : goal.returns-clause-point
returns-clause-point c =
    let k = c.args.self.now in
    ap (seen c.args.pool.now) c.in_ok-force.ensures.point
    ∙ asked_forced c.args.pool.now c.know_ids.ensures k k.key.family c.know_kept.ensures c.requires.counted (ap (λ (x : Standing). x.key.enhanced_refresh) (sym c.self.view_is) ∙ c.if-self.false)
