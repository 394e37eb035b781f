use Rattle.ug_groups.proofs.Formats.{exact_values}
use Rattle.ug_groups.proofs.point.Point.know_exact.Goals as goal

pub returns-clause-exact : goal.returns-clause-exact
returns-clause-exact c = let k = c.args.self.now in exact_values c.args.pool.now c.know_ids.ensures k k.key.family c.know_kept.ensures c.requires.counted
