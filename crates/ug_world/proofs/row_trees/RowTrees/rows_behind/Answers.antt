use Rattle.ug_world.proofs.Families.{all_ordered}
use Rattle.ug_world.proofs.row_trees.RowTrees.rows_behind.Goals as goal

pub returns-clause-ordered : goal.returns-clause-ordered
returns-clause-ordered c = all_ordered c.self.inside.v4.entries c.self.inside.v6.entries c.args.self.now c.self.invariant c.self.view_is
