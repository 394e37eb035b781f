use Rattle.ug_world.proofs.Keeping.{shared, down, fresh, others, kept, untouched}
use Rattle.ug_world.proofs.laws.world_laws.Goals as goal

pub returns-clause-shared : goal.returns-clause-shared
returns-clause-shared c = shared

pub returns-clause-down : goal.returns-clause-down
returns-clause-down c = down

pub returns-clause-fresh : goal.returns-clause-fresh
returns-clause-fresh c = fresh

pub returns-clause-others : goal.returns-clause-others
returns-clause-others c = others

pub returns-clause-kept : goal.returns-clause-kept
returns-clause-kept c = kept

pub returns-clause-untouched : goal.returns-clause-untouched
returns-clause-untouched c = untouched
