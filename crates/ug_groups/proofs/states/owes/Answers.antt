use Rattle.std.specs.Prelude.{[]}
use Rattle.ug_groups.proofs.states.owes.Goals as goal

pub returns : goal.returns
returns c = c.owes.ensures (record { slots = [] })
