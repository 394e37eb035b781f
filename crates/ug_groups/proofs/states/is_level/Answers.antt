use Rattle.std.specs.Prelude.{[]}
use Rattle.ug_groups.proofs.states.is_level.Goals as goal

pub returns : goal.returns
returns c = c.is_level.ensures (record { slots = [] })
