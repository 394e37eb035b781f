use Rattle.std.specs.Prelude.{[]}
use Rattle.ug_groups.proofs.states.is_joinable.Goals as goal

pub returns : goal.returns
returns c = c.is_joinable.ensures (record { slots = [] })
