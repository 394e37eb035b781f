use Rattle.std.specs.Prelude.{[]}
use Rattle.ug_groups.proofs.states.is_pending.Goals as goal

pub returns : goal.returns
returns c = c.is_pending.ensures (record { slots = [] })
