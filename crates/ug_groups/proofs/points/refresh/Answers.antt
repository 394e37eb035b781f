use Rattle.ug_groups.proofs.Accounts.{counted_in}
use Rattle.ug_groups.proofs.points.refresh.Goals as goal

pub refresh-requires : goal.refresh-requires
refresh-requires c = record { counted = counted_in c.args.pool.now c.args.live.now c.args.g c.at_mut-entry.result.now c.requires.kept c.at_mut-entry.ensures.value }
