use Rattle.ug_groups.proofs.Accounts.{counted_in}
use Rattle.ug_groups.proofs.comings.retire.Goals as goal

pub retire-requires : goal.retire-requires
retire-requires c = record { counted = counted_in c.args.pool.now c.args.live.now c.args.g c.remove-subgroup.result c.requires.kept c.remove-subgroup.ensures.value }
