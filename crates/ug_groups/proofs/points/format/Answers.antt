use Rattle.std.proofs.Common.{arith, ◌^◌}
use Rattle.ug_groups.proofs.Accounts.{counted_in, room_in, room_less}
use Rattle.ug_groups.proofs.points.format.Goals as goal

pub format-requires-clause-counted : goal.format-requires-clause-counted
format-requires-clause-counted c = counted_in c.args.pool.now c.args.live.now c.args.g c.at_mut-entry.result.now c.requires.kept c.at_mut-entry.ensures.value

pub format-requires-clause-uses : goal.format-requires-clause-uses
format-requires-clause-uses c = room_less (2 ^ 64) (2 ^ 66) c.args.pool.now (omega arith) (room_in c.args.pool.now c.args.live.now c.requires.kept)
