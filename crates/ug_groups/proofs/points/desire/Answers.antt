use Rattle.std.proofs.Common.{arith, ◌^◌}
use Rattle.ug_groups.proofs.Accounts.{counted_in, room_in, room_less}
use Rattle.ug_groups.proofs.Dones.{unchanged, on_err_of}
use Rattle.ug_groups.proofs.points.desire.Goals as goal

pub desire-requires-clause-counted : goal.desire-requires-clause-counted
desire-requires-clause-counted c = counted_in c.args.pool.now c.args.live.now c.args.g c.at_mut-entry.result.now c.requires.kept c.at_mut-entry.ensures.value

pub desire-requires-clause-room : goal.desire-requires-clause-room
desire-requires-clause-room c = room_less 1 (2 ^ 66) c.args.pool.now (omega arith) (room_in c.args.pool.now c.args.live.now c.requires.kept)

pub returns-in_err-desire-clause-err : goal.returns-in_err-desire-clause-err
returns-in_err-desire-clause-err c = on_err_of c.from_residual.result (unchanged c.args.live.now c.args.g c.at_mut-entry.result.now c.desire.new.self c.at_mut-entry.ensures.value c.in_err-desire.ensures.err)
