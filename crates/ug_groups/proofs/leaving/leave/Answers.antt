use Rattle.std.proofs.Common.{sym}
use Rattle.ug_groups.proofs.Seats.{sits-sub}
use Rattle.ug_groups.proofs.leaving.leave.Goals as goal

pub part-requires : goal.part-requires
part-requires c = sits-sub c.args.subgroups.now c.args.members.now c.args.peer c.in-Some.sub (sym c.in-Some.ensures) c.requires
