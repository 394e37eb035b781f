use Rattle.std.proofs.Common.{sym}
use Rattle.ug_groups.proofs.Seats.{sits-sub}
use Rattle.ug_groups.proofs.quiet.left.Goals as goal

pub left-requires : goal.left-requires
left-requires c = sits-sub c.args.subgroups.now c.args.members.now c.args.peer c.in-Some.sub (sym c.in-Some.ensures) c.requires
