use Rattle.std.proofs.Common.{length}
use Rattle.ug_groups.proofs.slowing.+seat_all.Given as goal

abbrev pub decreases-seat_all : goal.decreases-seat_all
decreases-seat_all l = length l.listed.now
