use Rattle.std.proofs.Common.{◌≡◌, take}
use Rattle.ug_world.proofs.copies.copy_peers.Given as goal

-- what was copied so far
abbrev pub invariant-loop-seat : goal.invariant-loop-seat
invariant-loop-seat l = l.copy.items ≡ take l.seat-index l.seats
