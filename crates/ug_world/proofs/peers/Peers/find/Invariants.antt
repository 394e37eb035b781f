use Rattle.std.proofs.Common.{◌≡◌, drop}
use Rattle.ug_world.specs.World.{peer_named}
use Rattle.ug_world.proofs.peers.Peers.find.Given as goal

-- the peers that are left decide
abbrev pub invariant-loop-seat : goal.invariant-loop-seat
invariant-loop-seat l = peer_named (drop l.seat-index l.self) l.name ≡ peer_named l.self l.name
