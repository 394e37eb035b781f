use Rattle.std.proofs.Common.{◌≡◌, drop}
use Rattle.ug_world.specs.World.{peer_named}
use Rattle.ug_world.proofs.peers.place_of.Given as goal

-- the peers that are left decide
abbrev pub invariant-loop-place : goal.invariant-loop-place
invariant-loop-place l = peer_named (drop l.place l.seats) l.name ≡ peer_named l.seats l.name
