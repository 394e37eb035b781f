use Rattle.std.proofs.Common.{◌≡◌, ◌++◌, map}
use Rattle.ug_world.specs.Parts.{fresh}
use Rattle.ug_world.proofs.fresh.fresh_peers.Given as goal

-- those so far, and then those that are left
abbrev pub invariant-loop-peer : goal.invariant-loop-peer
invariant-loop-peer l = l.seats.items ++ map fresh l.peer-iterator.rest.items ≡ map fresh l.fn.peers.items
