use Rattle.std.proofs.Common.{◌≡◌, take}
use Rattle.ug_world.specs.Parts.{peer_names}
use Rattle.ug_config.proofs.names.peer_names.Given as goal

-- the names so far
abbrev pub invariant-loop-peer : goal.invariant-loop-peer
invariant-loop-peer l = l.names.items ≡ peer_names (take l.peer-index l.peers)
