use Rattle.std.proofs.Common.{◌≡◌, map, take}
use Rattle.ug_world.specs.declared.peer_state.PeerState.{PeerState}
use Rattle.ug_run.proofs.wires.names_of.Given as goal

-- the names so far
abbrev pub invariant-loop-place : goal.invariant-loop-place
invariant-loop-place l = l.names.items ≡ map (λ (s : PeerState). s.peer.name) (take l.place l.world.peers)
