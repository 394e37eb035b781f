use Rattle.std.proofs.Common.{◌≡◌, drop}
use Rattle.std.specs.List.{list_all}
use Rattle.ug_world.specs.Parts.{names_of, is_peer_good}
use Rattle.ug_world.proofs.good.are_peers_good.Given as goal

-- those that are left decide
abbrev pub invariant-loop-peer : goal.invariant-loop-peer
invariant-loop-peer l = list_all (is_peer_good (names_of l.policies)) (drop l.peer-index l.peers) ≡ list_all (is_peer_good (names_of l.policies)) l.peers
