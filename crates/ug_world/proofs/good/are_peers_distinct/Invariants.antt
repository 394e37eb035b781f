use Rattle.std.proofs.Common.{◌≡◌, drop}
use Rattle.ug_world.specs.Names.{are_distinct}
use Rattle.ug_world.specs.Parts.{peer_names}
use Rattle.ug_world.proofs.good.are_peers_distinct.Given as goal

-- those that are left decide
abbrev pub invariant-loop-i : goal.invariant-loop-i
invariant-loop-i l = are_distinct (peer_names (drop l.i l.peers)) ≡ are_distinct (peer_names l.peers)
