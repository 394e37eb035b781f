use Rattle.std.proofs.Common.{◌≡◌, drop}
use Rattle.ug_world.specs.Names.{is_name_among}
use Rattle.ug_world.specs.Parts.{peer_names}
use Rattle.ug_world.proofs.good.is_peer_among.Given as goal

-- those that are left decide
abbrev pub invariant-loop-peer : goal.invariant-loop-peer
invariant-loop-peer l = is_name_among (peer_names (drop l.peer-index l.peers)) l.name ≡ is_name_among (peer_names l.peers) l.name
