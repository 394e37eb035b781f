use Rattle.std.proofs.Common.{◌≡◌, ◌++◌, drop}
use Rattle.ug_edge.specs.SiteState.{peer_begins, begins_to}
use Rattle.ug_edge.proofs.places.begins_of.Given as goal

abbrev pub invariant-loop-fails : goal.invariant-loop-fails
invariant-loop-fails l = l.numbers.items ++ begins_to l.peer (peer_begins (drop l.fails-index l.begins.items)) ≡ begins_to l.peer (peer_begins l.begins.items)
