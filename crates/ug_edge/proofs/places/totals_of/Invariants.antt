use Rattle.std.proofs.Common.{◌≡◌, ◌++◌, drop}
use Rattle.ug_edge.specs.SiteState.{peer_cuts, totals_to}
use Rattle.ug_edge.proofs.places.totals_of.Given as goal

abbrev pub invariant-loop-cut : goal.invariant-loop-cut
invariant-loop-cut l = l.totals.items ++ totals_to l.peer (peer_cuts (drop l.cut-index l.cuts.items)) ≡ totals_to l.peer (peer_cuts l.cuts.items)
