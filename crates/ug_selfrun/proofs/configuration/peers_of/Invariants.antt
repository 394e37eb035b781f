use Rattle.std.proofs.Common.{◌≡◌, ◌+◌, ◌-◌, ◌++◌}
use Rattle.ug_selfrun.specs.Configuration.{peers_from}
use Rattle.ug_selfrun.proofs.configuration.peers_of.Given as goal

-- what is there and what is still to come are all
abbrev pub invariant-loop-i : goal.invariant-loop-i
invariant-loop-i l = l.peers.items ++ peers_from (1 + l.i) (l.count - l.i) ≡ peers_from 1 l.count
