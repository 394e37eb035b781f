use Rattle.std.proofs.Common.{◌≡◌}
use Rattle.ug_run.proofs.Lost.{by_peers}
use Rattle.ug_run.proofs.losses.losses_of.Given as goal

-- the losses of the peers so far
abbrev pub invariant-loop-peer : goal.invariant-loop-peer
invariant-loop-peer g l = l.losses.items ≡ by_peers l.told.items 0 l.peer
