use Rattle.std.proofs.Common.{◌≡◌, ◌++◌, drop}
use Rattle.ug_run.specs.Losses.{losses_to}
use Rattle.ug_run.proofs.losses.add_losses.Given as goal

-- those so far, and then those that are left
abbrev pub invariant-loop-loss : goal.invariant-loop-loss
invariant-loop-loss l = l.losses.items ++ losses_to l.peer (drop l.loss-index l.told) ≡ l.fn.losses.items ++ losses_to l.peer l.told
