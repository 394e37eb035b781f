use Rattle.std.proofs.Common.{◌≡◌, ◌++◌, drop}
use Rattle.ug_run.specs.Losses.{losses_told}
use Rattle.ug_run.proofs.losses.losses_told.Given as goal

-- those so far, and then those of the entries that are left
abbrev pub invariant-loop-i : goal.invariant-loop-i
invariant-loop-i g l = l.losses.items ++ losses_told (drop l.i l.history.items) ≡ losses_told l.history.items
