use Rattle.std.proofs.Common.{take}
use Rattle.ug_hearing.specs.Least.{IsLeastOf}
use Rattle.ug_hearing.proofs.key_order.least.Given as goal

abbrev pub invariant-loop-key : goal.invariant-loop-key
invariant-loop-key l = IsLeastOf (take l.key-index l.keys) l.least
