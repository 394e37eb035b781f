use Rattle.std.proofs.Common.{drop}
use Rattle.ug_check.specs.Waiting.{AreV4}
use Rattle.ug_check.proofs.waiting.are_v4.Given as goal

-- those that are left decide
abbrev pub invariant-loop-key : goal.invariant-loop-key
invariant-loop-key l = AreV4 (drop l.key-index l.keys) → AreV4 l.keys
