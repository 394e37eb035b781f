use Rattle.std.proofs.Common.{◌≡◌, ◌++◌, drop}
use Rattle.ug_pack.proofs.routes.widened.Given as goal

abbrev pub invariant-loop-key : goal.invariant-loop-key
invariant-loop-key l = l.wide.items ++ drop l.key-index l.keys ≡ l.keys
