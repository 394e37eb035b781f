use Rattle.std.proofs.Common.{◌≡◌, drop}
use Rattle.ug_policy.specs.Order.{repeats}
use Rattle.ug_world.specs.Verdicts.{given_id}
use Rattle.ug_world.proofs.judge.ids_repeat.Given as goal

-- the paths that are left decide
abbrev pub invariant-loop-i : goal.invariant-loop-i
invariant-loop-i l = repeats given_id (drop l.i l.given) ≡ repeats given_id l.given
