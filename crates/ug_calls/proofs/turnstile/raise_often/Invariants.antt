use Rattle.std.proofs.Common.{◌≡◌, false}
use Rattle.ug_turnstile.specs.Passes.{IsSamePass}
use Rattle.ug_calls.proofs.turnstile.raise_often.Given as goal

abbrev pub invariant-loop : goal.invariant-loop
invariant-loop g l = IsSamePass l.fn.pass l.pass × (l.pass.holds ≡ false)
