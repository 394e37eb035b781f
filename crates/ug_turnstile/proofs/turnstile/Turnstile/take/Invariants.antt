use Rattle.std.proofs.Common.{◌≡◌}
use Rattle.ug_turnstile.proofs.turnstile.Turnstile.take.Given as goal

-- a try that loses changes nothing
abbrev pub invariant-loop : goal.invariant-loop
invariant-loop g l = (goal.iterator-loop g).can_next l.iterator' × (goal.iterator-loop g).is_finite l.iterator' × (l.pass ≡ l.fn.pass)
