use Rattle.std.proofs.Common.{◌≡◌, length}
use Rattle.ug_run.proofs.lanes.buffers_for.Given as goal

-- the buffers so far
abbrev pub invariant-loop : goal.invariant-loop
invariant-loop l = length l.buffers.items ≡ l.counter
