use Rattle.std.proofs.Common.{◌≡◌, ◌≤◌}
use Rattle.std.specs.Vec.{vec_len, vec_capacity}
use Rattle.ug_sender.proofs.dock.Docks.new.Given as goal

-- a dock for each number that was counted, and room for the others
abbrev pub invariant-loop : goal.invariant-loop
invariant-loop g l = (vec_len l.docks ≡ l.counter) × (l.counter ≤ l.fn.count) × (l.fn.count ≤ vec_capacity l.docks)
