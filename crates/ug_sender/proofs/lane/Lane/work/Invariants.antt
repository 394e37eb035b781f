use Rattle.std.proofs.Common.{◌≤◌}
use Rattle.ug_turnstile.specs.Passes.{StartsWith}
use Rattle.ug_sender.specs.Lanes.{IsSamePost}
use Rattle.ug_sender.proofs.lane.Lane.work.Given as goal

-- the lane is at its post, and has seen no less
abbrev pub invariant-loop : goal.invariant-loop
invariant-loop g l =
    (goal.iterator-loop g).can_next l.iterator' × (goal.iterator-loop g).is_finite l.iterator'
    × IsSamePost l.fn.self l.lane × StartsWith l.lane.pass.seen l.fn.self.pass.seen
    × (g.W.Wire.faults l.fn.self.wire ≤ g.W.Wire.faults l.lane.wire)
