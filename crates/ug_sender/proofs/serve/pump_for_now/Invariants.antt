use Rattle.ug_sender.specs.Lanes.{IsSamePost}
use Rattle.ug_sender.proofs.serve.pump_for_now.Given as goal

-- the lane is at its post
abbrev pub invariant-loop : goal.invariant-loop
invariant-loop g l =
    (goal.iterator-loop g).can_next l.iterator' × (goal.iterator-loop g).is_finite l.iterator'
    × IsSamePost l.fn.lane l.lane
