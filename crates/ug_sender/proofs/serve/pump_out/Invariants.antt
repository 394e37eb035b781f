use Rattle.std.proofs.Common.{◌≡◌, ◌<◌, length, true, false}
use Rattle.ug_turnstile.specs.Passes.{StartsWith}
use Rattle.ug_sender.specs.Lanes.{IsSamePost, pass_deeds}
use Rattle.ug_sender.proofs.serve.pump_out.Given as goal

-- the lane is at its post, was handed nothing where nothing was done, and more than at first where something was
abbrev pub invariant-loop : goal.invariant-loop
invariant-loop g l =
    (goal.iterator-loop g).can_next l.iterator' × (goal.iterator-loop g).is_finite l.iterator'
    × IsSamePost l.fn.lane l.lane × (l.has_done ≡ false → pass_deeds g.M.Machine.rules l.lane.pass ≡ pass_deeds g.M.Machine.rules l.fn.lane.pass)
    × StartsWith (pass_deeds g.M.Machine.rules l.lane.pass) (pass_deeds g.M.Machine.rules l.fn.lane.pass)
    × (l.has_done ≡ true → length (pass_deeds g.M.Machine.rules l.fn.lane.pass) < length (pass_deeds g.M.Machine.rules l.lane.pass))
