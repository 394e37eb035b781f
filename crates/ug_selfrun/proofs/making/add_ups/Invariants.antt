use Rattle.std.proofs.Common.{◌≡◌, ◌+◌, ◌-◌, ◌++◌, map}
use Rattle.ug_events.specs.Views.{event_of}
use Rattle.ug_selfrun.specs.Workload.{ups_from}
use Rattle.ug_selfrun.proofs.making.add_ups.Given as goal

-- what is there and what is still to come are all
abbrev pub invariant-loop-i : goal.invariant-loop-i
invariant-loop-i l = map event_of l.events.items ++ ups_from (1 + l.i) (l.peers - l.i) ≡ map event_of l.initial.events.items ++ ups_from 1 l.peers
