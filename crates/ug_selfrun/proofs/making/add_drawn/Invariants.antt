use Rattle.std.proofs.Common.{◌≡◌, ◌-◌, ◌++◌, map, length}
use Rattle.ug_events.specs.Views.{event_of}
use Rattle.ug_selfrun.specs.Workload.{events_from}
use Rattle.ug_selfrun.proofs.making.add_drawn.Given as goal

-- what is there and what is still to be drawn are all
abbrev pub invariant-loop : goal.invariant-loop
invariant-loop l = record {
  peers : length l.drawing.up ≡ length l.fn.drawing.up;
  events : map event_of l.events.items ++ events_from (length l.fn.drawing.up) (l.count - l.counter) l.drawing
      ≡ map event_of l.initial.events.items ++ events_from (length l.fn.drawing.up) l.count l.fn.drawing;
}
