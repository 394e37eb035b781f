use Rattle.std.proofs.Common.{◌≡◌, take, drop}
use Rattle.ug_events.specs.Views.{event_of}
use Rattle.ug_audit_rules.specs.Histories.{AreTurned}
use Rattle.ug_audit_rules.proofs.history.turn_all.Given as goal

-- the peers so far were turned, and the others are as they were
abbrev pub invariant-loop-place : goal.invariant-loop-place
invariant-loop-place g l = record {
  turned : AreTurned l.world (event_of l.event) l.fn.groups.items l.groups.items (take l.place l.fn.seats) (take l.place l.seats);
  others : drop l.place l.seats ≡ drop l.place l.fn.seats;
}
