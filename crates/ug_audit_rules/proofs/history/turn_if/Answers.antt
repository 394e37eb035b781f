use Rattle.std.proofs.Common.{inl, refl, arith}
use Rattle.ug_events.specs.Views.{event_of}
use Rattle.ug_audit_rules.proofs.GroupNotes.{turned-at, none-at}
use Rattle.ug_audit_rules.proofs.history.turn_if.Goals as goal

pub returns-then-place-peers-clause-turned : goal.returns-then-place-peers-clause-turned
returns-then-place-peers-clause-turned g c = none-at c.args.world.now (event_of c.args.event.now) c.args.groups.now.items c.args.place c.args.seat.now (omega arith)

pub returns-then-place-peers-clause-groups : goal.returns-then-place-peers-clause-groups
returns-then-place-peers-clause-groups g c = inl refl

pub returns-clause-turned : goal.returns-clause-turned
returns-clause-turned g c = turned-at c.args.world.now (event_of c.args.event.now) c.turn.new.groups.items c.args.place c.args.seat.now c.turn.new.seat (omega arith) c.in_ok-turn.ensures.turned
