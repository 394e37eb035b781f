use Rattle.std.proofs.Common.{arith}
use Rattle.ug_events.specs.Views.{event_of}
use Rattle.ug_audit_rules.proofs.GroupNotes.{seats-on}
use Rattle.ug_audit_rules.proofs.history.turn_all.Goals as goal

pub loop-place-preserved : goal.loop-place-preserved
loop-place-preserved g c =
    let in_now = c.loop-place-test.true in
    let many = c.loop-place.auto.seats in
    let on = seats-on c.args.world.now (event_of c.args.event.now) c.args.groups.now.items c.loop-place.groups.items c.turn_if.new.groups.items c.args.seats.now c.loop-place.seats c.loop-place.place c.index-seats-place.result c.turn_if.new.seat
    (omega arith) (omega arith) c.loop-place.invariant.turned c.loop-place.invariant.others c.in_ok-turn_if.ensures.groups c.in_ok-turn_if.ensures.turned in
    record { turned = on.0; others = on.1 }
