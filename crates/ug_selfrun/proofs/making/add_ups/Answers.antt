use Rattle.std.proofs.Common.{refl, ap, arith}
use Rattle.ug_events.specs.Events.{ComesUp}
use Rattle.ug_events.specs.declared.event.Event.TheVariants.{Up}
use Rattle.ug_selfrun.proofs.Growing.{ups_step}
use Rattle.ug_selfrun.proofs.making.add_ups.Goals as goal

pub loop-i-preserved : goal.loop-i-preserved
loop-i-preserved c =
    ups_step c.args.peers c.loop-i.i c.loop-i.events.items c.push.new.self.items (Up c.in_ok-peer_name.field-0) _ (omega arith) c.in_ok-push.ensures.items
    (ap ComesUp c.in_ok-peer_name.ensures) c.loop-i.invariant
