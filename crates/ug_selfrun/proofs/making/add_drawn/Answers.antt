use Rattle.std.proofs.Common.{◌∙◌, ◌≡◌, ap, subst, arith, length, ℕ}
use Rattle.ug_selfrun.specs.Workload.{event_drawn}
use Rattle.ug_selfrun.proofs.Growing.{drawn_step}
use Rattle.ug_selfrun.proofs.making.add_drawn.Goals as goal

pub loop-preserved : goal.loop-preserved
loop-preserved c = record {
  peers = c.draw_event.ensures.peers ∙ c.loop.invariant.peers;
  events = drawn_step (length c.args.drawing.up) c.args.count c.loop.counter c.loop.drawing c.loop.events.items c.push.new.self.items c.in_ok-event.event c.draw_event.new.self _ (omega arith)
      c.in_ok-push.ensures.items (c.in_ok-event.ensures.drawn ∙ ap (λ (n : ℕ). event_drawn n c.loop.drawing) c.loop.invariant.peers) c.loop.invariant.events;
}
