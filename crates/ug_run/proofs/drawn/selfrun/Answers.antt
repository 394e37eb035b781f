use Rattle.std.proofs.Common.{refl}
use Rattle.ug_run.specs.Drawn.{drawn_world, drawn_events}
use Rattle.ug_run.proofs.Drawing.{came_back, stopped_as, counted_as, held_as, summed_as, summed_fault, summed_usage, summed_unread, summed_unwired}
use Rattle.ug_run.proofs.drawn.selfrun.Goals as goal

pub end_drawn-requires : goal.end_drawn-requires
end_drawn-requires g c = λ is.
    let speaker = g.met.S.Speaker g.world.𝓛 g.world.𝓜 g.world.𝓡 ((λ s x. x), (λ x. x), (λ x. x), λ x. x) in
    let back = came_back g.S.Machine.rules g.S.Speaker.speech speaker.speaks drawn_world c.in-Ok.drawn.world c.in-Ok.drawn.events.items (drawn_events c.args.number) _ c.run_over-done.result.wires.items
    c.run_over-done.ensures.promised refl c.in-Ok.ensures.world c.in-Ok.ensures.events c.in-Ok.ensures.site is in
    held_as c.in-Ok.drawn.last.world _ c.as_slice.result.now c.run_over-done.result.wires.items c.in-Ok.ensures.last c.as_slice.ensures back.0

pub returns-clause-drawn : goal.returns-clause-drawn
returns-clause-drawn g c = record {
  summed = summed_as c.args.number _ _ _ _ _ _ c.end_drawn.result _ _ _ c.in-Ok.ensures.last c.in-Ok.ensures.accepted c.in-Ok.ensures.refused c.end_drawn.ensures.summed;
  ran = λ enough.
      let speaker = g.met.S.Speaker g.world.𝓛 g.world.𝓜 g.world.𝓡 ((λ s x. x), (λ x. x), (λ x. x), λ x. x) in
      let back = came_back g.S.Machine.rules g.S.Speaker.speech speaker.speaks drawn_world c.in-Ok.drawn.world c.in-Ok.drawn.events.items (drawn_events c.args.number) _ c.run_over-done.result.wires.items
      c.run_over-done.ensures.promised refl c.in-Ok.ensures.world c.in-Ok.ensures.events c.in-Ok.ensures.site (c.end_drawn.ensures.ran enough) in
      back.1;
  stopped = stopped_as g.S.Machine.rules g.S.Speaker.speech drawn_world c.in-Ok.drawn.world _ _ _ _ c.in-Ok.ensures.world c.run_over-done.ensures.promised;
}

pub returns-clause-counted : goal.returns-clause-counted
returns-clause-counted g c =
    counted_as g.S.Machine.rules g.S.Speaker.speech drawn_world c.in-Ok.drawn.world c.run_over-done.result.status c.end_drawn.result c.run_over-done.result.history.items _ _
    c.in-Ok.ensures.world c.end_drawn.ensures.ran c.run_over-done.ensures.counted

pub returns-clause-report : goal.returns-clause-report
returns-clause-report g c = λ is. summed_fault c.args.number _ _ _ c.end_drawn.result _ _ _ is c.end_drawn.ensures.summed

pub returns-clause-usage : goal.returns-clause-usage
returns-clause-usage g c = λ is. summed_usage c.args.number _ _ _ c.end_drawn.result _ _ _ is c.end_drawn.ensures.summed

pub returns-clause-unread : goal.returns-clause-unread
returns-clause-unread g c = λ is. summed_unread c.args.number _ _ _ c.end_drawn.result _ _ _ is c.end_drawn.ensures.summed

pub returns-clause-unwired : goal.returns-clause-unwired
returns-clause-unwired g c = λ is. summed_unwired c.args.number _ _ _ c.end_drawn.result _ _ _ is c.end_drawn.ensures.summed
