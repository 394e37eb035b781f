use Rattle.ug_event_loop.proofs.Keeps.{closed-kept}
use Rattle.ug_event_loop.proofs.laws.promise_kept.Goals as goal

pub returns : goal.returns
returns g c = record {
  kept = λ opening lines told complete wires history closed.
      let machine = g.met.M.Machine g.world.𝓛 g.world.𝓜 g.world.𝓡 ((λ s x. x), (λ x. x), (λ x. x), λ x. x) in
      let speaker = g.met.M.Speaker g.world.𝓛 g.world.𝓜 g.world.𝓡 ((λ s x. x), (λ x. x), (λ x. x), λ x. x) in
      closed-kept g.M.Machine.rules g.M.Speaker.speech machine.lawful speaker.speaks opening lines told complete wires history closed;
}
