use Rattle.std.proofs.Common.{◌≡◌, ◌∙◌, ap, false, List, None, sym, subst}
use Rattle.ug_types.specs.Listed.{Listed}
use Rattle.ug_events.specs.declared.event.Event.{Event}
use Rattle.ug_events.specs.Events.{GivenPath}
use Rattle.ug_events.specs.Views.{event_of}
use Rattle.ug_world.specs.Verdicts.{with_paths, is_overfull, verdict}
use Rattle.ug_world.proofs.Starting.{room}
use Rattle.ug_world.proofs.world.World.take.Goals as goal

pub set_paths-requires-clause-room : goal.set_paths-requires-clause-room
set_paths-requires-clause-room c =
    subst (λ (given : List GivenPath). is_overfull (with_paths c.args.self.now c.in-Paths.prefix given) ≡ false) (sym (c.as_slice.ensures ∙ ap (λ (l : Listed GivenPath). l.items) c.get.ensures))
    (room c.args.self.now c.in-Paths.prefix c.in-Paths.paths.items (subst (λ (e : Event). verdict c.args.self.now (event_of e) ≡ None) c.in-Paths.is c.requires.accepted))
