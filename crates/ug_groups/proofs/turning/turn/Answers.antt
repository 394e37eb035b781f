use Rattle.std.proofs.Common.{sym, ap, subst}
use Rattle.ug_events.specs.declared.event.Event.{Event}
use Rattle.ug_events.specs.Views.{event_of}
use Rattle.ug_world.specs.World.{key_in}
use Rattle.ug_groups.specs.Turns.{turn_at, IsTurned}
use Rattle.ug_groups.proofs.turning.turn.Goals as goal

pub start-requires-clause-free : goal.start-requires-clause-free
start-requires-clause-free g c = c.requires.free c.in-Up.peer (ap event_of c.in-Up.is)

pub returns-in-Down-clause-turned : goal.returns-in-Down-clause-turned
returns-in-Down-clause-turned g c = λ s at.
    subst (λ (e : Event). IsTurned (turn_at (event_of e) c.args.peer (key_in c.args.world.now s) c.args.subgroups.now c.args.members.now) c.args.peer (key_in c.args.world.now s) c.args.world.now c.args.subgroups.now c.args.members.now c.depart.new.subgroups c.depart.new.members)
    (sym c.in-Down.is) (c.depart.ensures c.args.world.now (key_in c.args.world.now s) c.requires.kept)
