use Rattle.ug_events.specs.Views.{event_of}
use Rattle.ug_groups.proofs.RowsEntered.{peer-rows, none-asked}
use Rattle.ug_groups.proofs.entering.enter_peer.Goals as goal

pub returns-clause-rows : goal.returns-clause-rows
returns-clause-rows c = peer-rows (event_of c.args.event.now) c.args.world.now c.requires.about

pub returns-clause-steps : goal.returns-clause-steps
returns-clause-steps c = none-asked (event_of c.args.event.now) c.args.world.now c.requires.about
