use Rattle.ug_events.specs.Views.{event_of}
use Rattle.ug_audit_rules.proofs.Replayed.{version-rises}
use Rattle.ug_audit_rules.proofs.history.History.note_line.Goals as goal

pub returns-clause-version : goal.returns-clause-version
returns-clause-version g c = version-rises c.args.world.now c.go_on.new.world (event_of c.in-Some.event) c.in_ok-go_on.ensures.world
