use Rattle.ug_group_rules.proofs.TouchedKeys.{event-touched}
use Rattle.ug_group_rules.proofs.by_key.event_law.Goals as goal

pub returns : goal.returns
returns g e w x kept = event-touched e w x kept
