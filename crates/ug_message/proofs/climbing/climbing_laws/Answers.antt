use Rattle.ug_message.specs.ClimbingLaws.{NeverBack-from, Follows-from, NeverBack-longer, ClimbsTo-climbs, ClimbsFrom-places, ClimbsTo-longer, same_values, same_places}
use Rattle.ug_message.proofs.climbing.climbing_laws.Goals as goal

pub returns-clause-alike : goal.returns-clause-alike
returns-clause-alike c past tables = (NeverBack-from past tables, Follows-from past tables)

pub returns-clause-longer : goal.returns-clause-longer
returns-clause-longer c = NeverBack-longer

pub returns-clause-places : goal.returns-clause-places
returns-clause-places c past values = (ClimbsTo-climbs values past 0, λ told. ClimbsFrom-places values past 0 told.0 told.1)

pub returns-clause-kept : goal.returns-clause-kept
returns-clause-kept c past more places values = ClimbsTo-longer values past more 0 places

pub returns-clause-determined : goal.returns-clause-determined
returns-clause-determined c past values one other = same_values values past 0 one other

pub returns-clause-same : goal.returns-clause-same
returns-clause-same c past places one other = same_places one other past 0 places
