use Rattle.ug_message.proofs.ShortValues.{short_values, short_within_limits}
use Rattle.ug_message.proofs.laws.values_are_short.Goals as goal

pub returns-clause-fitting : goal.returns-clause-fitting
returns-clause-fitting c = short_values

pub returns-clause-within_limits : goal.returns-clause-within_limits
returns-clause-within_limits c = short_within_limits
