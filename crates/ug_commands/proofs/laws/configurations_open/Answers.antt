use Rattle.ug_commands.proofs.Opening.{config_opens}
use Rattle.ug_commands.proofs.laws.configurations_open.Goals as goal

pub returns : goal.returns
returns c = config_opens
