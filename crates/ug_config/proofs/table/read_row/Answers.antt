use Rattle.std.proofs.Common.{arith}
use Rattle.std.proofs.lemmas.Grind.{common_steps}
use Rattle.ug_config.specs.Tables.{entry}
use Rattle.ug_config.proofs.table.read_row.Goals as goal

pub returns-in_err-given : goal.returns-in_err-given
unfolding entry
returns-in_err-given c = grind (arith, common_steps)

pub returns : goal.returns
unfolding entry
returns c = grind (arith, common_steps)
