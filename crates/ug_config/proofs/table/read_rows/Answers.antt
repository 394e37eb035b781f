use Rattle.std.proofs.Common.{arith}
use Rattle.std.proofs.lemmas.Grind.{common_steps}
use Rattle.ug_config.proofs.Reading.{read_more, refused_on, behind_nothing}
use Rattle.ug_config.proofs.table.read_rows.Goals as goal

pub loop-row-init : goal.loop-row-init
loop-row-init c = grind (arith, behind_nothing)

pub returns-in_err-field : goal.returns-in_err-field
returns-in_err-field c = grind (arith, common_steps, refused_on)

pub loop-row-preserved : goal.loop-row-preserved
loop-row-preserved c = grind (arith, common_steps, read_more)
