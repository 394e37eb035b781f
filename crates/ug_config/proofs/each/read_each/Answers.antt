use Rattle.std.proofs.Common.{arith}
use Rattle.std.proofs.lemmas.Grind.{common_steps}
use Rattle.ug_config.proofs.Reading.{table_more, table_refused, behind_nothing}
use Rattle.ug_config.proofs.each.read_each.Goals as goal

pub loop-table-init : goal.loop-table-init
loop-table-init g c = grind (arith, behind_nothing)

pub returns-in_err-one : goal.returns-in_err-one
returns-in_err-one g c = grind (arith, common_steps, table_refused)

pub loop-table-preserved : goal.loop-table-preserved
loop-table-preserved g c = grind (arith, common_steps, table_more)
