use Rattle.ug_cases.proofs.Shipped.{machine_sends}
use Rattle.ug_cases.proofs.stage.Stage.job.Goals as goal

pub is_spent-requires-send-M : goal.is_spent-requires-send-M
is_spent-requires-send-M g c κs = machine_sends _

pub machine-requires-send-M : goal.machine-requires-send-M
machine-requires-send-M g c κs = machine_sends _

pub job-requires-send-M : goal.job-requires-send-M
job-requires-send-M g c κs within = machine_sends _
