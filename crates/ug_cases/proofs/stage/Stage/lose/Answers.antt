use Rattle.ug_cases.proofs.Shipped.{machine_sends}
use Rattle.ug_cases.proofs.stage.Stage.lose.Goals as goal

pub machine-requires-send-M : goal.machine-requires-send-M
machine-requires-send-M c κs = machine_sends _
