use Rattle.ug_cases.proofs.Shipped.{machine_sends}
use Rattle.ug_cases.proofs.stage.Stage.lane.Goals as goal

pub lane-requires-send-M : goal.lane-requires-send-M
lane-requires-send-M c κs = machine_sends _
