use Rattle.ug_cases.proofs.Shipped.{machine_sends}
use Rattle.ug_cases.proofs.stage.board_of.Goals as goal

pub new-requires-send-M : goal.new-requires-send-M
new-requires-send-M c κs = machine_sends _
