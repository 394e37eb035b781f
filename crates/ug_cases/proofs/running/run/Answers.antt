use Rattle.ug_cases.proofs.Shipped.{machine_sends}
use Rattle.ug_cases.proofs.running.run.Goals as goal

pub serve-done-requires-send-S : goal.serve-done-requires-send-S
serve-done-requires-send-S g c κs within = machine_sends _
