use denote.Exit.{no}
use denote.Param.Send.{arg_send, param_send}
use Rattle.ug_groups.proofs.Crosses.{groups_send}
use Rattle.ug_main.proofs.run.Goals as goal

pub serve-requires-send-S : goal.serve-requires-send-S
serve-requires-send-S g c κs within = param_send 0 _ (arg_send _ no _ groups_send)
