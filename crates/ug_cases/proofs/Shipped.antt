-- The shipped machine may go to any thread, also where it is given as the machine of a board or a speaker.
use mir.Syntax.{Ty}
use denote.Exit.{no}
use denote.Param.{arg, param}
use denote.Param.Send.{IsSend, arg_send, param_send}
use Rattle.ug_groups.specs.contracts.groups.Groups as Groups
use Rattle.ug_groups.proofs.Crosses.{groups_send}

pub machine_sends : (δ : Ty) → IsSend (param 0 (arg δ no Groups.the_row))
machine_sends δ = param_send 0 _ (arg_send δ no _ groups_send)
