use denote.RattleType.{RattleType}
use denote.Param.Send.{IsSend}
use Rattle.ug_segchain.proofs.Crosses.{Cells-send}
use Rattle.ug_segchain.specs.contracts.places.Places.{the_row}

pub send : (R : RattleType) → IsSend R → IsSend (the_row R)
send = Cells-send
