use denote.RattleType.{RattleType}
use denote.Param.Send.{IsSync}
use Rattle.ug_segchain.proofs.Crosses.{Cells-sync}
use Rattle.ug_segchain.specs.contracts.places.Places.{the_row}

pub sync : (R : RattleType) → IsSync R → IsSync (the_row R)
sync = Cells-sync
