use Rattle.ug_board.proofs.Growth.{deeds_from-append, deeds_from-alike, deeds_from-others}
use Rattle.ug_board.proofs.laws.laws_of_growth.Goals as goal

pub returns-clause-append : goal.returns-clause-append
returns-clause-append g c = λ told chosen state old new. deeds_from-append g.M.Machine.rules told chosen state old new

pub returns-clause-alike : goal.returns-clause-alike
returns-clause-alike g c = λ told chosen others state entries same. deeds_from-alike g.M.Machine.rules told chosen others state entries same

pub returns-clause-others : goal.returns-clause-others
returns-clause-others g c = λ told chosen state entries none. deeds_from-others g.M.Machine.rules told chosen state entries none
