use Rattle.ug_message.proofs.RoutesAgain.{route_again}
use Rattle.ug_message.proofs.laws.route_again.Goals as goal

pub returns : goal.returns
returns c = route_again
