use Rattle.ug_hearing.proofs.Unnamed.{unnamed-stays}
use Rattle.ug_hearing.proofs.session_laws.unnamed_keys_stay.Goals as goal

pub returns : goal.returns
returns c = record { stays = λ key tables messages unnamed. unnamed-stays key tables messages unnamed }
