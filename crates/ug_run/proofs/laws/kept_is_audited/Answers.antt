use Rattle.ug_run.proofs.Kept.{kept-audited}
use Rattle.ug_run.proofs.laws.kept_is_audited.Goals as goal

pub returns : goal.returns
returns c = record { kept = λ w lines marks wires contents lost told first tell is are. kept-audited w lines marks wires contents lost told first tell is are }
