use Rattle.ug_audit.proofs.Worlds.{ends_with}
use Rattle.ug_audit.proofs.laws.worlds_end.Goals as goal

pub returns : goal.returns
returns c = λ w lines first. ends_with w lines first
