use Rattle.ug_adjout.specs.FormattingLaws.{fitting-longest}
use Rattle.ug_adjout.proofs.laws.fitting_law.Goals as goal

pub returns : goal.returns
returns g c = fitting-longest
