use Rattle.ug_speaker.proofs.Worlds.{are-tellable, fit-alone}
use Rattle.ug_speaker.proofs.laws.routes_fit.Goals as goal

pub returns-clause-spelled : goal.returns-clause-spelled
returns-clause-spelled c = are-tellable

pub returns-clause-fit : goal.returns-clause-fit
returns-clause-fit c = fit-alone
