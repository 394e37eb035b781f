use Rattle.ug_selfrun.proofs.Opening.{workload_opens}
use Rattle.ug_selfrun.proofs.Sound.{workload_is_sound}
use Rattle.ug_selfrun.proofs.laws.workload_laws.Goals as goal

pub returns-clause-opens : goal.returns-clause-opens
returns-clause-opens c = workload_opens

pub returns-clause-events : goal.returns-clause-events
returns-clause-events c = workload_is_sound
