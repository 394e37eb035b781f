use Rattle.ug_run.proofs.Concluding.{first_rest}
use Rattle.ug_run.proofs.ending.first_of.Goals as goal

pub returns-in-len1-up-clause-first : goal.returns-in-len1-up-clause-first
returns-in-len1-up-clause-first c = first_rest c.args.losses.now (record { peer = 0; session = 0 }) c.in-len1-up.len_at_least
