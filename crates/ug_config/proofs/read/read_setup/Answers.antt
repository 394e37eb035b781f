use Rattle.ug_config.proofs.Good.{sound}
use Rattle.ug_config.proofs.read.read_setup.Goals as goal

pub returns-clause-sound : goal.returns-clause-sound
returns-clause-sound c = sound c.args.bytes.now c.in_ok-setup.setup c.in_ok-setup.ensures
