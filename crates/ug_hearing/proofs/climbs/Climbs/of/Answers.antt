use Rattle.std.proofs.Common.{refl}
use Rattle.ug_hearing.proofs.HandedOut.{none-out}
use Rattle.ug_hearing.proofs.climbs.Climbs.of.Goals as goal

pub returns : goal.returns
returns c = none-out c.args.judge.now (record { keys = c.in_ok-keys.keys; place = 0; moves = c.new.result }) c.in_ok-keys.ensures.ascending c.in_ok-keys.ensures.named refl
