use Rattle.std.proofs.Common.{arith}
use Rattle.std.proofs.lemmas.Bool.Decides.{nat_tests}
use Rattle.ug_update.proofs.attributes.as_path.segment_at.Goals as goal

pub returns-clause-sound : goal.returns-clause-sound
returns-clause-sound c = let h = c.in_ok-numbers.ensures.count in grind (arith, nat_tests)
