use Rattle.std.proofs.Common.{arith}
use Rattle.std.proofs.lemmas.Grind.{common_steps}
use Rattle.ug_update.proofs.Marks.{written_mark}
use Rattle.ug_update.proofs.writing.write_mark.Goals as goal

pub returns-clause-text : goal.returns-clause-text
returns-clause-text c = λ session family. written_mark session c.args.family c.args.begin c.extend_from_slice-2.new.self.items family (grind (arith, common_steps))
