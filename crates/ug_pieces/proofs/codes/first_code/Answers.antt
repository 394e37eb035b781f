use Rattle.std.proofs.Common.{arith}
use Rattle.ug_pieces.proofs.Coding.{two_first, one_first}
use Rattle.ug_pieces.proofs.codes.first_code.Goals as goal

pub returns-in-Some : goal.returns-in-Some
returns-in-Some c = two_first c.args.text.now c.in-Some.code (omega arith) c.in-Some.ensures

pub returns : goal.returns
returns c = one_first c.args.text.now (omega arith) (omega arith)
