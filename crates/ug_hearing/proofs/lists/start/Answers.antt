use Rattle.std.proofs.Common.{arith}
use Rattle.ug_hearing.proofs.Lying.{starts-at}
use Rattle.ug_hearing.proofs.lists.start.Goals as goal

pub returns : goal.returns
returns c = starts-at c.args.ends.now c.args.place (omega (arith, c.if-place-eq0.false)) c.requires
