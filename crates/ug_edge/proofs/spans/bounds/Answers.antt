use Rattle.std.proofs.Common.{arith}
use Rattle.ug_edge.proofs.RoomLemmas.{next_part, last_part}
use Rattle.ug_edge.proofs.spans.bounds.Goals as goal

pub returns-then-next-starts-clause-ordered : goal.returns-then-next-starts-clause-ordered
returns-then-next-starts-clause-ordered c = (next_part c.args.starts.now c.args.place c.args.end c.requires.laid c.if-next-starts.true).ordered

pub returns-then-next-starts-clause-within : goal.returns-then-next-starts-clause-within
returns-then-next-starts-clause-within c = (next_part c.args.starts.now c.args.place c.args.end c.requires.laid c.if-next-starts.true).within

pub returns-then-next-starts-clause-part : goal.returns-then-next-starts-clause-part
returns-then-next-starts-clause-part c = (next_part c.args.starts.now c.args.place c.args.end c.requires.laid c.if-next-starts.true).part

pub returns-else-next-starts-clause-ordered : goal.returns-else-next-starts-clause-ordered
returns-else-next-starts-clause-ordered c = (last_part c.args.starts.now c.args.place c.args.end c.requires.laid (omega arith)).ordered

pub returns-else-next-starts-clause-part : goal.returns-else-next-starts-clause-part
returns-else-next-starts-clause-part c = (last_part c.args.starts.now c.args.place c.args.end c.requires.laid (omega arith)).part
