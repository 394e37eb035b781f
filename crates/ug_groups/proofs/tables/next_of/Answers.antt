use Rattle.ug_groups.proofs.Accounts.{counted_in}
use Rattle.ug_groups.proofs.tables.next_of.Goals as goal

pub next_key-requires-clause-counted_one : goal.next_key-requires-clause-counted_one
next_key-requires-clause-counted_one c = counted_in c.args.pool.now c.args.live.now c.args.from c.at-other.result.now c.requires.kept c.at-other.ensures

pub next_key-requires-clause-counted_other : goal.next_key-requires-clause-counted_other
next_key-requires-clause-counted_other c = counted_in c.args.pool.now c.args.live.now c.args.g c.at-mine.result.now c.requires.kept c.at-mine.ensures
