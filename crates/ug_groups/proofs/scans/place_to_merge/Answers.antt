use Rattle.ug_groups.proofs.Alike.{none_to_merge}
use Rattle.ug_groups.proofs.scans.place_to_merge.Goals as goal

pub returns-then-not-some_alike : goal.returns-then-not-some_alike
returns-then-not-some_alike c = none_to_merge c.args.entries.now (c.some_alike.ensures c.if-not-some_alike.true)
