use Rattle.std.proofs.Common.{rules, of_calls}
use Rattle.std.proofs.lemmas.Fn.{always_returns_same}
use Rattle.ug_queue.proofs.Spreading.{is_low, parted, place_is}
use Rattle.ug_queue.proofs.live.place.Goals as goal

pub returns-clause-place : goal.returns-clause-place
returns-clause-place g c =
    let rows = c.args.entries.now in
    let point = c.partition_point.ensures.partitioned (is_low c.args.g) (always_returns_same _ _ _ (λ a r f k. search (rules, of_calls))) (parted c.args.g c.requires.0 rows c.requires.1) in
    place_is c.args.g c.partition_point.result rows point c.partition_point.ensures.bound
