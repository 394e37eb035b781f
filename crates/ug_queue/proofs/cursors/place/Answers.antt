use Rattle.std.proofs.Common.{ℕ, rules, of_calls, nat_lt}
use Rattle.std.proofs.lemmas.Fn.{always_returns_same}
use Rattle.ug_queue.proofs.Searches.{parted, place_is}
use Rattle.ug_queue.proofs.cursors.place.Goals as goal

pub returns-clause-place : goal.returns-clause-place
returns-clause-place c =
    let es = c.args.entries.now in
    let point = c.partition_point.ensures.partitioned (λ (e : ℕ × ℕ). nat_lt e.0 c.args.member) (always_returns_same _ _ _ (λ a r f k. search (rules, of_calls))) (parted c.args.member es c.requires) in
    place_is c.args.member es c.partition_point.result c.partition_point.ensures.bound point.0 point.1
