use Rattle.std.proofs.Common.{rules, of_calls, nat_lt}
use Rattle.std.proofs.lemmas.Fn.{always_returns_same}
use Rattle.ug_policy.specs.declared.list_entry.ListEntry.{ListEntry}
use Rattle.ug_policy.proofs.OrfChanged.{parted, place_is}
use Rattle.ug_policy.proofs.orf_apply.place_of.Goals as goal

pub returns-clause-place : goal.returns-clause-place
returns-clause-place c =
    let xs = c.args.entries.now in
    let point = c.partition_point.ensures.partitioned (λ (e : ListEntry). nat_lt e.seq c.args.seq) (always_returns_same _ _ _ (λ a r f k. search (rules, of_calls))) (parted c.args.seq xs c.requires) in
    place_is c.args.seq xs c.partition_point.result c.partition_point.ensures.bound point.0 point.1
