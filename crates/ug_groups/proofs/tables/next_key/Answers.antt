use Rattle.ug_groups.proofs.NextKeys.{first_key, first_own, next_is, next_own}
use Rattle.ug_groups.proofs.tables.next_key.Goals as goal

pub returns-clause-next : goal.returns-clause-next
returns-clause-next c =
    let pool = c.args.pool.now in let a = c.args.one.now.point.adj in let b = c.args.other.now.point.adj in let at = c.args.at.now in
    next_is _ _ at c.key_of-first.result c.key_of-second.result c.least.result
    (first_key pool a c.know_keys.ensures.sorted c.requires.counted_one at _ c.row_after.result c.key_of-first.result c.as_ref.ensures.value c.row_after.ensures c.key_of-first.ensures)
    (first_key pool b c.know_keys-2.ensures.sorted c.requires.counted_other at _ c.row_after-2.result c.key_of-second.result c.as_ref-2.ensures.value c.row_after-2.ensures c.key_of-second.ensures)
    c.least.ensures

pub returns-clause-own : goal.returns-clause-own
returns-clause-own c =
    let pool = c.args.pool.now in let one = c.args.one.now.point in let other = c.args.other.now.point in let at = c.args.at.now in
    next_own one.key other.key c.requires.alike c.key_of-first.result c.key_of-second.result c.least.result
    (first_own pool one.adj c.know_keys.ensures.sorted c.requires.counted_one one.key c.know_keys.ensures.own at _ c.row_after.result c.key_of-first.result c.as_ref.ensures.value c.row_after.ensures c.key_of-first.ensures)
    (first_own pool other.adj c.know_keys-2.ensures.sorted c.requires.counted_other other.key c.know_keys-2.ensures.own at _ c.row_after-2.result c.key_of-second.result c.as_ref-2.ensures.value c.row_after-2.ensures c.key_of-second.ensures)
    c.least.ensures
