use Rattle.std.proofs.Common.{◌≡◌}
use Rattle.std.specs.Vec.Iter.{into_iter_items, into_iter_len}
use Rattle.ug_types.specs.declared.key.Key.{Key}
use Rattle.ug_message.specs.Tables.{among}
use Rattle.ug_check.specs.Rows.{row_at}
use Rattle.ug_check.specs.Waiting.{with_waiting, AreWaiting}
use Rattle.ug_check.proofs.table.Table.put_in_turn.Given as goal

-- what is done so far and what is left make up the whole
abbrev pub invariant-loop-change : goal.invariant-loop-change
invariant-loop-change l = record {
  row : (q : Key) → row_at (with_waiting l.self (into_iter_items l.rest)).rows q ≡ row_at (with_waiting l.fn.self l.fn.changes.items).rows q;
  stale : (q : Key) → among (with_waiting l.self (into_iter_items l.rest)).stale q ≡ among (with_waiting l.fn.self l.fn.changes.items).stale q;
  waiting : AreWaiting l.self.refreshes (into_iter_items l.rest);
}

abbrev pub decreases-loop-change : goal.decreases-loop-change
decreases-loop-change l = into_iter_len l.rest
