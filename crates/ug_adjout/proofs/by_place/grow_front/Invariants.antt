use Rattle.std.proofs.Common.{◌≡◌, ◌+◌, ◌≤◌, ◌++◌, replicate, None}
use Rattle.ug_adjout.proofs.by_place.grow_front.Given as goal

abbrev pub invariant-loop : goal.invariant-loop
invariant-loop l = record {
  room : l.values.len + l.more ≤ l.values.cap + l.counter;
  items : l.values.items ≡ replicate l.counter None ++ l.fn.values.items;
}
