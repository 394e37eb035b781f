use Rattle.std.proofs.Common.{◌≡◌, ◌+◌, ◌≤◌, ◌^◌, length}
use Rattle.ug_adjout.specs.Placed.{placed}
use Rattle.ug_adjout.proofs.by_place.trim_front.Given as goal

abbrev pub invariant-loop : goal.invariant-loop
invariant-loop l = record {
  same : placed l.now l.values.items ≡ placed l.start l.fn.values.items;
  fits : l.now + length l.values.items ≤ 2 ^ 32;
}
