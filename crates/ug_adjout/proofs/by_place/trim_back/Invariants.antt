use Rattle.std.proofs.Common.{◌≡◌, ◌≤◌, length}
use Rattle.ug_adjout.specs.Placed.{placed}
use Rattle.ug_adjout.proofs.by_place.trim_back.Given as goal

abbrev pub invariant-loop : goal.invariant-loop
invariant-loop l = record {
  same : placed l.start l.values.items ≡ placed l.start l.fn.values.items;
  len : length l.values.items ≤ length l.fn.values.items;
}
