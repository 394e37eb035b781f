use Rattle.std.proofs.Common.{◌≡◌, ◌≤◌, drop}
use Rattle.ug_edge.specs.WireState.{room_before_cut}
use Rattle.ug_edge.proofs.cuts.room_before.Given as goal

abbrev pub invariant-loop-total : goal.invariant-loop-total
invariant-loop-total l = record {
  within : l.room ≤ l.count;
  rest : room_before_cut l.sent (drop l.total-index l.total-items) l.room ≡ room_before_cut l.sent l.total-items l.count;
}
