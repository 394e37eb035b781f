use Rattle.std.proofs.Common.{◌≡◌, ◌++◌, drop}
use Rattle.ug_queue.proofs.queue.add_twins.Given as goal

abbrev pub invariant-loop-place : goal.invariant-loop-place
invariant-loop-place g l = record {
  packets : l.copy.packets ++ drop l.place l.line.packets ≡ l.fn.copy.packets ++ drop l.from l.line.packets;
  places : l.copy.places ≡ l.fn.copy.places;
  limit : l.copy.limit ≡ l.fn.copy.limit;
}
