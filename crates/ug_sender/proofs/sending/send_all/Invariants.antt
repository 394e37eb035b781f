use Rattle.std.proofs.Common.{◌≡◌, ◌-◌, ◌≤◌, length, take}
use Rattle.ug_edge.specs.Told.{SendsPiece}
use Rattle.ug_sender.proofs.sending.send_all.Given as goal

abbrev pub invariant-loop-at : goal.invariant-loop-at
invariant-loop-at g l = record {
  within : l.at ≤ length l.message;
  sent : SendsPiece (g.W.Wire.sessions l.fn.wire) (g.W.Wire.sessions l.wire) (take l.at l.message);
  faults : g.W.Wire.faults l.wire ≡ g.W.Wire.faults l.fn.wire;
  begun : g.W.Wire.begun l.wire ≡ g.W.Wire.begun l.fn.wire;
  made_for : g.W.Wire.made_for l.wire ≡ g.W.Wire.made_for l.fn.wire;
}

abbrev pub decreases-loop-at : goal.decreases-loop-at
decreases-loop-at g l = length l.message - l.at
