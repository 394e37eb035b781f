use Rattle.std.proofs.Common.{◌+◌, ◌≤◌, ◌<◌, length}
use Rattle.ug_pieces.specs.Lines.{lines_of}
use Rattle.ug_audit_rules.specs.Lines.{said_in}
use Rattle.ug_audit_rules.proofs.Replayed.{IsReplayed}
use Rattle.ug_audit_rules.proofs.replay.counted.Given as goal

abbrev pub invariant-loop-line : goal.invariant-loop-line
invariant-loop-line g l = record {
  replayed : IsReplayed l.id l.first l.world l.progress (said_in l.rest) (said_in l.events);
  inside : l.id < length l.world.peers;
  room : l.world.version + length (lines_of l.rest) ≤ length (lines_of l.events);
}

abbrev pub decreases-loop-line : goal.decreases-loop-line
decreases-loop-line g l = length l.rest
