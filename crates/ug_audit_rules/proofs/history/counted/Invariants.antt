use Rattle.std.proofs.Common.{◌+◌, ◌≤◌, length}
use Rattle.ug_pieces.specs.Lines.{lines_of}
use Rattle.ug_audit_rules.specs.Lines.{said_in}
use Rattle.ug_audit_rules.proofs.HistorySteps.{IsNotedSoFar}
use Rattle.ug_audit_rules.proofs.history.counted.Given as goal

abbrev pub invariant-loop-line : goal.invariant-loop-line
invariant-loop-line g l = record {
  noted : IsNotedSoFar l.first l.world l.history (said_in l.rest) (said_in l.events);
  room : l.world.version + length (lines_of l.rest) ≤ length (lines_of l.events);
}

abbrev pub decreases-loop-line : goal.decreases-loop-line
decreases-loop-line g l = length l.rest
