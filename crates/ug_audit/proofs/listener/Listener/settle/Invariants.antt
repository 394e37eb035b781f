use Rattle.std.proofs.Common.{◌≤◌, List, ℕ, length}
use Rattle.ug_types.specs.declared.capabilities.Capabilities.{Capabilities}
use Rattle.ug_audit.specs.Heard.{HasHeard, bytes_in}
use Rattle.ug_audit.proofs.listener.Listener.settle.Given as goal

-- what was heard is of the same bytes
abbrev pub invariant-loop-more : goal.invariant-loop-more
invariant-loop-more l = record {
  heard : (c : Capabilities) (stream : List ℕ) → HasHeard c l.session l.fn.self stream → HasHeard c l.session l.self stream;
  size : bytes_in l.self ≤ bytes_in l.fn.self;
}

abbrev pub decreases-loop-more : goal.decreases-loop-more
decreases-loop-more l = length l.self.reader.left
