use Rattle.std.proofs.Common.{◌≡◌, ◌+◌, List, length}
use Rattle.std.specs.Prelude.{option_copied}
use Rattle.ug_hearing.specs.Pasts.{Value}
use Rattle.ug_audit_rules.specs.Held.{IsRising}
use Rattle.ug_audit_rules.specs.Merges.{IsMerged}
use Rattle.ug_audit_rules.proofs.MergedChanges.{IsMergedTo}
use Rattle.ug_audit_rules.proofs.merging.merge.Given as goal

-- the changes are merged up to a version
abbrev pub invariant-loop-at : goal.invariant-loop-at
invariant-loop-at l = record {
  ends : l.teller.ends ≡ l.fn.teller.ends;
  goes : (past : List Value) → IsRising 1 l.ups (length past) → IsRising 1 l.outs (length past) → IsMerged l.fn.teller.ends l.ups l.outs past
      → IsMergedTo l.fn.teller.ends l.ups l.outs l.up l.ups_left (option_copied l.out) l.outs_left l.changes.items past;
}

abbrev pub decreases-loop-at : goal.decreases-loop-at
decreases-loop-at l = length l.ups_left + length l.outs_left
