use Rattle.std.proofs.Common.{◌≡◌, length}
use Rattle.ug_policy.specs.OrfWalking.{all_in, behind_items}
use Rattle.ug_policy.specs.OrfReading.{entry_at}
use Rattle.ug_policy.specs.OrfViews.{AreChanges}
use Rattle.ug_policy.proofs.orf_reading.read_entries.Given as goal

-- what is read so far and what is left make up the whole
abbrev pub invariant-loop-rest : goal.invariant-loop-rest
invariant-loop-rest l = record {
  all : behind_items l.changes.items (all_in entry_at l.rest) ≡ all_in entry_at l.bytes;
  good : AreChanges l.changes.items;
}

abbrev pub decreases-loop-rest : goal.decreases-loop-rest
decreases-loop-rest l = length l.rest
