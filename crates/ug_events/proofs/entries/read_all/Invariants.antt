use Rattle.std.proofs.Common.{◌≡◌, length}
use Rattle.ug_events.specs.Words.{words}
use Rattle.ug_events.specs.Reads.{each_read, behind_read}
use Rattle.ug_events.specs.Entries.{entry}
use Rattle.ug_events.proofs.entries.read_all.Given as goal

-- the entries so far and those of the words that are left
abbrev pub invariant-loop-word : goal.invariant-loop-word
invariant-loop-word l = behind_read l.entries.items (each_read entry (words l.left)) ≡ each_read entry (words l.rest)

abbrev pub decreases-loop-word : goal.decreases-loop-word
decreases-loop-word l = length l.left
