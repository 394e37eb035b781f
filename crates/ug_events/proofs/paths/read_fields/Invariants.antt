use Rattle.std.proofs.Common.{◌≡◌, ◌≤◌, length}
use Rattle.ug_events.specs.Words.{words}
use Rattle.ug_events.specs.Paths.{runs, first_of, others_of, fields_of}
use Rattle.ug_events.specs.Views.{fields_seen}
use Rattle.ug_events.proofs.paths.read_fields.Given as goal

-- the fields so far and those of the words that are left
abbrev pub invariant-loop-word : goal.invariant-loop-word
invariant-loop-word l = record {
  all : fields_of l.family (fields_seen l.fields) (first_of (runs (words l.left))) ≡ fields_of l.family (fields_seen l.fn.fields) (first_of (runs (words l.rest)));
  others : others_of (runs (words l.left)) ≡ others_of (runs (words l.rest));
  shorter : length l.left ≤ length l.rest;
}

abbrev pub decreases-loop-word : goal.decreases-loop-word
decreases-loop-word l = length l.left
