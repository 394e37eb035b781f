use Rattle.std.proofs.Common.{◌≡◌, drop}
use Rattle.ug_world.specs.Filtered.{has_seq}
use Rattle.ug_world.proofs.orf_length.is_there.Given as goal

-- the entries that are left decide
abbrev pub invariant-loop-entry : goal.invariant-loop-entry
invariant-loop-entry l = has_seq l.seq (drop l.entry-index l.entries) ≡ has_seq l.seq l.entries
