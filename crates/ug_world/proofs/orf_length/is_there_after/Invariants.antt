use Rattle.std.proofs.Common.{◌≡◌, take}
use Rattle.ug_policy.specs.OrfApplying.{applied}
use Rattle.ug_world.specs.Filtered.{has_seq}
use Rattle.ug_world.proofs.orf_length.is_there_after.Given as goal

-- after the changes so far
abbrev pub invariant-loop-i : goal.invariant-loop-i
invariant-loop-i l = has_seq l.seq (applied (take l.i l.changes) l.entries) ≡ l.there
