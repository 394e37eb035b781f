use Rattle.std.proofs.Common.{◌≡◌, ◌+◌, ◌≤◌, length, take}
use Rattle.ug_policy.specs.OrfApplying.{applied}
use Rattle.ug_world.proofs.orf_length.length_after.Given as goal

-- after the changes so far
abbrev pub invariant-loop-i : goal.invariant-loop-i
invariant-loop-i l = record {
  counted : l.count ≡ length (applied (take l.i l.changes) l.entries);
  few : l.count ≤ length l.entries + l.i;
}
