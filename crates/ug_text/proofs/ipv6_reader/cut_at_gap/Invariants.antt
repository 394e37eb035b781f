use Rattle.std.proofs.Common.{◌≡◌, ◌-◌, ◌≤◌, length, take, drop}
use Rattle.ug_text.specs.Addresses.{cut_at_gap}
use Rattle.ug_text.proofs.Pieces.{in_front}
use Rattle.ug_text.proofs.ipv6_reader.cut_at_gap.Given as goal

-- no two colons stand side by side before this place
abbrev pub invariant-loop-i : goal.invariant-loop-i
invariant-loop-i l = record {
  within : l.i ≤ length l.text;
  same : cut_at_gap l.text ≡ in_front (take l.i l.text) (cut_at_gap (drop l.i l.text));
}

abbrev pub decreases-loop-i : goal.decreases-loop-i
decreases-loop-i l = length l.text - l.i
