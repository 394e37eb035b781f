use Rattle.std.proofs.Common.{◌≡◌, ◌≤◌, length, map, take}
use Rattle.ug_types.specs.Attributes.{segment_of}
use Rattle.ug_policy.specs.Maps.{all_prepended}
use Rattle.ug_policy.proofs.sets.prepend_all.Given as goal

-- the numbers that are left are still to be put in front
abbrev pub invariant-loop-left : goal.invariant-loop-left
invariant-loop-left l = record {
  within : l.left ≤ length l.numbers;
  whole : all_prepended (take l.left l.numbers) (map segment_of l.path.items) ≡ all_prepended l.numbers (map segment_of l.fn.path.items);
}

abbrev pub decreases-loop-left : goal.decreases-loop-left
decreases-loop-left l = l.left
