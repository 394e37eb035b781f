use Rattle.std.proofs.Common.{◌≡◌, ◌++◌, length, map, take, drop}
use Rattle.ug_types.specs.Attributes.{segment_of}
use Rattle.ug_policy.specs.Paths.{with_numbers, public_numbers}
use Rattle.ug_policy.proofs.path_segments.drop_private_in_each.Given as goal

-- the segments so far, and what the rest becomes, make up the whole
abbrev pub invariant-loop-i : goal.invariant-loop-i
invariant-loop-i l = record {
  as_long : length l.path.items ≡ l.i-end;
  whole : map segment_of (take l.i l.path.items) ++ map (with_numbers public_numbers) (map segment_of (drop l.i l.path.items)) ≡ map (with_numbers public_numbers) (map segment_of l.fn.path.items);
}
