use Rattle.std.proofs.Common.{◌≡◌, ◌++◌, length, map, take, drop}
use Rattle.ug_types.specs.Attributes.{segment_of}
use Rattle.ug_policy.specs.Paths.{overridden}
use Rattle.ug_policy.proofs.path_segments.override_as.Given as goal

-- the segments so far, and what the rest becomes, make up the whole
abbrev pub invariant-loop-i : goal.invariant-loop-i
invariant-loop-i l = record {
  as_long : length l.path.items ≡ l.i-end;
  whole : map segment_of (take l.i l.path.items) ++ overridden l.old l.new (map segment_of (drop l.i l.path.items)) ≡ overridden l.old l.new (map segment_of l.fn.path.items);
}
