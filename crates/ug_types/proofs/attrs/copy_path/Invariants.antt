use Rattle.std.proofs.Common.{◌≡◌, map, take}
use Rattle.ug_types.specs.Attributes.{segment_of}
use Rattle.ug_types.proofs.attrs.copy_path.Given as goal

-- what was copied so far
abbrev pub invariant-loop-segment : goal.invariant-loop-segment
invariant-loop-segment l = map segment_of l.copy.items ≡ map segment_of (take l.segment-index l.path)
