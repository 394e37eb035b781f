use Rattle.std.proofs.Common.{◌≡◌, map, drop}
use Rattle.std.specs.List.{list_all}
use Rattle.ug_types.specs.Attributes.{is_segment, segment_of}
use Rattle.ug_types.proofs.attrs.are_segments.Given as goal

-- the segments that are left decide
abbrev pub invariant-loop-segment : goal.invariant-loop-segment
invariant-loop-segment l = list_all is_segment (map segment_of (drop l.segment-index l.path)) ≡ list_all is_segment (map segment_of l.path)
