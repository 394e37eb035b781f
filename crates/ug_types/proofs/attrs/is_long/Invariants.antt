use Rattle.std.proofs.Common.{◌≡◌, map, take, min}
use Rattle.ug_types.specs.Attributes.{numbers_in, segment_of}
use Rattle.ug_types.proofs.attrs.is_long.Given as goal

-- the numbers of the segments so far
abbrev pub invariant-loop-segment : goal.invariant-loop-segment
invariant-loop-segment l = l.numbers ≡ min (numbers_in (map segment_of (take l.segment-index l.path))) 18446744073709551615
