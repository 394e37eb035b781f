use Rattle.std.proofs.Common.{◌≡◌, ◌+◌, length, drop, map}
use Rattle.ug_types.specs.Attributes.{segment_of}
use Rattle.ug_message.specs.AttributeTable.{segments}
use Rattle.ug_update.proofs.attributes.as_path.segments_size.Given as goal

abbrev pub invariant-loop-segment : goal.invariant-loop-segment
invariant-loop-segment l = l.size + length (segments (map segment_of (drop l.segment-index l.path))) ≡ length (segments (map segment_of l.path))
