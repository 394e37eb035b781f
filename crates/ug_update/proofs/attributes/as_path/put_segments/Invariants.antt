use Rattle.std.proofs.Common.{◌≡◌, ◌+◌, ◌≤◌, ◌++◌, true, length, drop, map}
use Rattle.std.specs.List.{list_all}
use Rattle.ug_types.specs.Attributes.{is_segment, segment_of}
use Rattle.ug_message.specs.AttributeTable.{segments}
use Rattle.ug_update.proofs.attributes.as_path.put_segments.Given as goal

-- what is written so far and what is left make up the whole
abbrev pub invariant-loop-part : goal.invariant-loop-part
invariant-loop-part l = record {
  counts : list_all is_segment (map segment_of (drop l.part-index l.path)) ≡ true;
  items : l.out.items ++ segments (map segment_of (drop l.part-index l.path)) ≡ l.fn.out.items ++ segments (map segment_of l.path);
  spare : l.fn.out.spare + length (segments (map segment_of (drop l.part-index l.path))) ≤ l.out.spare + length (segments (map segment_of l.path));
}
