use Rattle.std.proofs.Common.{◌≡◌, ◌-◌, ◌≤◌, true, length, map, drop}
use Rattle.std.specs.List.{list_all}
use Rattle.ug_types.specs.Attributes.{is_segment, segment_of}
use Rattle.ug_message.specs.Walking.{walk, with_one}
use Rattle.ug_message.specs.AttributeTable.{segment_at, path_in}
use Rattle.ug_update.proofs.attributes.as_path.path_in.Given as goal

-- walking on from here gives what walking from the start gives
abbrev pub invariant-loop-place : goal.invariant-loop-place
invariant-loop-place l = record {
  within : l.place ≤ length l.bytes;
  sound : list_all is_segment (map segment_of l.path.items) ≡ true;
  same : walk (with_one (λ place. segment_at)) 0 l.place (map segment_of l.path.items) (drop l.place l.bytes) ≡ path_in l.bytes;
}

abbrev pub decreases-loop-place : goal.decreases-loop-place
decreases-loop-place l = length l.bytes - l.place
