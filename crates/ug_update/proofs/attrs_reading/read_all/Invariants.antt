use Rattle.std.proofs.Common.{◌≡◌, ◌-◌, ◌≤◌, length, drop}
use Rattle.ug_message.specs.Walking.{walk, walk_all}
use Rattle.ug_message.specs.Kind.{nothing_read}
use Rattle.ug_message.specs.AttributesRead.{attribute_step}
use Rattle.ug_update.specs.AttrsViews.{so_far}
use Rattle.ug_update.proofs.attrs_reading.read_all.Given as goal

-- walking on from here gives what walking from the start gives
abbrev pub invariant-loop-place : goal.invariant-loop-place
invariant-loop-place l = record {
  within : l.place ≤ length l.bytes;
  limit : l.found.limit ≡ length l.bytes;
  same : walk (attribute_step l.family) 0 l.place (so_far l.bytes l.found) (drop l.place l.bytes) ≡ walk_all (attribute_step l.family) nothing_read l.bytes;
}

abbrev pub decreases-loop-place : goal.decreases-loop-place
decreases-loop-place l = length l.bytes - l.place
