use Rattle.std.proofs.Common.{◌≡◌, drop, map}
use Rattle.std.specs.List.{list_all}
use Rattle.ug_types.specs.Attributes.{segment_of}
use Rattle.ug_message.specs.Spellable.{has_numbers}
use Rattle.ug_update.proofs.formed.know_path.Given as goal

-- what was looked at is as it should be
abbrev pub invariant-loop-segment : goal.invariant-loop-segment
invariant-loop-segment l = list_all has_numbers (map segment_of (drop l.segment-index l.path)) ≡ list_all has_numbers (map segment_of l.path)
