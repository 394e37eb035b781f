use Rattle.std.proofs.Common.{◌≡◌, map}
use Rattle.ug_types.specs.Attributes.{segment_of}
use Rattle.ug_text.specs.Paths.{segment}
use Rattle.ug_text.specs.Cutting.{each, pieces}
use Rattle.ug_text.specs.Seen.{pieces_in}
use Rattle.ug_text.proofs.Pieces.{behind_items, size_left}
use Rattle.ug_text.proofs.list_reader.read_segments.Given as goal

-- those so far and those that are left are all
abbrev pub invariant-loop-rest : goal.invariant-loop-rest
invariant-loop-rest l = behind_items (map segment_of l.segments.items) (each segment (pieces_in 59 l.rest)) ≡ each segment (pieces 59 l.text)

abbrev pub decreases-loop-rest : goal.decreases-loop-rest
decreases-loop-rest l = size_left l.rest
