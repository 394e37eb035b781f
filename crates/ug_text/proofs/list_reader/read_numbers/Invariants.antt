use Rattle.std.proofs.Common.{◌≡◌}
use Rattle.ug_text.specs.Paths.{number_as}
use Rattle.ug_text.specs.Cutting.{each, pieces}
use Rattle.ug_text.specs.Seen.{pieces_in}
use Rattle.ug_text.proofs.Pieces.{behind_items, size_left}
use Rattle.ug_text.proofs.list_reader.read_numbers.Given as goal

-- those so far and those that are left are all
abbrev pub invariant-loop-rest : goal.invariant-loop-rest
invariant-loop-rest l = behind_items l.numbers.items (each (number_as l.spelled) (pieces_in 44 l.rest)) ≡ each (number_as l.spelled) (pieces 44 l.text)

abbrev pub decreases-loop-rest : goal.decreases-loop-rest
decreases-loop-rest l = size_left l.rest
