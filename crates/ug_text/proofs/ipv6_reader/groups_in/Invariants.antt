use Rattle.std.proofs.Common.{◌≡◌}
use Rattle.ug_text.specs.Addresses.{groups_from}
use Rattle.ug_text.specs.Cutting.{pieces}
use Rattle.ug_text.specs.Seen.{pieces_in}
use Rattle.ug_text.specs.Grouped.{AreGroups, groups_of}
use Rattle.ug_text.proofs.Pieces.{size_left}
use Rattle.ug_text.proofs.ipv6_reader.groups_in.Given as goal

-- the groups so far and those that are left are all
abbrev pub invariant-loop-rest : goal.invariant-loop-rest
invariant-loop-rest l = record {
  groups : AreGroups l.groups;
  all : groups_from (groups_of l.groups) (pieces_in 58 l.rest) ≡ groups_from (groups_of l.fn.groups) (pieces 58 l.text);
}

abbrev pub decreases-loop-rest : goal.decreases-loop-rest
decreases-loop-rest l = size_left l.rest
