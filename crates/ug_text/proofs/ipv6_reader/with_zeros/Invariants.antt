use Rattle.std.proofs.Common.{◌≡◌}
use Rattle.ug_text.specs.Addresses.{with_zeros}
use Rattle.ug_text.specs.Grouped.{AreGroups, groups_of}
use Rattle.ug_text.proofs.ipv6_reader.with_zeros.Given as goal

-- the zeros that are left behind the groups so far
abbrev pub invariant-loop-left : goal.invariant-loop-left
invariant-loop-left l = record {
  groups : AreGroups l.groups;
  all : with_zeros l.left (groups_of l.groups) ≡ with_zeros l.zeros (groups_of l.fn.groups);
}

abbrev pub decreases-loop-left : goal.decreases-loop-left
decreases-loop-left l = l.left
