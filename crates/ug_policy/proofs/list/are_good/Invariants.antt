use Rattle.std.proofs.Common.{◌≡◌, drop}
use Rattle.std.specs.List.{list_all}
use Rattle.ug_policy.specs.Lists.{is_good}
use Rattle.ug_policy.proofs.list.are_good.Given as goal

-- the entries that are left decide
abbrev pub invariant-loop-entry : goal.invariant-loop-entry
invariant-loop-entry l = list_all is_good (drop l.entry-index l.entries) ≡ list_all is_good l.entries
