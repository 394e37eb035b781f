use Rattle.std.proofs.Common.{◌≡◌, drop}
use Rattle.ug_policy.specs.Lists.{permits}
use Rattle.ug_policy.proofs.list.are_permitting.Given as goal

-- the entries that are left decide
abbrev pub invariant-loop-entry : goal.invariant-loop-entry
invariant-loop-entry l = permits (drop l.entry-index l.entries) l.prefix ≡ permits l.entries l.prefix
