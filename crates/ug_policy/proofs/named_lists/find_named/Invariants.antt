use Rattle.std.proofs.Common.{◌≡◌, drop}
use Rattle.ug_policy.specs.Named.{value_named}
use Rattle.ug_policy.proofs.named_lists.find_named.Given as goal

-- the values that are left decide
abbrev pub invariant-loop-named : goal.invariant-loop-named
invariant-loop-named g l = value_named (drop l.named-index l.items) l.name ≡ value_named l.items l.name
