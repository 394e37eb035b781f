use Rattle.std.proofs.Common.{◌≡◌, drop}
use Rattle.ug_groups.specs.Rows.{keys_in}
use Rattle.ug_groups.specs.TableChanges.{some_add_path}
use Rattle.ug_groups.proofs.entering.some_add_path.Given as goal

-- it is so of all where it is so of those that are left
abbrev pub invariant-loop-g : goal.invariant-loop-g
invariant-loop-g l = some_add_path (drop l.g-index (keys_in l.subgroups)) ≡ some_add_path (keys_in l.subgroups)
