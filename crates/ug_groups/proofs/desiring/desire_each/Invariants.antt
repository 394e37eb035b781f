use Rattle.std.proofs.Common.{◌≡◌, ◌++◌, Some}
use Rattle.ug_outbound.specs.declared.key.GroupKey as keys
use Rattle.ug_groups.specs.TableChanges.{key_at, number_of, reached, with_changes}
use Rattle.ug_groups.proofs.desiring.desire_each.Given as goal

-- those so far are desired
abbrev pub invariant-loop-key : goal.invariant-loop-key
invariant-loop-key l =
    (goal.iterator-loop-key).can_next l.key-iterator
    × (goal.iterator-loop-key).is_finite l.key-iterator
    × (l.yielded ++ l.key-iterator ≡ l.fn.changes.entries)
    × ((key : keys.GroupKey) → key_at (number_of l.reach) l.fn.subgroups ≡ Some key → l.subgroups ≡ reached l.reach key (with_changes l.yielded) l.fn.subgroups)
