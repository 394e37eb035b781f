use Rattle.std.proofs.Common.{◌≡◌, ◌++◌, map}
use Rattle.std.specs.Vec.Iter.{into_iter_items}
use Rattle.ug_audit_rules.specs.Histories.{entries_of}
use Rattle.ug_audit_rules.proofs.timelines.Timelines.of.Given as goal

-- the logs so far, and those that are left
abbrev pub invariant-loop-group : goal.invariant-loop-group
invariant-loop-group l =
    goal.iterator-loop-group.can_next l.group-iterator
    × goal.iterator-loop-group.is_finite l.group-iterator
    × (l.logs.items ++ map entries_of (into_iter_items l.group-iterator) ≡ map entries_of l.fn.history.groups.items)
