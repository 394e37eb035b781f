use Rattle.std.proofs.Common.{◌≡◌, ◌+◌, ◌≤◌, ◌++◌, map, Some}
use Rattle.ug_outbound.specs.declared.key.GroupKey.{GroupKey}
use Rattle.ug_world.specs.Rows.{row_lent}
use Rattle.ug_group_rules.specs.Evaluations.{all_heeded}
use Rattle.ug_groups.specs.TableChanges.{changes_of, key_at, number_of, reached, with_changes}
use Rattle.ug_groups.proofs.walking.touch_world.Given as goal

-- those so far are desired
abbrev pub invariant-loop-prefix : goal.invariant-loop-prefix
invariant-loop-prefix g l = record {
  next : (goal.iterator-loop-prefix g).can_next l.prefix-iterator;
  finite : (goal.iterator-loop-prefix g).is_finite l.prefix-iterator;
  whole : map row_lent l.yielded ++ l.prefix-iterator ≡ l.world.routes;
  rows : (key : GroupKey) → key_at (number_of l.reach) l.fn.subgroups ≡ Some key → l.subgroups ≡ reached l.reach key (with_changes (changes_of l.world (map row_lent l.yielded) key)) l.fn.subgroups;
  count : (key : GroupKey) → key_at (number_of l.reach) l.fn.subgroups ≡ Some key → l.steps ≡ l.fn.steps + all_heeded key.add_path (map row_lent l.yielded);
  counted : l.fn.steps ≤ l.steps;
}
