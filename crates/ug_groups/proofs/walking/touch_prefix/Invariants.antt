use Rattle.std.proofs.Common.{◌≡◌, ℕ, ◌+◌, ◌≤◌, drop}
use Rattle.std.specs.List.{sum_by}
use Rattle.ug_outbound.specs.declared.key.GroupKey.{GroupKey}
use Rattle.ug_group_rules.specs.Evaluations.{paths_heeded}
use Rattle.ug_groups.specs.Rows.{keys_in}
use Rattle.ug_groups.specs.TableChanges.{by_keys, changes_to, key_at, with_changes}
use Rattle.ug_groups.proofs.walking.touch_prefix.Given as goal

-- those so far with those that are left
abbrev pub invariant-loop-g : goal.invariant-loop-g
invariant-loop-g g l = record {
  same : (h : ℕ) → key_at h l.subgroups ≡ key_at h l.fn.subgroups;
  rows : by_keys (λ key. with_changes (changes_to l.fn.world l.fn.prefix l.fn.before l.fn.paths key)) (drop l.g-index (keys_in l.fn.subgroups)) l.subgroups
      ≡ by_keys (λ key. with_changes (changes_to l.fn.world l.fn.prefix l.fn.before l.fn.paths key)) (keys_in l.fn.subgroups) l.fn.subgroups;
  count : l.steps + sum_by (λ (key : GroupKey). paths_heeded key.add_path l.fn.paths) (drop l.g-index (keys_in l.fn.subgroups)) ≡ l.fn.steps + sum_by (λ (key : GroupKey). paths_heeded key.add_path l.fn.paths) (keys_in l.fn.subgroups);
  counted : l.fn.steps ≤ l.steps;
}
