use Rattle.std.proofs.Common.{◌≡◌, ℕ, ◌+◌, ◌≤◌, List, drop}
use Rattle.std.specs.List.{sum_by}
use Rattle.ug_outbound.specs.declared.key.GroupKey.{GroupKey}
use Rattle.ug_group_rules.specs.Evaluations.{all_heeded}
use Rattle.ug_groups.specs.TableChanges.{HaveKeys, by_keys, changes_of, key_at, with_changes}
use Rattle.ug_groups.proofs.walking.touch_keys.Given as goal

-- those so far with those that are left
abbrev pub invariant-loop-g : goal.invariant-loop-g
invariant-loop-g g l = record {
  same : (h : ℕ) → key_at h l.subgroups ≡ key_at h l.fn.subgroups;
  rows : (keys : List GroupKey) → HaveKeys l.groups l.fn.subgroups keys
      → by_keys (λ key. with_changes (changes_of l.fn.world l.fn.world.routes key)) (drop l.g-index keys) l.subgroups ≡ by_keys (λ key. with_changes (changes_of l.fn.world l.fn.world.routes key)) keys l.fn.subgroups;
  count : (keys : List GroupKey) → HaveKeys l.groups l.fn.subgroups keys
      → l.steps + sum_by (λ (key : GroupKey). all_heeded key.add_path l.fn.world.routes) (drop l.g-index keys) ≡ l.fn.steps + sum_by (λ (key : GroupKey). all_heeded key.add_path l.fn.world.routes) keys;
  counted : l.fn.steps ≤ l.steps;
}
