-- Rows that desire what goes out of the paths of a prefix.
use Rattle.std.proofs.Common.{◌≡◌, ℕ, Bool, true, false, List, Some, sym, ◌∙◌, ap, subst}
use Rattle.std.specs.Prelude.{◌==◌}
use Rattle.std.specs.List.{AllByRecursion}
use Rattle.ug_types.specs.Ip.{IpPrefix, same_family}
use Rattle.ug_types.specs.declared.key.Key.{Key}
use Rattle.ug_types.specs.declared.route.Path.{Path}
use Rattle.ug_outbound.specs.declared.key.GroupKey.{GroupKey}
use Rattle.ug_world.specs.World.{World}
use Rattle.ug_pack.specs.Ready.{IsKeyOf}
use Rattle.ug_groups.specs.Rows.{Rows}
use Rattle.ug_groups.specs.declared.reach.Reach.{Reach}
use Rattle.ug_groups.specs.TableChanges.{Changes, HasKey, IsOwnKey, clearing, with_each_path, changes_by, changes_to, key_at, number_of, reached, with_changes}
use Rattle.ug_groups.proofs.Reached.{reached-none}
use Rattle.ug_groups.proofs.ChangeKeys.{no-changes, own-changes, each-key}

pub one-key : (g h : ℕ) (rows : Rows) (one other : GroupKey) → g ≡ h → key_at g rows ≡ Some one → key_at h rows ≡ Some other → one ≡ other
one-key g h rows one other same is also = let at : key_at h rows ≡ Some one = subst (λ (k : ℕ). key_at k rows ≡ Some one) same is in cc

module _ (reach : Reach) (g : ℕ) (number : g ≡ number_of reach) (w : World) (prefix : IpPrefix) (before : List Key) (paths : List Path) (old : Rows) (group : GroupKey) (is : key_at g old ≡ Some group) where
  -- a prefix of another family leaves them as they are
  pub other-touched : same_family group.family prefix.family ≡ false → (key : GroupKey) → key_at (number_of reach) old ≡ Some key → old ≡ reached reach key (with_changes (changes_to w prefix before paths key)) old
  other-touched other key at =
      let same = one-key g (number_of reach) old group key number is at in
      sym (reached-none reach key old)
      ∙ ap (λ (cs : Changes). reached reach key (with_changes cs) old) (sym (ap (changes_to w prefix before paths) (sym same) ∙ no-changes w prefix before paths group other))

  pub own-touched : (b : Bool) (changes : Changes) → same_family group.family prefix.family ≡ true → group.add_path ≡ b → changes ≡ changes_by b group w prefix before paths
      → (new : Rows) → ((key : GroupKey) → key_at (number_of reach) old ≡ Some key → new ≡ reached reach key (with_changes changes) old)
      → (key : GroupKey) → key_at (number_of reach) old ≡ Some key → new ≡ reached reach key (with_changes (changes_to w prefix before paths key)) old
  own-touched b changes own add made new so key at =
      let same = one-key g (number_of reach) old group key number is at in
      so key at ∙ ap (λ (cs : Changes). reached reach key (with_changes cs) old) (made ∙ sym (own-changes w prefix before paths group b own add) ∙ ap (changes_to w prefix before paths) same)

  -- it has one key
  pub same-flag : (P : GroupKey → Type 0) → HasKey (number_of reach) old P → P group
  same-flag P has = subst P (sym (one-key g (number_of reach) old group has.key number is has.is)) has.so

  pub has-key : (P : GroupKey → Type 0) → P group → HasKey (number_of reach) old P
  has-key P so = record { key = group; is = subst (λ (k : ℕ). key_at k old ≡ Some group) number is; so = so }

  pub each-has : (changes : Changes) → HasKey (number_of reach) old (λ key. key.add_path ≡ true) → same_family group.family prefix.family ≡ true → changes ≡ with_each_path group w prefix (clearing before) paths
      → AllByRecursion (IsOwnKey prefix) before → AllByRecursion (λ (p : Path). (p.id == 0) ≡ false) paths
      → HasKey (number_of reach) old (λ key. AllByRecursion (λ c. IsKeyOf key.family key.add_path c.0) changes)
  each-has changes has own made keys ids =
      has-key (λ key. AllByRecursion (λ c. IsKeyOf key.family key.add_path c.0) changes)
      (each-key group w prefix before paths changes made (same-flag (λ key. key.add_path ≡ true) has) own keys ids)
