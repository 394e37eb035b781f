-- An event about the paths of a prefix: what goes out of them now is all that a group key wants otherwise than before.
use Rattle.std.proofs.Common.{◌≡◌, Bool, true, false, List, [], ◌∷◌, Option, Some, None, refl, sym, ◌∙◌, ap, subst}
use Rattle.std.specs.Prelude.{◌==◌, nat_le, if◌then◌else◌}
use Rattle.std.specs.List.{AllByRecursion}
use Rattle.ug_types.specs.Ip.{IpPrefix, same_family}
use Rattle.ug_types.specs.Keys.{same_prefix}
use Rattle.ug_types.specs.declared.key.Key.{Key}
use Rattle.ug_types.specs.declared.route.Path.{Path}
use Rattle.ug_policy.specs.Order.{placed, ascending}
use Rattle.ug_events.specs.Events.{Happening, HasPaths, HasNone}
use Rattle.ug_outbound.specs.declared.key.GroupKey.{GroupKey}
use Rattle.ug_speaker.proofs.SameKeys.{prefix-is}
use Rattle.ug_speaker.proofs.PathKeys.{path_among}
use Rattle.ug_world.specs.World.{World, paths_to}
use Rattle.ug_world.specs.Private.{own_keys, keys_to, path_at, wanted}
use Rattle.ug_world.specs.After.{after}
use Rattle.ug_world.specs.Good.{IsGoodWorld}
use Rattle.ug_world.proofs.Keeping.{kept}
use Rattle.ug_adjout.specs.Tables.{has, value_at}
use Rattle.ug_pack.specs.Ready.{key_order}
use Rattle.ug_group_rules.specs.Packets.{Rows as TableRows}
use Rattle.ug_group_rules.specs.Machine.{Subgroup, retabled}
use Rattle.ug_group_rules.specs.Touched.{IsKeptIn}
use Rattle.ug_group_rules.proofs.TouchedKeys.{no-keys}
use Rattle.ug_group_rules.proofs.WantedTables.{rows-value, has-among, without-path}
use Rattle.ug_groups.specs.TableChanges.{AreNumbered, Changes, IsOwnKey, IsUnder, changes_to, keys_before, with_changes}
use Rattle.ug_groups.proofs.EventCases.{by-prefix}
use Rattle.ug_groups.proofs.KeyLists.{all-weaker}
use Rattle.ug_groups.proofs.ChangeKeys.{no-changes}
use Rattle.ug_groups.proofs.Walked.{paths-numbered}
use Rattle.ug_groups.proofs.Retabled.{AreWanted, changed-table}
use Rattle.ug_groups.proofs.OnePrefix.{AreOf, changes-of, changes-wanted, none-wanted}

-- ---- the keys that there were

placed_all : (P : Path → Type 0) (x : Path) (ys : List Path) → P x → AllByRecursion P ys → AllByRecursion P (placed (λ (p : Path). p.id) x ys)
placed_all P x [] one all = (one, tt)
placed_all P x (y ∷ ys) one all = by (nat_le x.id y.id) (placed_all P x ys one all.1)
  where
    by : (b : Bool) → AllByRecursion P (placed (λ (p : Path). p.id) x ys) → AllByRecursion P (if b then x ∷ y ∷ ys else y ∷ placed (λ (p : Path). p.id) x ys)
    by true rest = (one, all)
    by false rest = (all.0, rest)

ascending_all : (P : Path → Type 0) (xs : List Path) → AllByRecursion P xs → AllByRecursion P (ascending (λ (p : Path). p.id) xs)
ascending_all P [] all = tt
ascending_all P (x ∷ xs) all = placed_all P x (ascending (λ (p : Path). p.id) xs) all.0 (ascending_all P xs all.1)

own_all : (prefix : IpPrefix) (paths : List Path) → AreNumbered paths → AllByRecursion (IsOwnKey prefix) (own_keys prefix paths)
own_all prefix [] numbered = tt
own_all prefix (p ∷ paths) numbered = ((refl, numbered.0), own_all prefix paths numbered.1)

-- with ADD-PATH, in a good world
pub before-own : (w : World) (prefix : IpPrefix) → IsGoodWorld w → AllByRecursion (IsOwnKey prefix) (keys_to true prefix (paths_to w.routes prefix))
before-own w prefix good =
    own_all prefix (ascending (λ (p : Path). p.id) (paths_to w.routes prefix)) (ascending_all (λ (p : Path). (p.id == 0) ≡ false) (paths_to w.routes prefix) (paths-numbered w.routes prefix good.routes))

none_before : (w : World) (prefix : IpPrefix) (q : Key) (group : GroupKey) (b : Bool) → group.add_path ≡ b → q.prefix ≡ prefix → same_prefix q.prefix prefix ≡ true
    → (b ≡ true → has key_order (keys_to true prefix (paths_to w.routes prefix)) q ≡ false) × (b ≡ false → (q.id == 0) ≡ false) → wanted group w q ≡ None
none_before w prefix q group b add under same absent = without-path group w q (ap (λ (a : Bool). path_at a q.id (paths_to w.routes q.prefix)) add ∙ ap (λ (p : IpPrefix). path_at b q.id (paths_to w.routes p)) under ∙ by b absent)
  where
    at_first : (paths : List Path) → (q.id == 0) ≡ false → path_at false q.id paths ≡ None
    at_first [] apart = refl
    at_first (p ∷ paths) apart = ap (λ (t : Bool). if t then Some p else None) apart

    found : (paths : List Path) (o : Option Path) → path_at true q.id paths ≡ o → has key_order (keys_to true prefix paths) q ≡ false → o ≡ None
    found paths None e out_of = refl
    found paths (Some path) e out_of =
        let there = path_among true q.prefix prefix q.id paths path same e in
        absurd (let z = sym out_of ∙ has-among (keys_to true prefix paths) q ∙ there in cc)

    by : (b : Bool) → (b ≡ true → has key_order (keys_to true prefix (paths_to w.routes prefix)) q ≡ false) × (b ≡ false → (q.id == 0) ≡ false) → path_at b q.id (paths_to w.routes prefix) ≡ None
    by true absent = found (paths_to w.routes prefix) (path_at true q.id (paths_to w.routes prefix)) refl (absent.0 refl)
    by false absent = at_first (paths_to w.routes prefix) (absent.1 refl)

-- ---- beside the prefix

kept_apart : (e : Happening) (prefix : IpPrefix) (w : World) (group : GroupKey) (q : Key) → IsUnder prefix e → same_prefix q.prefix prefix ≡ false → wanted group (after w e) q ≡ wanted group w q
kept_apart e prefix w group q about apart =
    by-prefix (λ (f : Happening). wanted group (after w f) q ≡ wanted group w q) prefix e about (λ paths. kept w (HasPaths prefix paths) group q apart) (kept w (HasNone prefix) group q apart)

beside : (e : Happening) (prefix : IpPrefix) (w : World) (group : GroupKey) (q : Key) → IsUnder prefix e
    → (q.prefix ≡ prefix → same_prefix q.prefix prefix ≡ true → (wanted group (after w e) q ≡ None) × (wanted group w q ≡ None)) → wanted group (after w e) q ≡ wanted group w q
beside e prefix w group q about under = by (same_prefix q.prefix prefix) refl
  where
    by : (b : Bool) → same_prefix q.prefix prefix ≡ b → wanted group (after w e) q ≡ wanted group w q
    by true same = let both = under (prefix-is q.prefix prefix same) same in both.0 ∙ sym both.1
    by false apart = kept_apart e prefix w group q about apart

-- ---- the changes

module _ (e : Happening) (prefix : IpPrefix) (w : World) (about : IsUnder prefix e) (good : IsGoodWorld w) (group : GroupKey) where
  abbrev before : List Key
  before = keys_to true prefix (paths_to w.routes prefix)

  abbrev changes : Changes
  changes = changes_to (after w e) prefix before (paths_to (after w e).routes prefix) group

  of_others : same_family group.family prefix.family ≡ false → AreWanted (after w e) group (wanted group w) changes
  of_others other =
      subst (AreWanted (after w e) group (wanted group w)) (sym (no-changes (after w e) prefix before (paths_to (after w e).routes prefix) group other))
      (record {
        sorted = no-keys;
        values = tt;
        others = λ q absent.
            beside e prefix w group q about
            (λ under same.
            let far : same_family group.family q.prefix.family ≡ false = ap (λ (p : IpPrefix). same_family group.family p.family) under ∙ other in
            (none-wanted group (after w e) q far, none-wanted group w q far));
      })

  of_own : same_family group.family prefix.family ≡ true → AreWanted (after w e) group (wanted group w) changes
  of_own own =
      let are : AreOf group.add_path group (after w e) prefix before (paths_to (after w e).routes prefix) changes =
      changes-of group (after w e) prefix before (paths_to (after w e).routes prefix) (all-weaker (IsOwnKey prefix) (λ (q : Key). q.prefix ≡ prefix) before (λ q so. so.0) (before-own w prefix good)) own
      in
      record {
        sorted = are.sorted;
        values = changes-wanted group (after w e) prefix before (paths_to (after w e).routes prefix) changes refl are;
        others = λ q absent.
            beside e prefix w group q about
            (λ under same. (
              without-path group (after w e) q (ap (λ (p : IpPrefix). path_at group.add_path q.id (paths_to (after w e).routes p)) under ∙ are.beside q under absent),
              none_before w prefix q group group.add_path refl under same (are.cleared q under absent),
            ));
      }

  pub prefix-wanted : AreWanted (after w e) group (wanted group w) changes
  prefix-wanted = by (same_family group.family prefix.family) refl
    where
      by : (b : Bool) → same_family group.family prefix.family ≡ b → AreWanted (after w e) group (wanted group w) changes
      by true own = of_own own
      by false other = of_others other

-- what was desired is what was wanted
pub kept-wanted : (w new : World) (x : Subgroup) (changes : Changes) → IsKeptIn w x → AreWanted new x.key (wanted x.key w) changes → AreWanted new x.key (value_at key_order x.out.desired) changes
kept-wanted w new x cs kept are = record {
  sorted = are.sorted;
  values = are.values;
  others = λ q absent. are.others q absent ∙ sym (ap (λ (rows : TableRows). value_at key_order rows q) kept.desires ∙ rows-value x.key w q);
}

-- so a subgroup has the table that it should have
pub prefix-retabled : (e : Happening) (prefix : IpPrefix) (w : World) → IsUnder prefix e → IsGoodWorld w → (x : Subgroup) → IsKeptIn w x
    → with_changes (changes_to (after w e) prefix (keys_to true prefix (paths_to w.routes prefix)) (paths_to (after w e).routes prefix) x.key) x ≡ retabled (after w e) x
prefix-retabled e prefix w about good x kept =
    let changes = changes_to (after w e) prefix (keys_to true prefix (paths_to w.routes prefix)) (paths_to (after w e).routes prefix) x.key in
    changed-table (after w e) x changes kept.exact kept.shown (kept-wanted w (after w e) x changes kept (prefix-wanted e prefix w about good x.key))

-- the keys that there were, where they are asked for
pub before-all : (b : Bool) (w : World) (prefix : IpPrefix) → IsGoodWorld w → AllByRecursion (IsOwnKey prefix) (keys_before b w prefix)
before-all true w prefix good = before-own w prefix good
before-all false w prefix good = tt
