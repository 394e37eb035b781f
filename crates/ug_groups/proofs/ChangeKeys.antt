-- The keys of changes.
use Rattle.std.proofs.Common.{◌≡◌, Bool, true, false, not, List, [], ◌∷◌, None, refl, sym, ◌∙◌, ap, subst}
use Rattle.std.specs.Prelude.{◌==◌, if◌then◌else◌}
use Rattle.std.specs.List.{AllByRecursion, fold}
use Rattle.std.specs.Map.{keys_of}
use Rattle.std.specs.BTreeMap.{insert_entry}
use Rattle.ug_types.specs.Ip.{IpPrefix, same_family}
use Rattle.ug_types.specs.declared.key.Key.{Key}
use Rattle.ug_types.specs.declared.family.Family.{Family}
use Rattle.ug_types.specs.declared.family.Family.TheVariants.{V4, V6}
use Rattle.ug_types.specs.contracts.family.FamilyPartialEq.TheImpl as family_eq
use Rattle.ug_types.specs.declared.route.Path.{Path}
use Rattle.ug_outbound.specs.declared.key.GroupKey.{GroupKey}
use Rattle.ug_outbound.specs.Outbound.{out}
use Rattle.ug_world.specs.World.{World}
use Rattle.ug_adjout.specs.TableLaws.{inserted_all}
use Rattle.ug_pack.specs.Ready.{key_order, IsKeyOf}
use Rattle.ug_pack.proofs.Keys.{key_total, key_exact}
use Rattle.ug_groups.specs.TableChanges.{Changes, IsOwnKey, clearing, with_each_path, changes_by, changes_to}

-- ---- families

pub family-test : (a b : Family) → family_eq.ghosts.eq a b ≡ same_family a b
family-test V4 V4 = refl
family-test V4 V6 = refl
family-test V6 V4 = refl
family-test V6 V6 = refl

pub family-is : (a b : Family) → same_family a b ≡ true → a ≡ b
family-is V4 V4 e = refl
family-is V6 V6 e = refl
family-is V4 V6 e = absurd cc
family-is V6 V4 e = absurd cc

-- a prefix of another family changes nothing,
pub no-changes : (w : World) (prefix : IpPrefix) (before : List Key) (paths : List Path) (group : GroupKey) → same_family group.family prefix.family ≡ false → changes_to w prefix before paths group ≡ []
no-changes w prefix before paths group e = ap (λ (b : Bool). if b then changes_by group.add_path group w prefix before paths else []) e

-- and one of its own what is made of the paths
pub own-changes : (w : World) (prefix : IpPrefix) (before : List Key) (paths : List Path) (group : GroupKey) (b : Bool) → same_family group.family prefix.family ≡ true → group.add_path ≡ b
    → changes_to w prefix before paths group ≡ changes_by b group w prefix before paths
own-changes w prefix before paths group b e add =
    ap (λ (t : Bool). if t then changes_by group.add_path group w prefix before paths else []) e ∙ ap (λ (a : Bool). changes_by a group w prefix before paths) add

-- ---- keys

cleared_own : (P : Key → Type 0) (changes : Changes) (keys : List Key) → AllByRecursion P (keys_of changes) → AllByRecursion P keys
    → AllByRecursion P (keys_of (fold (λ (changes : Changes) (q : Key). insert_entry key_order changes q None) changes keys))
cleared_own P changes [] so more = so
cleared_own P changes (q ∷ keys) so more =
    cleared_own P (insert_entry key_order changes q None) keys (inserted_all key_total key_exact P q None changes more.0 so) more.1

pub each-own : (group : GroupKey) (w : World) (prefix : IpPrefix) (before : List Key) (paths : List Path) → AllByRecursion (IsOwnKey prefix) before → AllByRecursion (λ (p : Path). (p.id == 0) ≡ false) paths
    → AllByRecursion (IsOwnKey prefix) (keys_of (with_each_path group w prefix (clearing before) paths))
each-own group w prefix before [] own ids = cleared_own (IsOwnKey prefix) [] before tt own
each-own group w prefix before (p ∷ paths) own ids =
    inserted_all key_total key_exact (IsOwnKey prefix) (record { prefix = prefix; id = p.id }) (out group w.tables w.local prefix p) (with_each_path group w prefix (clearing before) paths) (refl, ids.0)
    (each-own group w prefix before paths own ids.1)

of_keys : (P : Key → Type 0) (changes : Changes) → AllByRecursion P (keys_of changes) → AllByRecursion (λ c. P c.0) changes
of_keys P [] all = tt
of_keys P (c ∷ changes) all = (all.0, of_keys P changes all.1)

own_key : (group : GroupKey) (prefix : IpPrefix) (q : Key) → group.add_path ≡ true → same_family group.family prefix.family ≡ true → IsOwnKey prefix q → IsKeyOf group.family group.add_path q
own_key group prefix q add same own = record {
  family_is = ap (λ (p : IpPrefix). p.family) own.0 ∙ sym (family-is group.family prefix.family same);
  id_is = own.1 ∙ ap not (sym add);
}

all_own : (group : GroupKey) (prefix : IpPrefix) (keys : List Key) → group.add_path ≡ true → same_family group.family prefix.family ≡ true → AllByRecursion (IsOwnKey prefix) keys
    → AllByRecursion (IsKeyOf group.family group.add_path) keys
all_own group prefix [] add same own = tt
all_own group prefix (q ∷ keys) add same own = (own_key group prefix q add same own.0, all_own group prefix keys add same own.1)

-- with ADD-PATH they are keys of the group key's sessions
pub each-key : (group : GroupKey) (w : World) (prefix : IpPrefix) (before : List Key) (paths : List Path) (changes : Changes) → changes ≡ with_each_path group w prefix (clearing before) paths → group.add_path ≡ true
    → same_family group.family prefix.family ≡ true → AllByRecursion (IsOwnKey prefix) before → AllByRecursion (λ (p : Path). (p.id == 0) ≡ false) paths
    → AllByRecursion (λ c. IsKeyOf group.family group.add_path c.0) changes
each-key group w prefix before paths changes is add same own ids =
    of_keys (IsKeyOf group.family group.add_path) changes
    (all_own group prefix (keys_of changes) add same (subst (λ (cs : Changes). AllByRecursion (IsOwnKey prefix) (keys_of cs)) (sym is) (each-own group w prefix before paths own ids)))
