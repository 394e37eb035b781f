-- What goes out of the paths of one prefix is what a group key wants under its keys, and nothing is wanted beside them.
use Rattle.std.proofs.Common.{◌≡◌, ℕ, Bool, true, false, List, [], ◌∷◌, Option, Some, None, refl, sym, ◌∙◌, ap, subst}
use Rattle.std.specs.Prelude.{◌==◌, ◌||◌, ◌&&◌, find, cond, is_some, option_and_then, if◌then◌else◌}
use Rattle.std.specs.Option.{option_map}
use Rattle.std.specs.List.{AllByRecursion, fold}
use Rattle.std.specs.List.Sorted.{IsStrictlySortedBy}
use Rattle.std.specs.Map.{keys_of}
use Rattle.std.specs.BTreeMap.{insert_entry, is_at}
use Rattle.std.proofs.lemmas.Bool.{eqb-true, eq-eqb}
use Rattle.std.proofs.lemmas.Map.Keys.{sorted_head, sorted_tail}
use Rattle.ug_types.specs.Ip.{IpPrefix, same_family}
use Rattle.ug_types.specs.declared.key.Key.{Key}
use Rattle.ug_types.specs.declared.route.Path.{Path}
use Rattle.ug_types.specs.declared.route.OutAttrs.{OutAttrs}
use Rattle.ug_outbound.specs.declared.key.GroupKey.{GroupKey}
use Rattle.ug_outbound.specs.Outbound.{out, communities_allow, reflection_allows, finished, reflected, mapped_towards}
use Rattle.ug_policy.specs.Named.{is_permitted}
use Rattle.ug_policy.specs.Filters.{filter_permits}
use Rattle.ug_world.specs.World.{World, paths_to}
use Rattle.ug_world.specs.Private.{path_at, wanted}
use Rattle.ug_adjout.specs.Tables.{has, value_at, IsTable}
use Rattle.ug_adjout.specs.TableLaws.{at_itself, one_key, value_at-other, value_at-here, none_above, with_value-sorted, inserted_all, has-keys_of, has_from_all}
use Rattle.ug_pack.specs.Ready.{key_order}
use Rattle.ug_pack.proofs.Keys.{key_total, key_exact}
use Rattle.ug_group_rules.proofs.TouchedKeys.{no-keys}
use Rattle.ug_groups.specs.TableChanges.{Changes, clearing, with_each_path, of_first, changes_by, changes_to}
use Rattle.ug_groups.proofs.ChangeKeys.{own-changes}

-- ---- tables

put_sorted : (changes : Changes) (q : Key) (value : Option OutAttrs) → IsTable key_order changes → IsTable key_order (insert_entry key_order changes q value)
put_sorted changes q value sorted = with_value-sorted key_total key_exact changes q (Some value) sorted

put_here : (changes : Changes) (q : Key) (value : Option OutAttrs) → IsTable key_order changes → value_at key_order (insert_entry key_order changes q value) q ≡ Some value
put_here changes q value sorted = value_at-here key_total key_exact changes q (Some value) sorted

put_other : (changes : Changes) (k q : Key) (value : Option OutAttrs) → is_at (key_order q) k ≡ false → value_at key_order (insert_entry key_order changes k value) q ≡ value_at key_order changes q
put_other changes k q value apart = value_at-other key_total key_exact changes k q (Some value) apart

-- each row of a table is found by its key
all_found : (P : Key → Option OutAttrs → Type 0) (changes : Changes) → IsTable key_order changes → ((q : Key) (value : Option OutAttrs) → value_at key_order changes q ≡ Some value → P q value)
    → AllByRecursion (λ c. P c.0 c.1) changes
all_found P [] sorted h = tt
all_found P (c ∷ changes) sorted h = (
  h c.0 c.1 (ap (λ (b : Bool). cond b (Some c.1) (value_at key_order changes c.0)) (at_itself key_total key_exact c.0)),
  all_found P changes (sorted_tail key_order c.0 (keys_of changes) sorted) (λ q value at. h q value (behind q value at)),
)
  where
    behind : (q : Key) (value : Option OutAttrs) → value_at key_order changes q ≡ Some value → value_at key_order (c ∷ changes) q ≡ Some value
    behind q value at = by (is_at (key_order q) c.0) refl
      where
        by : (b : Bool) → is_at (key_order q) c.0 ≡ b → cond b (Some c.1) (value_at key_order changes q) ≡ Some value
        by false e = at
        by true e =
            let none : value_at key_order changes c.0 ≡ None = none_above key_total key_exact c.0 changes (sorted_head key_order c.0 (keys_of changes) sorted) in
            let same : q ≡ c.0 = one_key key_total key_exact q c.0 e in
            absurd (let z = sym at ∙ ap (value_at key_order changes) same ∙ none in cc)

-- ---- keys that are cleared

abbrev cleared : Changes → List Key → Changes
cleared changes keys = fold (λ (changes : Changes) (q : Key). insert_entry key_order changes q None) changes keys

pub cleared_sorted : (changes : Changes) (keys : List Key) → IsTable key_order changes → IsTable key_order (cleared changes keys)
cleared_sorted changes [] sorted = sorted
cleared_sorted changes (k ∷ keys) sorted = cleared_sorted (insert_entry key_order changes k None) keys (put_sorted changes k None sorted)

AreCleared : Changes → Type 0
AreCleared changes = (q : Key) (value : Option OutAttrs) → value_at key_order changes q ≡ Some value → value ≡ None

put_cleared : (changes : Changes) (k : Key) → IsTable key_order changes → AreCleared changes → AreCleared (insert_entry key_order changes k None)
unfolding AreCleared
put_cleared changes k sorted are q value at = by (is_at (key_order q) k) refl
  where
    by : (b : Bool) → is_at (key_order q) k ≡ b → value ≡ None
    by true e =
        let same : q ≡ k = one_key key_total key_exact q k e in
        let here : value_at key_order (insert_entry key_order changes k None) k ≡ Some None = put_here changes k None sorted in
        let found : value_at key_order (insert_entry key_order changes k None) k ≡ Some value = subst (λ (z : Key). value_at key_order (insert_entry key_order changes k None) z ≡ Some value) same at in cc
    by false e = are q value (sym (put_other changes k q None e) ∙ at)

cleared_none : (changes : Changes) (keys : List Key) → IsTable key_order changes → AreCleared changes → AreCleared (cleared changes keys)
cleared_none changes [] sorted are = are
cleared_none changes (k ∷ keys) sorted are = cleared_none (insert_entry key_order changes k None) keys (put_sorted changes k None sorted) (put_cleared changes k sorted are)

nothing_cleared : AreCleared []
unfolding AreCleared
nothing_cleared q value at = absurd cc

record IsBeside (changes : Changes) (keys : List Key) (q : Key) : Type 0 where
  among : has key_order keys q ≡ false
  absent : value_at key_order changes q ≡ None

cleared_beside : (changes : Changes) (keys : List Key) (q : Key) → IsTable key_order changes → value_at key_order (cleared changes keys) q ≡ None → IsBeside changes keys q
cleared_beside changes [] q sorted absent = record { among = refl; absent = absent }
cleared_beside changes (k ∷ keys) q sorted absent =
    by (is_at (key_order q) k) refl (cleared_beside (insert_entry key_order changes k None) keys q (put_sorted changes k None sorted) absent)
  where
    by : (b : Bool) → is_at (key_order q) k ≡ b → IsBeside (insert_entry key_order changes k None) keys q → IsBeside changes (k ∷ keys) q
    by true e rest =
        let same : q ≡ k = one_key key_total key_exact q k e in
        absurd (let z = sym (put_here changes k None sorted) ∙ ap (value_at key_order (insert_entry key_order changes k None)) (sym same) ∙ rest.absent in cc)
    by false e rest = record { among = ap (λ (b : Bool). b || has key_order keys q) e ∙ rest.among; absent = sym (put_other changes k q None e) ∙ rest.absent }

cleared_under : (P : Key → Type 0) (changes : Changes) (keys : List Key) → AllByRecursion P (keys_of changes) → AllByRecursion P keys → AllByRecursion P (keys_of (cleared changes keys))
cleared_under P changes [] so more = so
cleared_under P changes (k ∷ keys) so more = cleared_under P (insert_entry key_order changes k None) keys (inserted_all key_total key_exact P k None changes more.0 so) more.1

is_absent : (o : Option (Option OutAttrs)) → is_some o ≡ false → o ≡ None
is_absent None e = refl
is_absent (Some v) e = absurd cc

-- ---- the changes of one prefix

-- what they are, with ADD-PATH and without it
pub record AreOf (b : Bool) (group : GroupKey) (w : World) (prefix : IpPrefix) (before : List Key) (paths : List Path) (changes : Changes) : Type 0 where
  pub sorted : IsStrictlySortedBy key_order (keys_of changes)
  pub under : AllByRecursion (λ (q : Key). q.prefix ≡ prefix) (keys_of changes)
  pub values : AllByRecursion (λ c. c.1 ≡ option_and_then (out group w.tables w.local prefix) (path_at b c.0.id paths)) changes
  pub beside : (q : Key) → q.prefix ≡ prefix → has key_order (keys_of changes) q ≡ false → path_at b q.id paths ≡ None
  pub cleared : (q : Key) → q.prefix ≡ prefix → has key_order (keys_of changes) q ≡ false → (b ≡ true → has key_order before q ≡ false) × (b ≡ false → (q.id == 0) ≡ false)

module _ (group : GroupKey) (w : World) (prefix : IpPrefix) (before : List Key) where
  abbrev key_to : ℕ → Key
  key_to id = record { prefix = prefix; id = id }

  ids_apart : (id : ℕ) (q : Key) → q.prefix ≡ prefix → is_at (key_order q) (key_to id) ≡ false → (id == q.id) ≡ false
  ids_apart id q under apart = by (id == q.id) refl
    where
      by : (b : Bool) → (id == q.id) ≡ b → b ≡ false
      by false e = refl
      by true e =
          let number : q.id ≡ id = sym (eqb-true id q.id e) in
          let same : q ≡ key_to id = λ i. record { prefix = under i; id = number i } in
          absurd (let z = sym (at_itself key_total key_exact q) ∙ ap (λ (k : Key). is_at (key_order q) k) same ∙ apart in cc)

  -- ---- with ADD-PATH

  abbrev each : List Path → Changes
  each paths = with_each_path group w prefix (clearing before) paths

  each_sorted : (paths : List Path) → IsTable key_order (each paths)
  each_sorted [] = cleared_sorted [] before no-keys
  each_sorted (p ∷ paths) = put_sorted (each paths) (key_to p.id) (out group w.tables w.local prefix p) (each_sorted paths)

  each_under : AllByRecursion (λ (q : Key). q.prefix ≡ prefix) before → (paths : List Path) → AllByRecursion (λ (q : Key). q.prefix ≡ prefix) (keys_of (each paths))
  each_under all [] = cleared_under (λ (q : Key). q.prefix ≡ prefix) [] before tt all
  each_under all (p ∷ paths) =
      inserted_all key_total key_exact (λ (q : Key). q.prefix ≡ prefix) (key_to p.id) (out group w.tables w.local prefix p) (each paths) refl (each_under all paths)

  abbrev going : List Path → ℕ → Option OutAttrs
  going paths id = option_and_then (out group w.tables w.local prefix) (find (λ (p : Path). p.id == id) paths)

  each_value : (paths : List Path) (q : Key) (value : Option OutAttrs) → q.prefix ≡ prefix → value_at key_order (each paths) q ≡ Some value → value ≡ going paths q.id
  unfolding AreCleared
  each_value [] q value under at = cleared_none [] before no-keys nothing_cleared q value at
  each_value (p ∷ paths) q value under at = by (is_at (key_order q) (key_to p.id)) refl (λ rest. each_value paths q value under rest)
    where
      by : (b : Bool) → is_at (key_order q) (key_to p.id) ≡ b → (value_at key_order (each paths) q ≡ Some value → value ≡ going paths q.id) → value ≡ going (p ∷ paths) q.id
      by true e rest =
          let same : q ≡ key_to p.id = one_key key_total key_exact q (key_to p.id) e in
          let here : value_at key_order (each (p ∷ paths)) (key_to p.id) ≡ Some (out group w.tables w.local prefix p) = put_here (each paths) (key_to p.id) (out group w.tables w.local prefix p) (each_sorted paths) in
          let found : value_at key_order (each (p ∷ paths)) (key_to p.id) ≡ Some value = subst (λ (z : Key). value_at key_order (each (p ∷ paths)) z ≡ Some value) same at in
          let is : value ≡ out group w.tables w.local prefix p = cc in
          is
          ∙ ap (λ (b : Bool). option_and_then (out group w.tables w.local prefix) (if b then Some p else find (λ (x : Path). x.id == q.id) paths)) (sym (eq-eqb p.id q.id (sym (ap (λ (k : Key). k.id) same))))
      by false e rest =
          rest (sym (put_other (each paths) (key_to p.id) q (out group w.tables w.local prefix p) e) ∙ at)
          ∙ ap (λ (b : Bool). option_and_then (out group w.tables w.local prefix) (if b then Some p else find (λ (x : Path). x.id == q.id) paths)) (sym (ids_apart p.id q under e))

  each_beside : (paths : List Path) (q : Key) → q.prefix ≡ prefix → value_at key_order (each paths) q ≡ None → (find (λ (p : Path). p.id == q.id) paths ≡ None) × (has key_order before q ≡ false)
  each_beside [] q under absent = (refl, (cleared_beside [] before q no-keys absent).among)
  each_beside (p ∷ paths) q under absent = by (is_at (key_order q) (key_to p.id)) refl (λ rest. each_beside paths q under rest)
    where
      by : (b : Bool) → is_at (key_order q) (key_to p.id) ≡ b → (value_at key_order (each paths) q ≡ None → (find (λ (x : Path). x.id == q.id) paths ≡ None) × (has key_order before q ≡ false))
          → (find (λ (x : Path). x.id == q.id) (p ∷ paths) ≡ None) × (has key_order before q ≡ false)
      by true e rest =
          let same : q ≡ key_to p.id = one_key key_total key_exact q (key_to p.id) e in
          absurd
          (let z = sym (put_here (each paths) (key_to p.id) (out group w.tables w.local prefix p) (each_sorted paths)) ∙ ap (value_at key_order (each (p ∷ paths))) (sym same) ∙ absent in cc)
      by false e rest =
          let more = rest (sym (put_other (each paths) (key_to p.id) q (out group w.tables w.local prefix p) e) ∙ absent) in
          (ap (λ (b : Bool). if b then Some p else find (λ (x : Path). x.id == q.id) paths) (ids_apart p.id q under e) ∙ more.0, more.1)

  each_of : (paths : List Path) → AllByRecursion (λ (q : Key). q.prefix ≡ prefix) before → AreOf true group w prefix before paths (each paths)
  each_of paths all =
      let under : AllByRecursion (λ (q : Key). q.prefix ≡ prefix) (keys_of (each paths)) = each_under all paths in
      let absent : (q : Key) → has key_order (keys_of (each paths)) q ≡ false → value_at key_order (each paths) q ≡ None =
      λ q e. is_absent (value_at key_order (each paths) q) (sym (has-keys_of key_total key_exact (each paths) q) ∙ e)
      in
      record {
        sorted = each_sorted paths;
        under = under;
        values =
            all_found (λ q value. value ≡ going paths q.id) (each paths) (each_sorted paths)
            (λ q value at.
            each_value paths q value
            (has_from_all key_total key_exact (λ (k : Key). k.prefix ≡ prefix) (keys_of (each paths)) under q (has-keys_of key_total key_exact (each paths) q ∙ ap is_some at)) at);
        beside = λ q same e. (each_beside paths q same (absent q e)).0;
        cleared = λ q same e. (λ flag. (each_beside paths q same (absent q e)).1, λ flag. absurd cc);
      }

  -- ---- without it

  first_out : (paths : List Path) → of_first group w prefix paths ≡ option_and_then (out group w.tables w.local prefix) (path_at false 0 paths)
  first_out [] = refl
  first_out (p ∷ paths) = refl

  first_beside : (paths : List Path) (q : Key) → (q.id == 0) ≡ false → path_at false q.id paths ≡ None
  first_beside [] q apart = refl
  first_beside (p ∷ paths) q apart = ap (λ (b : Bool). if b then Some p else None) apart

  turned : (a b : ℕ) → (a == b) ≡ false → (b == a) ≡ false
  turned a b apart = by (b == a) refl
    where
      by : (c : Bool) → (b == a) ≡ c → c ≡ false
      by false e = refl
      by true e = absurd (let z = sym (eq-eqb a b (sym (eqb-true b a e))) ∙ apart in cc)

  not_zero : (q : Key) (value : Option OutAttrs) → q.prefix ≡ prefix → has key_order (keys_of ((key_to 0, value) ∷ [])) q ≡ false → (q.id == 0) ≡ false
  not_zero q value under absent = turned 0 q.id (ids_apart 0 q under (no_more (is_at (key_order q) (key_to 0)) absent))
    where
      no_more : (b : Bool) → (b || false) ≡ false → b ≡ false
      no_more true e = absurd cc
      no_more false e = refl

  one_sorted : (value : Option OutAttrs) → IsStrictlySortedBy key_order (keys_of ((key_to 0, value) ∷ []))
  unfolding IsStrictlySortedBy
  one_sorted value = (tt, tt)

  first_of : (paths : List Path) → AreOf false group w prefix before paths (changes_by false group w prefix before paths)
  first_of paths = record {
    sorted = one_sorted (of_first group w prefix paths);
    under = (refl, tt);
    values = (first_out paths, tt);
    beside = λ q same e. first_beside paths q (not_zero q (of_first group w prefix paths) same e);
    cleared = λ q same e. (λ flag. absurd cc, λ flag. not_zero q (of_first group w prefix paths) same e);
  }

  by_flag : (b : Bool) (paths : List Path) → AllByRecursion (λ (q : Key). q.prefix ≡ prefix) before → AreOf b group w prefix before paths (changes_by b group w prefix before paths)
  by_flag true paths all = each_of paths all
  by_flag false paths all = first_of paths

  -- where the prefix is of the key's family
  pub changes-of : (paths : List Path) → AllByRecursion (λ (q : Key). q.prefix ≡ prefix) before → same_family group.family prefix.family ≡ true
      → AreOf group.add_path group w prefix before paths (changes_to w prefix before paths group)
  changes-of paths all own =
      subst (AreOf group.add_path group w prefix before paths) (sym (own-changes w prefix before paths group group.add_path own refl)) (by_flag group.add_path paths all)

-- of another family nothing is wanted
none_out : (group : GroupKey) (w : World) (prefix : IpPrefix) (path : Path) → same_family group.family prefix.family ≡ false → out group w.tables w.local prefix path ≡ None
unfolding out
none_out group w prefix path other =
    ap
    (λ (b : Bool).
    if b && (communities_allow group.kind path.attrs.communities
    && (reflection_allows group.kind path.learned && (is_permitted w.tables.lists prefix group.list && filter_permits group.filter prefix)))
    then option_map (finished group w.local path.learned) (mapped_towards group.family w.tables group.map (reflected w.local group.kind path.learned path.attrs) prefix)
    else None)
    other

pub none-wanted : (group : GroupKey) (w : World) (q : Key) → same_family group.family q.prefix.family ≡ false → wanted group w q ≡ None
unfolding wanted
none-wanted group w q other = by (path_at group.add_path q.id (paths_to w.routes q.prefix))
  where
    by : (o : Option Path) → option_and_then (out group w.tables w.local q.prefix) o ≡ None
    by None = refl
    by (Some path) = none_out group w q.prefix path other

-- ---- what the world wants of it

both_all : (P : Key → Type 0) (Q R : Key × Option OutAttrs → Type 0) (changes : Changes) → AllByRecursion P (keys_of changes) → AllByRecursion Q changes → ((c : Key × Option OutAttrs) → P c.0 → Q c → R c)
    → AllByRecursion R changes
both_all P Q R [] one other h = tt
both_all P Q R (c ∷ changes) one other h = (h c one.0 other.0, both_all P Q R changes one.1 other.1 h)

wanted_under : (group : GroupKey) (w : World) (prefix : IpPrefix) (paths : List Path) (q : Key) → paths_to w.routes prefix ≡ paths → q.prefix ≡ prefix
    → option_and_then (out group w.tables w.local prefix) (path_at group.add_path q.id paths) ≡ wanted group w q
unfolding wanted
wanted_under group w prefix paths q are under =
    ap (λ (ps : List Path). option_and_then (out group w.tables w.local prefix) (path_at group.add_path q.id ps)) (sym are)
    ∙ ap (λ (p : IpPrefix). option_and_then (out group w.tables w.local p) (path_at group.add_path q.id (paths_to w.routes p))) (sym under)

-- where these are the paths of the prefix
pub changes-wanted : (group : GroupKey) (w : World) (prefix : IpPrefix) (before : List Key) (paths : List Path) (changes : Changes) → paths_to w.routes prefix ≡ paths → AreOf group.add_path group w prefix before paths changes
    → AllByRecursion (λ c. c.1 ≡ wanted group w c.0) changes
changes-wanted group w prefix before paths changes are so =
    both_all (λ (q : Key). q.prefix ≡ prefix) (λ c. c.1 ≡ option_and_then (out group w.tables w.local prefix) (path_at group.add_path c.0.id paths)) (λ c. c.1 ≡ wanted group w c.0) changes so.under so.values
    (λ c under value. value ∙ wanted_under group w prefix paths c.0 are under)
