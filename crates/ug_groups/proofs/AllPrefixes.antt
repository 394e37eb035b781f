-- What goes out of all paths of a world is all that a group key wants.
use Rattle.std.proofs.Common.{◌≡◌, ℕ, Bool, true, false, List, [], ◌∷◌, ◌++◌, Option, Some, None, refl, sym, ◌∙◌, ap, subst}
use Rattle.std.specs.Prelude.{◌||◌, cond, unwrap_or}
use Rattle.std.specs.List.{AllByRecursion}
use Rattle.std.specs.List.Sorted.{IsStrictlySortedBy}
use Rattle.std.specs.Map.{keys_of, lookup, remove_entry}
use Rattle.std.specs.Ordering.{ordering_then, is_eq}
use Rattle.std.specs.declared.cmp.Ordering.{Ordering}
use Rattle.std.specs.declared.cmp.Ordering.TheVariants.{Less}
use Rattle.std.specs.Ordering.{nat_cmp}
use Rattle.std.specs.BTreeMap.{insert_entry, is_at}
use Rattle.std.proofs.lemmas.Map.Keys.{sorted_head, sorted_tail}
use Rattle.ug_types.specs.Ip.{IpPrefix, same_family}
use Rattle.ug_types.specs.Keys.{prefix_cmp, prefix_cmp_total, same_prefix, family_rank}
use Rattle.ug_types.specs.Orders.{key_cmp}
use Rattle.ug_types.specs.OrderLaws.{prefix_cmp-IsAntisymmetric}
use Rattle.ug_types.specs.contracts.family.FamilyOrd.TheImpl as family_ord
use Rattle.ug_types.specs.declared.family.Family.{Family}
use Rattle.ug_types.specs.declared.family.Family.TheVariants.{V4, V6}
use Rattle.ug_types.specs.declared.key.Key.{Key}
use Rattle.ug_types.specs.declared.route.Path.{Path}
use Rattle.ug_types.specs.declared.route.OutAttrs.{OutAttrs}
use Rattle.ug_outbound.specs.declared.key.GroupKey.{GroupKey}
use Rattle.ug_speaker.proofs.SameKeys.{prefix-is}
use Rattle.ug_world.specs.World.{Routes, World, paths_to}
use Rattle.ug_world.specs.Private.{path_at, wanted}
use Rattle.ug_world.proofs.Lookups.{tied}
use Rattle.ug_world.proofs.PrefixOrder.{found_same}
use Rattle.ug_adjout.specs.Tables.{has}
use Rattle.ug_adjout.specs.TableLaws.{at_itself, value_at-here, has-append}
use Rattle.ug_pack.specs.Ready.{key_order}
use Rattle.ug_pack.proofs.Keys.{key_total, key_exact}
use Rattle.ug_group_rules.proofs.TouchedKeys.{no-keys}
use Rattle.ug_group_rules.proofs.WantedTables.{without-path}
use Rattle.ug_groups.specs.TableChanges.{Changes, changes_to, changes_of}
use Rattle.ug_groups.proofs.KeyLists.{all-append, all-weaker}
use Rattle.ug_groups.proofs.ChangeKeys.{no-changes}
use Rattle.ug_groups.proofs.Retabled.{AreWanted}
use Rattle.ug_groups.proofs.OnePrefix.{changes-of, changes-wanted, none-wanted}

-- ---- the order of prefixes

family_order : (a b : Family) → family_ord.ghosts.cmp a b ≡ nat_cmp (family_rank a) (family_rank b)
family_order V4 V4 = refl
family_order V4 V6 = refl
family_order V6 V4 = refl
family_order V6 V6 = refl

order_is : (a b : Key) → key_order a b ≡ key_cmp a b
order_is a b = rw (family_order a.prefix.family b.prefix.family) refl

-- keys of a prefix stand before those of a later one
key_less : (a b : Key) → prefix_cmp a.prefix b.prefix ≡ Less → key_order a b ≡ Less
key_less a b e = order_is a b ∙ ap (λ (o : Ordering). ordering_then o (nat_cmp a.id b.id)) e

not_same : (p q : IpPrefix) → prefix_cmp p q ≡ Less → same_prefix q p ≡ false
not_same p q less = by (same_prefix q p) refl
  where
    by : (b : Bool) → same_prefix q p ≡ b → b ≡ false
    by false e = refl
    by true e =
        let same : q ≡ p = prefix-is q p e in
        let itself : is_at (prefix_cmp p) p ≡ true = at_itself prefix_cmp_total prefix_cmp-IsAntisymmetric p in
        absurd (let z = sym itself ∙ ap (λ (r : IpPrefix). is_at (prefix_cmp p) r) (sym same) ∙ ap is_eq less in cc)

-- ---- the paths of each

pub AreThere : Routes → Routes → Type 0
AreThere whole routes = AllByRecursion (λ (r : IpPrefix × List Path). paths_to whole r.0 ≡ r.1) routes

behind : (p : IpPrefix) (paths : List Path) (whole routes : Routes) → AllByRecursion (λ (q : IpPrefix). prefix_cmp p q ≡ Less) (keys_of routes) → AreThere whole routes → AreThere ((p, paths) ∷ whole) routes
unfolding AreThere
behind p paths whole [] above there = tt
behind p paths whole (r ∷ routes) above there =
    (ap (λ (b : Bool). unwrap_or (cond b (Some paths) (lookup (same_prefix r.0) whole)) []) (not_same p r.0 above.0) ∙ there.0, behind p paths whole routes above.1 there.1)

-- each prefix stands once
pub paths-there : (routes : Routes) → IsStrictlySortedBy prefix_cmp (keys_of routes) → AreThere routes routes
unfolding AreThere
paths-there [] sorted = tt
paths-there (r ∷ routes) sorted =
    let here : same_prefix r.0 r.0 ≡ true = sym (tied r.0 r.0) ∙ at_itself prefix_cmp_total prefix_cmp-IsAntisymmetric r.0 in (
      ap (λ (b : Bool). unwrap_or (cond b (Some r.1) (lookup (same_prefix r.0) routes)) []) here,
      behind r.0 r.1 routes routes (sorted_head prefix_cmp r.0 (keys_of routes) sorted) (paths-there routes (sorted_tail prefix_cmp r.0 (keys_of routes) sorted)),
    )

-- a prefix that was taken away has no paths
pub none-left : (routes : Routes) (prefix : IpPrefix) → IsStrictlySortedBy prefix_cmp (keys_of routes) → paths_to (remove_entry (same_prefix prefix) routes) prefix ≡ []
none-left routes prefix sorted =
    ap (λ (o : Option (List Path)). unwrap_or o [])
    (ap (λ (test : IpPrefix → Bool). lookup test (remove_entry test routes)) (sym (found_same prefix)) ∙ value_at-here prefix_cmp_total prefix_cmp-IsAntisymmetric routes prefix None sorted)

-- the paths that were set are those of the prefix
pub row-set : (routes : Routes) (prefix : IpPrefix) (paths : List Path) → IsStrictlySortedBy prefix_cmp (keys_of routes) → paths_to (insert_entry prefix_cmp routes prefix paths) prefix ≡ paths
row-set routes prefix paths sorted =
    ap (λ (o : Option (List Path)). unwrap_or o [])
    (ap (λ (test : IpPrefix → Bool). lookup test (insert_entry prefix_cmp routes prefix paths)) (sym (found_same prefix)) ∙ value_at-here prefix_cmp_total prefix_cmp-IsAntisymmetric routes prefix (Some paths) sorted)

-- ---- keys in order

sorted_append : (xs ys : List Key) → IsStrictlySortedBy key_order xs → IsStrictlySortedBy key_order ys → AllByRecursion (λ x. AllByRecursion (λ y. key_order x y ≡ Less) ys) xs → IsStrictlySortedBy key_order (xs ++ ys)
unfolding IsStrictlySortedBy
sorted_append [] ys one other below = other
sorted_append (x ∷ xs) ys one other below = (all-append (λ y. key_order x y ≡ Less) xs ys one.0 below.0, sorted_append xs ys one.1 other below.1)

keys_append : (one other : Changes) → keys_of (one ++ other) ≡ keys_of one ++ keys_of other
keys_append [] other = refl
keys_append (c ∷ one) other = ap (λ (ks : List Key). c.0 ∷ ks) (keys_append one other)

left_false : (a b : Bool) → (a || b) ≡ false → a ≡ false
left_false true b e = absurd cc
left_false false b e = refl

right_false : (a b : Bool) → (a || b) ≡ false → b ≡ false
right_false true b e = absurd cc
right_false false b e = e

module _ (w : World) (group : GroupKey) where
  abbrev here : IpPrefix × List Path → Changes
  here r = changes_to w r.0 [] r.1 group

  abbrev of : Routes → Changes
  of routes = changes_of w routes group

  -- ---- one of them

  one_sorted : (r : IpPrefix × List Path) → IsStrictlySortedBy key_order (keys_of (here r))
  one_sorted r = by (same_family group.family r.0.family) refl
    where
      by : (b : Bool) → same_family group.family r.0.family ≡ b → IsStrictlySortedBy key_order (keys_of (here r))
      by true own = (changes-of group w r.0 [] r.1 tt own).sorted
      by false other = subst (λ (cs : Changes). IsStrictlySortedBy key_order (keys_of cs)) (sym (no-changes w r.0 [] r.1 group other)) no-keys

  one_under : (r : IpPrefix × List Path) → AllByRecursion (λ (q : Key). q.prefix ≡ r.0) (keys_of (here r))
  one_under r = by (same_family group.family r.0.family) refl
    where
      by : (b : Bool) → same_family group.family r.0.family ≡ b → AllByRecursion (λ (q : Key). q.prefix ≡ r.0) (keys_of (here r))
      by true own = (changes-of group w r.0 [] r.1 tt own).under
      by false other = subst (λ (cs : Changes). AllByRecursion (λ (q : Key). q.prefix ≡ r.0) (keys_of cs)) (sym (no-changes w r.0 [] r.1 group other)) tt

  one_wanted : (r : IpPrefix × List Path) → paths_to w.routes r.0 ≡ r.1 → AllByRecursion (λ c. c.1 ≡ wanted group w c.0) (here r)
  one_wanted r are = by (same_family group.family r.0.family) refl
    where
      by : (b : Bool) → same_family group.family r.0.family ≡ b → AllByRecursion (λ c. c.1 ≡ wanted group w c.0) (here r)
      by true own = changes-wanted group w r.0 [] r.1 (here r) are (changes-of group w r.0 [] r.1 tt own)
      by false other = subst (AllByRecursion (λ c. c.1 ≡ wanted group w c.0)) (sym (no-changes w r.0 [] r.1 group other)) tt

  one_beside : (r : IpPrefix × List Path) (q : Key) → same_family group.family q.prefix.family ≡ true → q.prefix ≡ r.0 → has key_order (keys_of (here r)) q ≡ false → path_at group.add_path q.id r.1 ≡ None
  one_beside r q own under absent =
      let mine : same_family group.family r.0.family ≡ true = ap (λ (p : IpPrefix). same_family group.family p.family) (sym under) ∙ own in
      (changes-of group w r.0 [] r.1 tt mine).beside q under absent

  -- ---- all of them

  all_above : (p : IpPrefix) (routes : Routes) → AllByRecursion (λ (q : IpPrefix). prefix_cmp p q ≡ Less) (keys_of routes) → AllByRecursion (λ (q : Key). prefix_cmp p q.prefix ≡ Less) (keys_of (of routes))
  all_above p [] above = tt
  all_above p (r ∷ routes) above =
      subst (AllByRecursion (λ (q : Key). prefix_cmp p q.prefix ≡ Less)) (sym (keys_append (here r) (of routes)))
      (all-append (λ (q : Key). prefix_cmp p q.prefix ≡ Less) (keys_of (here r)) (keys_of (of routes))
      (all-weaker (λ (q : Key). q.prefix ≡ r.0) (λ (q : Key). prefix_cmp p q.prefix ≡ Less) (keys_of (here r)) (λ q under. ap (prefix_cmp p) under ∙ above.0) (one_under r)) (all_above p routes above.1))

  all_sorted : (routes : Routes) → IsStrictlySortedBy prefix_cmp (keys_of routes) → IsStrictlySortedBy key_order (keys_of (of routes))
  all_sorted [] sorted = no-keys
  all_sorted (r ∷ routes) sorted =
      let above : AllByRecursion (λ (q : Key). prefix_cmp r.0 q.prefix ≡ Less) (keys_of (of routes)) = all_above r.0 routes (sorted_head prefix_cmp r.0 (keys_of routes) sorted) in
      subst (IsStrictlySortedBy key_order) (sym (keys_append (here r) (of routes)))
      (sorted_append (keys_of (here r)) (keys_of (of routes)) (one_sorted r) (all_sorted routes (sorted_tail prefix_cmp r.0 (keys_of routes) sorted))
      (all-weaker (λ (q : Key). q.prefix ≡ r.0) (λ x. AllByRecursion (λ y. key_order x y ≡ Less) (keys_of (of routes))) (keys_of (here r))
      (λ x under. all-weaker (λ (y : Key). prefix_cmp r.0 y.prefix ≡ Less) (λ y. key_order x y ≡ Less) (keys_of (of routes)) (λ y less. key_less x y (ap (λ (p : IpPrefix). prefix_cmp p y.prefix) under ∙ less)) above)
      (one_under r)))

  all_wanted : (routes : Routes) → AreThere w.routes routes → AllByRecursion (λ c. c.1 ≡ wanted group w c.0) (of routes)
  unfolding AreThere
  all_wanted [] there = tt
  all_wanted (r ∷ routes) there = all-append (λ c. c.1 ≡ wanted group w c.0) (here r) (of routes) (one_wanted r there.0) (all_wanted routes there.1)

  no_path : (id : ℕ) → path_at group.add_path id [] ≡ None
  no_path id = by group.add_path
    where
      by : (b : Bool) → path_at b id [] ≡ None
      by true = refl
      by false = refl

  all_beside : (routes : Routes) (q : Key) → same_family group.family q.prefix.family ≡ true → has key_order (keys_of (of routes)) q ≡ false → path_at group.add_path q.id (paths_to routes q.prefix) ≡ None
  all_beside [] q own absent = no_path q.id
  all_beside (r ∷ routes) q own absent =
      by (same_prefix q.prefix r.0) refl (all_beside routes q own (right_false (has key_order (keys_of (here r)) q) (has key_order (keys_of (of routes)) q) parts))
    where
      parts : (has key_order (keys_of (here r)) q || has key_order (keys_of (of routes)) q) ≡ false
      parts = sym (has-append key_total key_exact (keys_of (here r)) (keys_of (of routes)) q) ∙ ap (λ (ks : List Key). has key_order ks q) (sym (keys_append (here r) (of routes))) ∙ absent

      by : (b : Bool) → same_prefix q.prefix r.0 ≡ b → path_at group.add_path q.id (paths_to routes q.prefix) ≡ None
          → path_at group.add_path q.id (unwrap_or (cond b (Some r.1) (lookup (same_prefix q.prefix) routes)) []) ≡ None
      by true same rest = one_beside r q own (prefix-is q.prefix r.0 same) (left_false (has key_order (keys_of (here r)) q) (has key_order (keys_of (of routes)) q) parts)
      by false apart rest = rest

  none_beside : (q : Key) → has key_order (keys_of (of w.routes)) q ≡ false → wanted group w q ≡ None
  none_beside q absent = by (same_family group.family q.prefix.family) refl
    where
      by : (b : Bool) → same_family group.family q.prefix.family ≡ b → wanted group w q ≡ None
      by true own = without-path group w q (all_beside w.routes q own absent)
      by false other = none-wanted group w q other

  -- where nothing else was desired
  pub all-are-wanted : (before : Key → Option OutAttrs) → IsStrictlySortedBy prefix_cmp (keys_of w.routes) → ((q : Key) → has key_order (keys_of (of w.routes)) q ≡ false → before q ≡ None)
      → AreWanted w group before (of w.routes)
  all-are-wanted before sorted others = record {
    sorted = all_sorted w.routes sorted;
    values = all_wanted w.routes (paths-there w.routes sorted);
    others = λ q absent. none_beside q absent ∙ sym (others q absent);
  }

  -- nothing is wanted beside them in another world of the same routes
  pub none-elsewhere : (other : World) → other.routes ≡ w.routes → (q : Key) → has key_order (keys_of (of w.routes)) q ≡ false → wanted group other q ≡ None
  none-elsewhere other same q absent = by (same_family group.family q.prefix.family) refl
    where
      by : (b : Bool) → same_family group.family q.prefix.family ≡ b → wanted group other q ≡ None
      by true own =
          without-path group other q (ap (λ (rs : Routes). path_at group.add_path q.id (paths_to rs q.prefix)) same ∙ all_beside w.routes q own absent)
      by false far = none-wanted group other q far

  -- nor by another key of the same sessions
  pub none-of-session : (other : GroupKey) → other.family ≡ group.family → other.add_path ≡ group.add_path → (q : Key) → has key_order (keys_of (of w.routes)) q ≡ false → wanted other w q ≡ None
  none-of-session other family add q absent = by (same_family group.family q.prefix.family) refl
    where
      by : (b : Bool) → same_family group.family q.prefix.family ≡ b → wanted other w q ≡ None
      by true own = without-path other w q (ap (λ (b : Bool). path_at b q.id (paths_to w.routes q.prefix)) add ∙ all_beside w.routes q own absent)
      by false far = none-wanted other w q (ap (λ (f : Family). same_family f q.prefix.family) family ∙ far)
