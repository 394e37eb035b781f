-- The first row behind a prefix has the least prefix there.
use Rattle.std.proofs.Common.{◌≡◌, Bool, true, false, List, [], ◌∷◌, Option, Some, None, refl, ap, sym, subst, ◌∙◌}
use Rattle.std.specs.Prelude.{IsSome, if◌then◌else◌}
use Rattle.std.specs.List.{filter}
use Rattle.std.specs.List.Sorted.{IsStrictlySortedBy}
use Rattle.std.specs.Map.{lookup, keys_of}
use Rattle.std.specs.BTreeMap.{is_at}
use Rattle.std.specs.Ordering.{is_eq, is_lt, is_gt, ordering_reverse}
use Rattle.std.specs.declared.cmp.Ordering.{Ordering}
use Rattle.std.specs.declared.cmp.Ordering.TheVariants.{Less, Equal, Greater}
use Rattle.std.proofs.lemmas.List.Kept.{IsStrictlySortedBy-filter}
use Rattle.std.proofs.lemmas.Map.{lookup-none}
use Rattle.std.proofs.lemmas.Map.Entries.{lookup-filter-keys, none_below_head}
use Rattle.ug_types.specs.Ip.{IpPrefix}
use Rattle.ug_types.specs.Keys.{prefix_cmp, prefix_cmp_total, same_prefix}
use Rattle.ug_types.specs.declared.route.Path.{Path}
use Rattle.ug_world.specs.World.{Routes}
use Rattle.ug_world.specs.Orders.{IsAfter, IsNotAfter}
use Rattle.ug_world.specs.Rows.{is_behind, rows_behind}
use Rattle.ug_world.proofs.Lookups.{tied, same_prefix_equiv}

equal : (o : Ordering) → is_eq o ≡ true → o ≡ Equal
equal Less e = absurd cc
equal Equal e = refl
equal Greater e = absurd cc

below : (o : Ordering) → is_lt o ≡ true → o ≡ Less
below Less e = refl
below Equal e = absurd cc
below Greater e = absurd cc

-- what is the same as a prefix stands behind what the prefix stands behind
after_behind : (from : Option IpPrefix) (q k : IpPrefix) → IsAfter from q → same_prefix q k ≡ true → is_behind from k ≡ true
after_behind None q k after same = refl
after_behind (Some p) q k after same =
    let back : prefix_cmp k p ≡ Greater =
    sym (prefix_cmp_total.congr q k p (equal (prefix_cmp q k) (tied q k ∙ same))) ∙ prefix_cmp_total.antisymm q p ∙ ap ordering_reverse after in
    ap is_lt (prefix_cmp_total.antisymm p k ∙ ap ordering_reverse back)

behind_after : (from : Option IpPrefix) (q : IpPrefix) → is_behind from q ≡ true → IsAfter from q
behind_after None q e = tt
behind_after (Some p) q e = below (prefix_cmp p q) e

first_passes : {X : Type 0} (test : X → Bool) (xs : List X) (x : X) (rest : List X) → filter test xs ≡ x ∷ rest → test x ≡ true
first_passes test [] x rest e = absurd cc
first_passes {X} test (y ∷ xs) x rest e = by_test (test y) refl e (first_passes test xs x rest)
  where
    by_test : (b : Bool) → test y ≡ b → (if b then y ∷ filter test xs else filter test xs) ≡ x ∷ rest → (filter test xs ≡ x ∷ rest → test x ≡ true) → test x ≡ true
    by_test true is e more = let same : y ≡ x = cc in subst (λ (z : X). test z ≡ true) same is
    by_test false is e more = more e

keys_filtered : {V : Type 0} (test : IpPrefix → Bool) (es : List (IpPrefix × V)) → filter test (keys_of es) ≡ keys_of (filter (λ (e : IpPrefix × V). test e.0) es)
keys_filtered test [] = refl
keys_filtered {V} test (e ∷ es) = by_test (test e.0) (keys_filtered test es)
  where
    by_test : (b : Bool) → filter test (keys_of es) ≡ keys_of (filter (λ (r : IpPrefix × V). test r.0) es)
        → (if b then e.0 ∷ filter test (keys_of es) else filter test (keys_of es)) ≡ keys_of (if b then e ∷ filter (λ (r : IpPrefix × V). test r.0) es else filter (λ (r : IpPrefix × V). test r.0) es)
    by_test true more = ap (λ (ks : List IpPrefix). e.0 ∷ ks) more
    by_test false more = more

module _ (from : Option IpPrefix) (routes : Routes) where
  -- behind a prefix the same is found as in all
  found_behind : (q : IpPrefix) → IsAfter from q → lookup (same_prefix q) (rows_behind from routes) ≡ lookup (same_prefix q) routes
  found_behind q after = lookup-filter-keys (same_prefix q) (is_behind from) true (λ k same. after_behind from q k after same) routes

  pub none_there : rows_behind from routes ≡ [] → (q : IpPrefix) → IsAfter from q → lookup (same_prefix q) routes ≡ None
  none_there none q after = sym (found_behind q after) ∙ ap (lookup (same_prefix q)) none

  module _ (p : IpPrefix) (paths : List Path) (rest : Routes) (first : rows_behind from routes ≡ (p, paths) ∷ rest) where
    pub first_after : IsAfter from p
    first_after = behind_after from p (first_passes (λ (row : IpPrefix × List Path). is_behind from row.0) routes (p, paths) rest first)

    pub first_there : IsSome (lookup (same_prefix p) routes)
    first_there =
        let here : lookup (same_prefix p) ((p, paths) ∷ rest) ≡ Some paths = rw (same_prefix_equiv.refl p) refl in
        subst IsSome (sym (sym (found_behind p first_after) ∙ ap (lookup (same_prefix p)) first ∙ here)) refl

    pub first_least : IsStrictlySortedBy prefix_cmp (keys_of routes) → (q : IpPrefix) → IsAfter from q → IsSome (lookup (same_prefix q) routes) → IsNotAfter p q
    first_least sorted q after there = by_order (prefix_cmp p q) refl
      where
        by_order : (o : Ordering) → prefix_cmp p q ≡ o → is_gt (prefix_cmp p q) ≡ false
        by_order Less is = ap is_gt is
        by_order Equal is = ap is_gt is
        by_order Greater is = let clash : IsSome {T = List Path} None = subst IsSome gone there in absurd cc
          where
            left : IsStrictlySortedBy prefix_cmp (keys_of ((p, paths) ∷ rest))
            left =
                subst (λ (es : Routes). IsStrictlySortedBy prefix_cmp (keys_of es)) first
                (subst (IsStrictlySortedBy prefix_cmp) (keys_filtered (is_behind from) routes) (IsStrictlySortedBy-filter prefix_cmp (is_behind from) (keys_of routes) sorted))

            gone : lookup (same_prefix q) routes ≡ None
            gone =
                sym (found_behind q after) ∙ ap (lookup (same_prefix q)) first
                ∙ (λ i. lookup (λ k. sym (λ j. tied q k j) i) ((p, paths) ∷ rest))
                ∙ lookup-none (is_at (prefix_cmp q)) ((p, paths) ∷ rest)
                (none_below_head prefix_cmp_total q (p, paths) rest left (prefix_cmp_total.antisymm q p ∙ ap ordering_reverse is))
