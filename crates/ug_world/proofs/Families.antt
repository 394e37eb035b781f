-- The rows of IPv4 and then those of IPv6 are one list in order: what is found, put in, taken out and stands behind a prefix.
use Rattle.std.proofs.Common.{◌≡◌, Bool, true, false, List, [], ◌∷◌, ◌++◌, refl, ap, sym, subst, ◌∙◌}
use Rattle.std.specs.Prelude.{Option, Some, None, if◌then◌else◌}
use Rattle.std.specs.List.{filter, AllByRecursion}
use Rattle.std.specs.List.Sorted.{IsStrictlySortedBy}
use Rattle.std.specs.Map.{lookup, remove_entry, keys_of}
use Rattle.std.specs.BTreeMap.{insert_entry, is_at}
use Rattle.std.specs.Ordering.{match_ordering}
use Rattle.std.specs.declared.cmp.Ordering.{Ordering}
use Rattle.std.specs.declared.cmp.Ordering.TheVariants.{Less, Equal, Greater}
use Rattle.std.specs.declared.ops.Bound.TheVariants.{Unbounded}
use Rattle.std.specs.BTreeMap.Range.{entries_between}
use Rattle.ug_world.specs.World.{Routes}
use Rattle.ug_types.specs.declared.family.Family.{Family}
use Rattle.ug_types.specs.declared.family.Family.TheVariants.{V4, V6}
use Rattle.ug_types.specs.Ip.{IpPrefix}
use Rattle.ug_types.specs.Keys.{prefix_cmp}
use Rattle.ug_world.specs.Families.{AreOf, AreByFamily}
use Rattle.ug_world.specs.Rows.{is_behind, rows_behind}

less : (q k : IpPrefix) → q.family ≡ V4 → k.family ≡ V6 → prefix_cmp q k ≡ Less
less q k f g = rw (f, g) refl

greater : (q k : IpPrefix) → q.family ≡ V6 → k.family ≡ V4 → prefix_cmp q k ≡ Greater
greater q k f g = rw (f, g) refl

module _ {V : Type 0} where
  -- ---- rows of the other family

  absent_v4 : (q : IpPrefix) (b : List (IpPrefix × V)) → q.family ≡ V4 → AreOf V6 b → lookup (is_at (prefix_cmp q)) b ≡ None
  absent_v4 q [] f h = refl
  absent_v4 q (e ∷ b) f h = rw (less q e.0 f h.0) (absent_v4 q b f h.1)

  first_put : (q : IpPrefix) (v : V) (b : List (IpPrefix × V)) → q.family ≡ V4 → AreOf V6 b → insert_entry prefix_cmp b q v ≡ (q, v) ∷ b
  first_put q v [] f h = refl
  first_put q v (e ∷ b) f h = rw (less q e.0 f h.0) refl

  none_taken : (q : IpPrefix) (b : List (IpPrefix × V)) → q.family ≡ V4 → AreOf V6 b → remove_entry (is_at (prefix_cmp q)) b ≡ b
  none_taken q [] f h = refl
  none_taken q (e ∷ b) f h = rw (less q e.0 f h.0) (ap (λ (es : List (IpPrefix × V)). e ∷ es) (none_taken q b f h.1))

  -- ---- a prefix of IPv4

  v4_found : (q : IpPrefix) (a b : List (IpPrefix × V)) → q.family ≡ V4 → AreOf V6 b → lookup (is_at (prefix_cmp q)) (a ++ b) ≡ lookup (is_at (prefix_cmp q)) a
  v4_found q [] b f h = absent_v4 q b f h
  v4_found q (e ∷ a) b f h = ap (λ (o : Option V). if is_at (prefix_cmp q) e.0 then Some e.1 else o) (v4_found q a b f h)

  v4_put : (q : IpPrefix) (v : V) (a b : List (IpPrefix × V)) → q.family ≡ V4 → AreOf V6 b → insert_entry prefix_cmp (a ++ b) q v ≡ insert_entry prefix_cmp a q v ++ b
  v4_put q v [] b f h = first_put q v b f h
  v4_put q v (e ∷ a) b f h = by_order (prefix_cmp q e.0) (v4_put q v a b f h)
    where
      by_order : (o : Ordering) → insert_entry prefix_cmp (a ++ b) q v ≡ insert_entry prefix_cmp a q v ++ b
          → match_ordering o ((q, v) ∷ e ∷ (a ++ b)) ((e.0, v) ∷ (a ++ b)) (e ∷ insert_entry prefix_cmp (a ++ b) q v)
          ≡ match_ordering o ((q, v) ∷ e ∷ a) ((e.0, v) ∷ a) (e ∷ insert_entry prefix_cmp a q v) ++ b
      by_order Less more = refl
      by_order Equal more = refl
      by_order Greater more = ap (λ (es : List (IpPrefix × V)). e ∷ es) more

  v4_taken : (q : IpPrefix) (a b : List (IpPrefix × V)) → q.family ≡ V4 → AreOf V6 b → remove_entry (is_at (prefix_cmp q)) (a ++ b) ≡ remove_entry (is_at (prefix_cmp q)) a ++ b
  v4_taken q [] b f h = none_taken q b f h
  v4_taken q (e ∷ a) b f h = by_test (is_at (prefix_cmp q) e.0) (v4_taken q a b f h)
    where
      by_test : (taken : Bool) → remove_entry (is_at (prefix_cmp q)) (a ++ b) ≡ remove_entry (is_at (prefix_cmp q)) a ++ b
          → (if taken then a ++ b else e ∷ remove_entry (is_at (prefix_cmp q)) (a ++ b)) ≡ (if taken then a else e ∷ remove_entry (is_at (prefix_cmp q)) a) ++ b
      by_test true more = refl
      by_test false more = ap (λ (es : List (IpPrefix × V)). e ∷ es) more

  -- ---- a prefix of IPv6

  v6_found : (q : IpPrefix) (a b : List (IpPrefix × V)) → q.family ≡ V6 → AreOf V4 a → lookup (is_at (prefix_cmp q)) (a ++ b) ≡ lookup (is_at (prefix_cmp q)) b
  v6_found q [] b f h = refl
  v6_found q (e ∷ a) b f h = rw (greater q e.0 f h.0) (v6_found q a b f h.1)

  v6_put : (q : IpPrefix) (v : V) (a b : List (IpPrefix × V)) → q.family ≡ V6 → AreOf V4 a → insert_entry prefix_cmp (a ++ b) q v ≡ a ++ insert_entry prefix_cmp b q v
  v6_put q v [] b f h = refl
  v6_put q v (e ∷ a) b f h = rw (greater q e.0 f h.0) (ap (λ (es : List (IpPrefix × V)). e ∷ es) (v6_put q v a b f h.1))

  v6_taken : (q : IpPrefix) (a b : List (IpPrefix × V)) → q.family ≡ V6 → AreOf V4 a → remove_entry (is_at (prefix_cmp q)) (a ++ b) ≡ a ++ remove_entry (is_at (prefix_cmp q)) b
  v6_taken q [] b f h = refl
  v6_taken q (e ∷ a) b f h = rw (greater q e.0 f h.0) (ap (λ (es : List (IpPrefix × V)). e ∷ es) (v6_taken q a b f h.1))

  -- ---- the rows of a family stay its own

  are_of_put : (family : Family) (q : IpPrefix) (v : V) (es : List (IpPrefix × V)) → q.family ≡ family → AreOf family es → AreOf family (insert_entry prefix_cmp es q v)
  are_of_put family q v [] f h = (f, tt)
  are_of_put family q v (e ∷ es) f h = by_order (prefix_cmp q e.0) (are_of_put family q v es f h.1)
    where
      by_order : (o : Ordering) → AreOf family (insert_entry prefix_cmp es q v) → AreOf family (match_ordering o ((q, v) ∷ e ∷ es) ((e.0, v) ∷ es) (e ∷ insert_entry prefix_cmp es q v))
      by_order Less more = (f, h)
      by_order Equal more = h
      by_order Greater more = (h.0, more)

  are_of_left : (family : Family) (test : IpPrefix → Bool) (es : List (IpPrefix × V)) → AreOf family es → AreOf family (remove_entry test es)
  are_of_left family test [] h = tt
  are_of_left family test (e ∷ es) h = by_test (test e.0) (are_of_left family test es h.1)
    where
      by_test : (b : Bool) → AreOf family (remove_entry test es) → AreOf family (if b then es else e ∷ remove_entry test es)
      by_test true more = h.1
      by_test false more = (h.0, more)

  -- ---- their order

  all_less : (q : IpPrefix) (b : List (IpPrefix × V)) → q.family ≡ V4 → AreOf V6 b → AllByRecursion (λ k. prefix_cmp q k ≡ Less) (keys_of b)
  all_less q [] f h = tt
  all_less q (e ∷ b) f h = (less q e.0 f h.0, all_less q b f h.1)

  all_of_both : (P : IpPrefix → Type 0) (a b : List (IpPrefix × V)) → AllByRecursion P (keys_of a) → AllByRecursion P (keys_of b) → AllByRecursion P (keys_of (a ++ b))
  all_of_both P [] b h g = g
  all_of_both P (e ∷ a) b h g = (h.0, all_of_both P a b h.1 g)

  both_ordered : (a b : List (IpPrefix × V)) → AreOf V4 a → AreOf V6 b → IsStrictlySortedBy prefix_cmp (keys_of a) → IsStrictlySortedBy prefix_cmp (keys_of b) → IsStrictlySortedBy prefix_cmp (keys_of (a ++ b))
  unfolding IsStrictlySortedBy
  both_ordered [] b f g h i = i
  both_ordered (e ∷ a) b f g h i = (all_of_both (λ k. prefix_cmp e.0 k ≡ Less) a b h.0 (all_less e.0 b f.0 g), both_ordered a b f.1 g h.1 i)

  ordered : (a b : List (IpPrefix × V)) → AreByFamily a b → IsStrictlySortedBy prefix_cmp (keys_of (a ++ b))
  ordered a b h = both_ordered a b h.v4 h.v6 h.v4_ordered h.v6_ordered

  -- ---- what stands behind a prefix

  abbrev behind : IpPrefix → List (IpPrefix × V) → List (IpPrefix × V)
  behind q es = filter (λ (row : IpPrefix × V). is_behind (Some q) row.0) es

  pub all_behind : (q : IpPrefix) (b : List (IpPrefix × V)) → q.family ≡ V4 → AreOf V6 b → behind q b ≡ b
  all_behind q [] f h = refl
  all_behind q (e ∷ b) f h = rw (less q e.0 f h.0) (ap (λ (es : List (IpPrefix × V)). e ∷ es) (all_behind q b f h.1))

  pub none_behind : (q : IpPrefix) (a : List (IpPrefix × V)) → q.family ≡ V6 → AreOf V4 a → behind q a ≡ []
  none_behind q [] f h = refl
  none_behind q (e ∷ a) f h = rw (greater q e.0 f h.0) (none_behind q a f h.1)

  pub all_between : (es : List (IpPrefix × V)) → entries_between prefix_cmp Unbounded Unbounded es ≡ es
  all_between [] = refl
  all_between (e ∷ es) = ap (λ (rest : List (IpPrefix × V)). e ∷ rest) (all_between es)

-- ---- two trees as one list, and a prefix as it is stored

module _ {V : Type 0} (a b rows : List (IpPrefix × V)) (h : AreByFamily a b) (is : a ++ b ≡ rows) where
  pub all_ordered : IsStrictlySortedBy prefix_cmp (keys_of rows)
  all_ordered = subst (λ (es : List (IpPrefix × V)). IsStrictlySortedBy prefix_cmp (keys_of es)) is (ordered a b h)

  module _ (q p : IpPrefix) (same : q ≡ p) where
    pub found_v4 : p.family ≡ V4 → lookup (is_at (prefix_cmp q)) a ≡ lookup (is_at (prefix_cmp p)) rows
    found_v4 f = ap (λ (k : IpPrefix). lookup (is_at (prefix_cmp k)) a) same ∙ sym (v4_found p a b f h.v6) ∙ ap (lookup (is_at (prefix_cmp p))) is

    pub found_v6 : p.family ≡ V6 → lookup (is_at (prefix_cmp q)) b ≡ lookup (is_at (prefix_cmp p)) rows
    found_v6 f = ap (λ (k : IpPrefix). lookup (is_at (prefix_cmp k)) b) same ∙ sym (v6_found p a b f h.v4) ∙ ap (lookup (is_at (prefix_cmp p))) is

    module _ (new : List (IpPrefix × V)) where
      pub put_v4 : p.family ≡ V4 → (v : V) → new ≡ insert_entry prefix_cmp a q v → new ++ b ≡ insert_entry prefix_cmp rows p v
      put_v4 f v e =
          ap (λ (es : List (IpPrefix × V)). es ++ b) (e ∙ ap (λ (k : IpPrefix). insert_entry prefix_cmp a k v) same)
          ∙ sym (v4_put p v a b f h.v6) ∙ ap (λ (es : List (IpPrefix × V)). insert_entry prefix_cmp es p v) is

      pub put_v6 : p.family ≡ V6 → (v : V) → new ≡ insert_entry prefix_cmp b q v → a ++ new ≡ insert_entry prefix_cmp rows p v
      put_v6 f v e =
          ap (λ (es : List (IpPrefix × V)). a ++ es) (e ∙ ap (λ (k : IpPrefix). insert_entry prefix_cmp b k v) same)
          ∙ sym (v6_put p v a b f h.v4) ∙ ap (λ (es : List (IpPrefix × V)). insert_entry prefix_cmp es p v) is

      pub taken_v4 : p.family ≡ V4 → new ≡ remove_entry (is_at (prefix_cmp q)) a → new ++ b ≡ remove_entry (is_at (prefix_cmp p)) rows
      taken_v4 f e =
          ap (λ (es : List (IpPrefix × V)). es ++ b) (e ∙ ap (λ (k : IpPrefix). remove_entry (is_at (prefix_cmp k)) a) same)
          ∙ sym (v4_taken p a b f h.v6) ∙ ap (remove_entry (is_at (prefix_cmp p))) is

      pub taken_v6 : p.family ≡ V6 → new ≡ remove_entry (is_at (prefix_cmp q)) b → a ++ new ≡ remove_entry (is_at (prefix_cmp p)) rows
      taken_v6 f e =
          ap (λ (es : List (IpPrefix × V)). a ++ es) (e ∙ ap (λ (k : IpPrefix). remove_entry (is_at (prefix_cmp k)) b) same)
          ∙ sym (v6_taken p a b f h.v4) ∙ ap (remove_entry (is_at (prefix_cmp p))) is

      module _ (sorted : IsStrictlySortedBy prefix_cmp (keys_of new)) where
        with_v4 : AreOf V4 new → AreByFamily new b
        with_v4 of = record { v4 = of; v6 = h.v6; v4_ordered = sorted; v6_ordered = h.v6_ordered }

        with_v6 : AreOf V6 new → AreByFamily a new
        with_v6 of = record { v4 = h.v4; v6 = of; v4_ordered = h.v4_ordered; v6_ordered = sorted }

        pub kept_put_v4 : p.family ≡ V4 → (v : V) → new ≡ insert_entry prefix_cmp a q v → AreByFamily new b
        kept_put_v4 f v e = with_v4 (subst (AreOf V4) (sym e) (are_of_put V4 q v a (ap (λ (k : IpPrefix). k.family) same ∙ f) h.v4))

        pub kept_put_v6 : p.family ≡ V6 → (v : V) → new ≡ insert_entry prefix_cmp b q v → AreByFamily a new
        kept_put_v6 f v e = with_v6 (subst (AreOf V6) (sym e) (are_of_put V6 q v b (ap (λ (k : IpPrefix). k.family) same ∙ f) h.v6))

        pub kept_taken_v4 : new ≡ remove_entry (is_at (prefix_cmp q)) a → AreByFamily new b
        kept_taken_v4 e = with_v4 (subst (AreOf V4) (sym e) (are_of_left V4 (is_at (prefix_cmp q)) a h.v4))

        pub kept_taken_v6 : new ≡ remove_entry (is_at (prefix_cmp q)) b → AreByFamily a new
        kept_taken_v6 e = with_v6 (subst (AreOf V6) (sym e) (are_of_left V6 (is_at (prefix_cmp q)) b h.v6))

pub all_rows : (rows : Routes) → rows_behind None rows ≡ rows
all_rows [] = refl
all_rows (row ∷ rows) = ap (λ (rest : Routes). row ∷ rest) (all_rows rows)
