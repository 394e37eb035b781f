-- What a table keeps to: families, order, and how many refreshes there were.
use Rattle.std.proofs.Common.{◌≡◌, ℕ, ◌+◌, ◌≤◌, Bool, true, false, cond, not, List, [], ◌∷◌, ◌++◌, map, Ordering, refl, sym, ap, subst, arith}
use Rattle.std.specs.declared.cmp.Ordering.TheVariants.{Less, Equal, Greater}
use Rattle.std.specs.Ordering.{match_ordering}
use Rattle.std.specs.List.{filter, AllByRecursion}
use Rattle.std.specs.List.Sorted.{IsStrictlySortedBy}
use Rattle.std.specs.Map.{keys_of, remove_entry}
use Rattle.std.specs.BTreeMap.{insert_entry}
use Rattle.ug_types.specs.declared.family.Family.{Family}
use Rattle.ug_types.specs.declared.family.Family.TheVariants.{V4, V6}
use Rattle.ug_types.specs.declared.key.Key.{Key}
use Rattle.ug_short_key.specs.Keys.{key_order}
use Rattle.ug_check.specs.declared.row.Row.{Row}
use Rattle.ug_check.specs.Stored.{shown, is_stale, stale_keys, fresh_rows, rows_of, AreRowsOf, IsStored}
use Rattle.ug_check.specs.Rows.{Rows}
use Rattle.ug_check.proofs.Keys.{before}

placed : (o : Ordering) (f : Family) (n : ℕ) (a b c : List (Key × Row)) → AreRowsOf f n a → AreRowsOf f n b → AreRowsOf f n c → AreRowsOf f n (match_ordering o a b c)
placed Less f n a b c x y z = x
placed Equal f n a b c x y z = y
placed Greater f n a b c x y z = z

pub inserted : (cmp : Key → Key → Ordering) (f : Family) (n : ℕ) (rows : List (Key × Row)) (k : Key) (v : Row) → k.prefix.family ≡ f → v.shared.value.seen ≤ n → AreRowsOf f n rows → AreRowsOf f n (insert_entry cmp rows k v)
inserted cmp f n [] k v e h all = ((e, h), tt)
inserted cmp f n (x ∷ rows) k v e h all =
    placed (cmp k x.0) f n ((k, v) ∷ x ∷ rows) ((x.0, v) ∷ rows) (x ∷ insert_entry cmp rows k v) ((e, h), all) ((all.0.0, h), all.1) (all.0, inserted cmp f n rows k v e h all.1)

picked : (b : Bool) (f : Family) (n : ℕ) (a c : List (Key × Row)) → AreRowsOf f n a → AreRowsOf f n c → AreRowsOf f n (cond b a c)
picked true f n a c x y = x
picked false f n a c x y = y

pub removed : (test : Key → Bool) (f : Family) (n : ℕ) (rows : List (Key × Row)) → AreRowsOf f n rows → AreRowsOf f n (remove_entry test rows)
removed test f n [] all = tt
removed test f n (x ∷ rows) all = picked (test x.0) f n rows (x ∷ remove_entry test rows) all.1 (all.0, removed test f n rows all.1)

pub filtered : (p : Key × Row → Bool) (f : Family) (n : ℕ) (rows : List (Key × Row)) → AreRowsOf f n rows → AreRowsOf f n (filter p rows)
filtered p f n [] all = tt
filtered p f n (x ∷ rows) all = picked (p x) f n (x ∷ filter p rows) (filter p rows) (all.0, filtered p f n rows all.1) (filtered p f n rows all.1)

pub counted_on : (f : Family) (n : ℕ) (rows : List (Key × Row)) → AreRowsOf f n rows → AreRowsOf f (n + 1) rows
counted_on f n [] all = tt
counted_on f n (x ∷ rows) all = let seen : x.1.shared.value.seen ≤ n = all.0.1 in ((all.0.0, omega arith), counted_on f n rows all.1)

-- ---- order

above_v6 : (n : ℕ) (k : Key) (v6 : List (Key × Row)) → k.prefix.family ≡ V4 → AreRowsOf V6 n v6 → AllByRecursion (λ (y : Key). key_order k y ≡ Less) (keys_of v6)
above_v6 n k [] f b = tt
above_v6 n k (x ∷ v6) f b = (before k x.0 f b.0.0, above_v6 n k v6 f b.1)

above_both : (n : ℕ) (k : Key) (v4 v6 : List (Key × Row)) → k.prefix.family ≡ V4 → AreRowsOf V6 n v6 → AllByRecursion (λ (y : Key). key_order k y ≡ Less) (keys_of v4)
    → AllByRecursion (λ (y : Key). key_order k y ≡ Less) (keys_of (v4 ++ v6))
above_both n k [] v6 f b h = above_v6 n k v6 f b
above_both n k (x ∷ v4) v6 f b h = (h.0, above_both n k v4 v6 f b h.1)

ascend_both : (n : ℕ) (v4 v6 : List (Key × Row)) → AreRowsOf V4 n v4 → AreRowsOf V6 n v6 → IsStrictlySortedBy key_order (keys_of v4) → IsStrictlySortedBy key_order (keys_of v6) → IsStrictlySortedBy key_order (keys_of (v4 ++ v6))
unfolding IsStrictlySortedBy
ascend_both n [] v6 a b s t = t
ascend_both n (e ∷ v4) v6 a b s t = (above_both n e.0 v4 v6 a.0.0 b s.0, ascend_both n v4 v6 a.1 b s.1 t)

pub ascending : (n : ℕ) (v4 v6 : List (Key × Row)) → IsStored v4 v6 n → IsStrictlySortedBy key_order (keys_of (v4 ++ v6))
ascending n v4 v6 h = ascend_both n v4 v6 h.all_v4 h.all_v6 h.v4_ascend h.v6_ascend

keys_shown : (rows : List (Key × Row)) → keys_of (map shown rows) ≡ keys_of rows
keys_shown [] = refl
keys_shown (e ∷ rows) = ap (λ (ks : List Key). e.0 ∷ ks) (keys_shown rows)

pub rows_ascend : (n : ℕ) (v4 v6 : List (Key × Row)) → IsStored v4 v6 n → IsStrictlySortedBy key_order (keys_of (map shown (v4 ++ v6)))
rows_ascend n v4 v6 h = subst (λ (ks : List Key). IsStrictlySortedBy key_order ks) (sym (keys_shown (v4 ++ v6))) (ascending n v4 v6 h)

above_cond : (b : Bool) (k : Key) (x : Key × Row) (rows : List (Key × Row)) → key_order k x.0 ≡ Less → AllByRecursion (λ (y : Key). key_order k y ≡ Less) (keys_of rows)
    → AllByRecursion (λ (y : Key). key_order k y ≡ Less) (keys_of (cond b (x ∷ rows) rows))
above_cond true k x rows e h = (e, h)
above_cond false k x rows e h = h

above_some : (k : Key) (p : Key × Row → Bool) (rows : List (Key × Row)) → AllByRecursion (λ (y : Key). key_order k y ≡ Less) (keys_of rows) → AllByRecursion (λ (y : Key). key_order k y ≡ Less) (keys_of (filter p rows))
above_some k p [] h = tt
above_some k p (x ∷ rows) h = above_cond (p x) k x (filter p rows) h.0 (above_some k p rows h.1)

ascend_cond : (b : Bool) (x : Key × Row) (rows : List (Key × Row)) → AllByRecursion (λ (y : Key). key_order x.0 y ≡ Less) (keys_of rows) → IsStrictlySortedBy key_order (keys_of rows) → IsStrictlySortedBy key_order (keys_of (cond b (x ∷ rows) rows))
unfolding IsStrictlySortedBy
ascend_cond true x rows e h = (e, h)
ascend_cond false x rows e h = h

ascend_some : (p : Key × Row → Bool) (rows : List (Key × Row)) → IsStrictlySortedBy key_order (keys_of rows) → IsStrictlySortedBy key_order (keys_of (filter p rows))
unfolding IsStrictlySortedBy
ascend_some p [] h = tt
ascend_some p (x ∷ rows) h = ascend_cond (p x) x (filter p rows) (above_some x.0 p rows h.0) (ascend_some p rows h.1)

pub stale_ascend : (n : ℕ) (v4 v6 : List (Key × Row)) → IsStored v4 v6 n → IsStrictlySortedBy key_order (stale_keys n (v4 ++ v6))
stale_ascend n v4 v6 h = ascend_some (λ (e : Key × Row). is_stale n e.1) (v4 ++ v6) (ascending n v4 v6 h)

-- ---- a table that is seen as its rows

pub view_ascends : (n : ℕ) (v4 v6 : List (Key × Row)) (refreshing : Bool) (t : Rows)
    → rows_of v4 v6 n refreshing ≡ t → IsStored v4 v6 n → IsStrictlySortedBy key_order (keys_of t.rows)
view_ascends n v4 v6 refreshing t is h = subst (λ (r : Rows). IsStrictlySortedBy key_order (keys_of r.rows)) is (rows_ascend n v4 v6 h)

stale_either : (n : ℕ) (v4 v6 : List (Key × Row)) (refreshing : Bool)
    → IsStored v4 v6 n → IsStrictlySortedBy key_order (rows_of v4 v6 n refreshing).stale
unfolding IsStrictlySortedBy
stale_either n v4 v6 false h = tt
stale_either n v4 v6 true h = stale_ascend n v4 v6 h

pub stale_view_ascends : (n : ℕ) (v4 v6 : List (Key × Row)) (refreshing : Bool) (t : Rows)
    → rows_of v4 v6 n refreshing ≡ t → IsStored v4 v6 n → IsStrictlySortedBy key_order t.stale
stale_view_ascends n v4 v6 refreshing t is h = subst (λ (r : Rows). IsStrictlySortedBy key_order r.stale) is (stale_either n v4 v6 refreshing h)

pub swept : (n : ℕ) (v4 v6 new4 new6 : List (Key × Row)) → new4 ≡ fresh_rows n v4 → new6 ≡ fresh_rows n v6
    → IsStrictlySortedBy key_order (keys_of new4) → IsStrictlySortedBy key_order (keys_of new6) → IsStored v4 v6 n → IsStored new4 new6 n
swept n v4 v6 new4 new6 e4 e6 s4 s6 h = record {
  all_v4 = subst (λ (rows : List (Key × Row)). AreRowsOf V4 n rows) (sym e4) (filtered (λ (e : Key × Row). not (is_stale n e.1)) V4 n v4 h.all_v4);
  all_v6 = subst (λ (rows : List (Key × Row)). AreRowsOf V6 n rows) (sym e6) (filtered (λ (e : Key × Row). not (is_stale n e.1)) V6 n v6 h.all_v6);
  v4_ascend = s4;
  v6_ascend = s6;
}
