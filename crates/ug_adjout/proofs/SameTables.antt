-- Lists in key order that have the same keys, and tables that have the same values.
use Rattle.std.proofs.Common.{◌≡◌, Bool, true, false, List, [], ◌∷◌, Some, None, refl, sym, ap, ◌∙◌}
use Rattle.std.specs.Prelude.{◌||◌}
use Rattle.std.specs.Ordering.{is_eq, ordering_reverse}
use Rattle.std.specs.List.{AllByRecursion}
use Rattle.std.specs.List.Sorted.{IsStrictlySortedBy}
use Rattle.std.specs.Map.{keys_of}
use Rattle.std.specs.BTreeMap.{is_at}
use Rattle.std.specs.Cmp.{IsTotalOrder}
use Rattle.std.specs.FinMap.{IsAntisymmetric}
use Rattle.std.specs.declared.cmp.Ordering.{Ordering}
use Rattle.std.specs.declared.cmp.Ordering.TheVariants.{Less, Equal, Greater}
use Rattle.std.proofs.lemmas.Bool.{cond-true, cond-false}
use Rattle.std.proofs.lemmas.Map.Keys.{sorted_head, sorted_tail}
use Rattle.std.proofs.lemmas.Map.Lookups.{btree_set_from_contains}
use Rattle.ug_adjout.specs.Tables.{has, value_at, IsTable}
use Rattle.ug_adjout.specs.TableLaws.{at_itself, one_key, none_above, below_all}

pub same_some : {X : Type 0} (a b : X) → Some a ≡ Some b → a ≡ b
same_some a b e = cc

module _ {K : Type 0} {cmp : K → K → Ordering} (total : IsTotalOrder cmp) (exact : IsAntisymmetric cmp) where
  -- a key below all others is not among them
  pub absent_above : (k : K) (ks : List K) → AllByRecursion (λ y. cmp k y ≡ Less) ks → has cmp ks k ≡ false
  absent_above k [] h = refl
  absent_above k (x ∷ ks) h = ap (λ b. b || has cmp ks k) (ap is_eq h.0) ∙ absent_above k ks h.1

  -- keys in order of which the same are there are the same
  pub same_list : (xs ys : List K) → IsStrictlySortedBy cmp xs → IsStrictlySortedBy cmp ys → ((q : K) → has cmp xs q ≡ has cmp ys q) → xs ≡ ys
  same_list xs ys sx sy h = btree_set_from_contains total (record { keys = xs }) (record { keys = ys }) sx sy h exact

module _ {K V : Type 0} {cmp : K → K → Ordering} (total : IsTotalOrder cmp) (exact : IsAntisymmetric cmp) where
  -- what is found behind the first is found
  pub found_behind : (e : K × V) (es : List (K × V)) (q : K) (v : V) → IsTable cmp (e ∷ es) → value_at cmp es q ≡ Some v → value_at cmp (e ∷ es) q ≡ Some v
  found_behind e es q v s h = by (is_at (cmp q) e.0) refl
    where
      by : (b : Bool) → is_at (cmp q) e.0 ≡ b → value_at cmp (e ∷ es) q ≡ Some v
      by true at = absurd (let z = sym h ∙ ap (value_at cmp es) (one_key total exact q e.0 at) ∙ none_above total exact e.0 es (sorted_head cmp e.0 (keys_of es) s) in cc)
      by false at = cond-false _ (Some e.1) _ at ∙ h

  -- and the first is
  pub found_first : (e : K × V) (es : List (K × V)) → value_at cmp (e ∷ es) e.0 ≡ Some e.1
  found_first e es = cond-true _ (Some e.1) _ (at_itself total exact e.0)

  none_below : (k : K) (y : K × V) (ys : List (K × V)) → cmp k y.0 ≡ Less → IsTable cmp (y ∷ ys) → value_at cmp (y ∷ ys) k ≡ None
  none_below k y ys lt s = none_above total exact k (y ∷ ys) (lt, below_all total exact k y.0 (keys_of ys) lt (sorted_head cmp y.0 (keys_of ys) s))

  same_tail : (x y : K × V) (xs ys : List (K × V)) → x.0 ≡ y.0 → IsTable cmp (x ∷ xs) → IsTable cmp (y ∷ ys) → ((q : K) → value_at cmp (x ∷ xs) q ≡ value_at cmp (y ∷ ys) q)
      → (q : K) → value_at cmp xs q ≡ value_at cmp ys q
  same_tail x y xs ys same sx sy h q = by (is_at (cmp q) x.0) refl
    where
      by : (b : Bool) → is_at (cmp q) x.0 ≡ b → value_at cmp xs q ≡ value_at cmp ys q
      by true at =
          let own = one_key total exact q x.0 at in
          ap (value_at cmp xs) own ∙ none_above total exact x.0 xs (sorted_head cmp x.0 (keys_of xs) sx)
          ∙ sym (ap (value_at cmp ys) (own ∙ same) ∙ none_above total exact y.0 ys (sorted_head cmp y.0 (keys_of ys) sy))
      by false at =
          sym (cond-false _ (Some x.1) (value_at cmp xs q) at) ∙ h q ∙ cond-false _ (Some y.1) (value_at cmp ys q) (ap (is_at (cmp q)) (sym same) ∙ at)

  -- rows that agree at each key are the same
  pub same_table : (xs ys : List (K × V)) → IsTable cmp xs → IsTable cmp ys → ((q : K) → value_at cmp xs q ≡ value_at cmp ys q) → xs ≡ ys
  same_table [] [] sx sy h = refl
  same_table [] (y ∷ ys) sx sy h = absurd (let z = h y.0 ∙ found_first y ys in cc)
  same_table (x ∷ xs) [] sx sy h = absurd (let z = sym (found_first x xs) ∙ h x.0 in cc)
  same_table (x ∷ xs) (y ∷ ys) sx sy h =
      by (cmp x.0 y.0) refl (λ same. same_table xs ys (sorted_tail cmp x.0 (keys_of xs) sx) (sorted_tail cmp y.0 (keys_of ys) sy) (same_tail x y xs ys same sx sy h))
    where
      by : (r : Ordering) → cmp x.0 y.0 ≡ r → (x.0 ≡ y.0 → xs ≡ ys) → x ∷ xs ≡ y ∷ ys
      by Less e more = absurd (let z = sym (found_first x xs) ∙ h x.0 ∙ none_below x.0 y ys e sy in cc)
      by Equal e more =
          let same = exact x.0 y.0 e in
          let value = same_some x.1 y.1 (sym (found_first x xs) ∙ h x.0 ∙ ap (value_at cmp (y ∷ ys)) same ∙ found_first y ys) in
          λ i. (same i, value i) ∷ more same i
      by Greater e more = absurd (let z = sym (none_below y.0 x xs (total.antisymm y.0 x.0 ∙ ap ordering_reverse e) sx) ∙ h y.0 ∙ found_first y ys in cc)
