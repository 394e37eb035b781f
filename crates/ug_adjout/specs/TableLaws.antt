-- Laws of tables and of lists of keys, where keys that are equal in their order are one.
use Rattle.std.proofs.Common.{◌≡◌, inl, inr, Bool, true, false, cond, not, ◌&&◌, ◌||◌, List, [], ◌∷◌, ◌++◌, Option, Some, None, refl, sym, ap, subst, ◌∙◌}
use Rattle.std.specs.Prelude.{is_some}
use Rattle.std.specs.List.{filter, AllByRecursion, IsDistinct}
use Rattle.std.specs.List.Sorted.{IsStrictlySortedBy}
use Rattle.std.specs.Map.{lookup, remove_entry, keys_of}
use Rattle.std.specs.BTreeMap.{insert_entry, is_at}
use Rattle.std.specs.BTreeSet.{insert_key}
use Rattle.std.specs.FinMap.{IsAntisymmetric}
use Rattle.std.specs.Cmp.{IsTotalOrder}
use Rattle.std.proofs.lemmas.Cmp.{tied_itself}
use Rattle.std.proofs.lemmas.Bool.{cond-true, cond-false, or_left, or_right, or_cases, or_parts}
use Rattle.std.proofs.lemmas.Map.Keys.{sorted_head, sorted_tail}
use Rattle.std.specs.Ordering.{is_eq, match_ordering, eq_by_cmp, ordering_reverse}
use Rattle.std.specs.declared.cmp.Ordering.{Ordering}
use Rattle.std.specs.declared.cmp.Ordering.TheVariants.{Less, Equal, Greater}
use Rattle.ug_adjout.specs.Tables.{has, without, joined, value_at, with_value, IsTable}

pub equal_is : (r : Ordering) → is_eq r ≡ true → r ≡ Equal
equal_is Less e = absurd cc
equal_is Equal e = refl
equal_is Greater e = absurd cc

module _ {K : Type 0} {cmp : K → K → Ordering} (total : IsTotalOrder cmp) (exact : IsAntisymmetric cmp) where
  pub at_itself : (k : K) → is_at (cmp k) k ≡ true
  at_itself k = ap is_eq (tied_itself total k)

  pub one_key : (k q : K) → is_at (cmp k) q ≡ true → k ≡ q
  one_key k q e = exact k q (equal_is (cmp k q) e)

  turned : (r : Ordering) → is_eq (ordering_reverse r) ≡ is_eq r
  turned Less = refl
  turned Equal = refl
  turned Greater = refl

  pub at_turned : (k q : K) → is_at (cmp k) q ≡ is_at (cmp q) k
  at_turned k q = ap is_eq (total.antisymm k q) ∙ turned (cmp q k)

  -- a key that isn't this one is not equal to what is
  pub apart_from : (key q k : K) → is_at (cmp q) key ≡ false → is_at (cmp key) k ≡ true → is_at (cmp q) k ≡ false
  apart_from key q k apart e = subst (λ z. is_at (cmp q) z ≡ false) (one_key key k e) apart

  -- ---- keys in order

  pub below_all : (k q : K) (ks : List K) → cmp k q ≡ Less → AllByRecursion (λ y. cmp q y ≡ Less) ks → AllByRecursion (λ y. cmp k y ≡ Less) ks
  below_all k q [] e h = tt
  below_all k q (x ∷ ks) e h = (total.trans k q x e h.0, below_all k q ks e h.1)

  pub turned_less : (k q : K) → cmp k q ≡ Greater → cmp q k ≡ Less
  turned_less k q e = total.antisymm q k ∙ ap ordering_reverse e

  module _ {V : Type 0} where
    -- ---- one key's value changes, and no other's

    remove_other : (s : Bool) (key q : K) (e : K × V) (es rest : List (K × V)) → is_at (cmp key) e.0 ≡ s → is_at (cmp q) key ≡ false
        → lookup (is_at (cmp q)) rest ≡ lookup (is_at (cmp q)) es → lookup (is_at (cmp q)) (cond s es (e ∷ rest)) ≡ lookup (is_at (cmp q)) (e ∷ es)
    remove_other true key q e es rest at apart h = sym (cond-false (is_at (cmp q) e.0) (Some e.1) _ (apart_from key q e.0 apart at))
    remove_other false key q e es rest at apart h = ap (λ o. cond (is_at (cmp q) e.0) (Some e.1) o) h

    removed_other : (key q : K) (es : List (K × V)) → is_at (cmp q) key ≡ false → lookup (is_at (cmp q)) (remove_entry (is_at (cmp key)) es) ≡ lookup (is_at (cmp q)) es
    removed_other key q [] apart = refl
    removed_other key q (e ∷ es) apart = remove_other (is_at (cmp key) e.0) key q e es (remove_entry (is_at (cmp key)) es) refl apart (removed_other key q es apart)

    insert_other : (r : Ordering) (key q : K) (v : V) (e : K × V) (es rest : List (K × V)) → cmp key e.0 ≡ r → is_at (cmp q) key ≡ false
        → lookup (is_at (cmp q)) rest ≡ lookup (is_at (cmp q)) es
        → lookup (is_at (cmp q)) (match_ordering r ((key, v) ∷ e ∷ es) ((e.0, v) ∷ es) (e ∷ rest)) ≡ lookup (is_at (cmp q)) (e ∷ es)
    insert_other Less key q v e es rest at apart h = cond-false (is_at (cmp q) key) (Some v) _ apart
    insert_other Equal key q v e es rest at apart h =
        let f : is_at (cmp q) e.0 ≡ false = apart_from key q e.0 apart (ap is_eq at) in cond-false _ (Some v) _ f ∙ sym (cond-false _ (Some e.1) _ f)
    insert_other Greater key q v e es rest at apart h = ap (λ o. cond (is_at (cmp q) e.0) (Some e.1) o) h

    inserted_other : (key q : K) (v : V) (es : List (K × V)) → is_at (cmp q) key ≡ false → lookup (is_at (cmp q)) (insert_entry cmp es key v) ≡ lookup (is_at (cmp q)) es
    inserted_other key q v [] apart = cond-false (is_at (cmp q) key) (Some v) None apart
    inserted_other key q v (e ∷ es) apart = insert_other (cmp key e.0) key q v e es (insert_entry cmp es key v) refl apart (inserted_other key q v es apart)

    pub value_at-other : (rows : List (K × V)) (key q : K) (w : Option V) → is_at (cmp q) key ≡ false → value_at cmp (with_value cmp rows key w) q ≡ value_at cmp rows q
    value_at-other rows key q None apart = removed_other key q rows apart
    value_at-other rows key q (Some v) apart = inserted_other key q v rows apart

    -- where all keys stand behind it, a key has no row
    pub none_above : (k : K) (es : List (K × V)) → AllByRecursion (λ y. cmp k y ≡ Less) (keys_of es) → lookup (is_at (cmp k)) es ≡ None
    none_above k [] h = refl
    none_above k (e ∷ es) h = cond-false (is_at (cmp k) e.0) (Some e.1) _ (ap is_eq h.0) ∙ none_above k es h.1

    remove_here : (s : Bool) (key : K) (e : K × V) (es rest : List (K × V)) → is_at (cmp key) e.0 ≡ s → AllByRecursion (λ y. cmp e.0 y ≡ Less) (keys_of es)
        → lookup (is_at (cmp key)) rest ≡ None → lookup (is_at (cmp key)) (cond s es (e ∷ rest)) ≡ None
    remove_here true key e es rest at above h = none_above key es (subst (λ z. AllByRecursion (λ y. cmp z y ≡ Less) (keys_of es)) (sym (one_key key e.0 at)) above)
    remove_here false key e es rest at above h = cond-false _ (Some e.1) _ at ∙ h

    removed_here : (key : K) (es : List (K × V)) → IsTable cmp es → lookup (is_at (cmp key)) (remove_entry (is_at (cmp key)) es) ≡ None
    removed_here key [] s = refl
    removed_here key (e ∷ es) s =
        remove_here (is_at (cmp key) e.0) key e es _ refl (sorted_head cmp e.0 (keys_of es) s) (removed_here key es (sorted_tail cmp e.0 (keys_of es) s))

    insert_here : (r : Ordering) (key : K) (v : V) (e : K × V) (es rest : List (K × V)) → cmp key e.0 ≡ r → lookup (is_at (cmp key)) rest ≡ Some v
        → lookup (is_at (cmp key)) (match_ordering r ((key, v) ∷ e ∷ es) ((e.0, v) ∷ es) (e ∷ rest)) ≡ Some v
    insert_here Less key v e es rest at h = cond-true _ (Some v) _ (at_itself key)
    insert_here Equal key v e es rest at h = cond-true _ (Some v) _ (ap is_eq at)
    insert_here Greater key v e es rest at h = cond-false _ (Some e.1) _ (ap is_eq at) ∙ h

    inserted_here : (key : K) (v : V) (es : List (K × V)) → lookup (is_at (cmp key)) (insert_entry cmp es key v) ≡ Some v
    inserted_here key v [] = cond-true _ (Some v) None (at_itself key)
    inserted_here key v (e ∷ es) = insert_here (cmp key e.0) key v e es _ refl (inserted_here key v es)

    pub value_at-here : (rows : List (K × V)) (key : K) (w : Option V) → IsTable cmp rows → value_at cmp (with_value cmp rows key w) key ≡ w
    value_at-here rows key None s = removed_here key rows s
    value_at-here rows key (Some v) s = inserted_here key v rows

    -- ---- it stays a table

    insert_all : (P : K → Type 0) (r : Ordering) (key : K) (v : V) (e : K × V) (es rest : List (K × V)) → P key → P e.0 → AllByRecursion P (keys_of es) → AllByRecursion P (keys_of rest)
        → AllByRecursion P (keys_of (match_ordering r ((key, v) ∷ e ∷ es) ((e.0, v) ∷ es) (e ∷ rest)))
    insert_all P Less key v e es rest k h hs h2 = (k, (h, hs))
    insert_all P Equal key v e es rest k h hs h2 = (h, hs)
    insert_all P Greater key v e es rest k h hs h2 = (h, h2)

    pub inserted_all : (P : K → Type 0) (key : K) (v : V) (es : List (K × V)) → P key → AllByRecursion P (keys_of es) → AllByRecursion P (keys_of (insert_entry cmp es key v))
    inserted_all P key v [] k h = (k, tt)
    inserted_all P key v (e ∷ es) k h = insert_all P (cmp key e.0) key v e es _ k h.0 h.1 (inserted_all P key v es k h.1)

    remove_all : (P : K → Type 0) (s : Bool) (e : K × V) (es rest : List (K × V)) → P e.0 → AllByRecursion P (keys_of es) → AllByRecursion P (keys_of rest) → AllByRecursion P (keys_of (cond s es (e ∷ rest)))
    remove_all P true e es rest h hs h2 = hs
    remove_all P false e es rest h hs h2 = (h, h2)

    pub removed_all : (P : K → Type 0) (t : K → Bool) (es : List (K × V)) → AllByRecursion P (keys_of es) → AllByRecursion P (keys_of (remove_entry t es))
    removed_all P t [] h = tt
    removed_all P t (e ∷ es) h = remove_all P (t e.0) e es _ h.0 h.1 (removed_all P t es h.1)

    insert_sorted : (r : Ordering) (key : K) (v : V) (e : K × V) (es rest : List (K × V)) → cmp key e.0 ≡ r → IsTable cmp (e ∷ es)
        → (cmp key e.0 ≡ Greater → AllByRecursion (λ y. cmp e.0 y ≡ Less) (keys_of rest)) → IsTable cmp rest
        → IsTable cmp (match_ordering r ((key, v) ∷ e ∷ es) ((e.0, v) ∷ es) (e ∷ rest))
    unfolding IsStrictlySortedBy
    insert_sorted Less key v e es rest at s above h = ((at, below_all key e.0 (keys_of es) at s.0), s)
    insert_sorted Equal key v e es rest at s above h = s
    insert_sorted Greater key v e es rest at s above h = (above at, h)

    inserted_sorted : (key : K) (v : V) (es : List (K × V)) → IsTable cmp es → IsTable cmp (insert_entry cmp es key v)
    unfolding IsStrictlySortedBy
    inserted_sorted key v [] s = (tt, tt)
    inserted_sorted key v (e ∷ es) s =
        insert_sorted (cmp key e.0) key v e es _ refl s (λ at. inserted_all (λ y. cmp e.0 y ≡ Less) key v es (turned_less key e.0 at) s.0) (inserted_sorted key v es s.1)

    remove_sorted : (t : Bool) (e : K × V) (es rest : List (K × V)) → IsTable cmp (e ∷ es) → AllByRecursion (λ y. cmp e.0 y ≡ Less) (keys_of rest) → IsTable cmp rest → IsTable cmp (cond t es (e ∷ rest))
    unfolding IsStrictlySortedBy
    remove_sorted true e es rest s above h = s.1
    remove_sorted false e es rest s above h = (above, h)

    removed_sorted : (t : K → Bool) (es : List (K × V)) → IsTable cmp es → IsTable cmp (remove_entry t es)
    unfolding IsStrictlySortedBy
    removed_sorted t [] s = tt
    removed_sorted t (e ∷ es) s = remove_sorted (t e.0) e es _ s (removed_all (λ y. cmp e.0 y ≡ Less) t es s.0) (removed_sorted t es s.1)

    pub with_value-sorted : (rows : List (K × V)) (key : K) (w : Option V) → IsTable cmp rows → IsTable cmp (with_value cmp rows key w)
    with_value-sorted rows key None s = removed_sorted (is_at (cmp key)) rows s
    with_value-sorted rows key (Some v) s = inserted_sorted key v rows s

    -- ---- a key's own value changes nothing

    remove_nothing : (t : K → Bool) (s : Bool) (e : K × V) (es rest : List (K × V)) → lookup t (e ∷ es) ≡ None → t e.0 ≡ s → (lookup t es ≡ None → rest ≡ es) → cond s es (e ∷ rest) ≡ e ∷ es
    remove_nothing t true e es rest none at h = absurd (let z = sym (cond-true (t e.0) (Some e.1) (lookup t es) at) ∙ none in cc)
    remove_nothing t false e es rest none at h = ap (λ l. e ∷ l) (h (sym (cond-false (t e.0) (Some e.1) (lookup t es) at) ∙ none))

    pub removed_nothing : (t : K → Bool) (es : List (K × V)) → lookup t es ≡ None → remove_entry t es ≡ es
    removed_nothing t [] none = refl
    removed_nothing t (e ∷ es) none = remove_nothing t (t e.0) e es (remove_entry t es) none refl (removed_nothing t es)

    same_value : (x v : V) → Some x ≡ Some v → v ≡ x
    same_value x v e = cc

    insert_same : (r : Ordering) (key : K) (v : V) (e : K × V) (es rest : List (K × V)) → cmp key e.0 ≡ r → AllByRecursion (λ y. cmp e.0 y ≡ Less) (keys_of es)
        → lookup (is_at (cmp key)) (e ∷ es) ≡ Some v → (lookup (is_at (cmp key)) es ≡ Some v → rest ≡ es)
        → match_ordering r ((key, v) ∷ e ∷ es) ((e.0, v) ∷ es) (e ∷ rest) ≡ e ∷ es
    insert_same Less key v e es rest at above some h =
        absurd (let z = sym (none_above key (e ∷ es) (at, below_all key e.0 (keys_of es) at above)) ∙ some in cc)
    insert_same Equal key v e es rest at above some h =
        ap (λ x. (e.0, x) ∷ es) (same_value e.1 v (sym (cond-true (is_at (cmp key) e.0) (Some e.1) (lookup (is_at (cmp key)) es) (ap is_eq at)) ∙ some))
    insert_same Greater key v e es rest at above some h =
        ap (λ l. e ∷ l) (h (sym (cond-false (is_at (cmp key) e.0) (Some e.1) (lookup (is_at (cmp key)) es) (ap is_eq at)) ∙ some))

    inserted_same : (key : K) (v : V) (es : List (K × V)) → IsTable cmp es → lookup (is_at (cmp key)) es ≡ Some v → insert_entry cmp es key v ≡ es
    inserted_same key v [] s some = absurd cc
    inserted_same key v (e ∷ es) s some = insert_same (cmp key e.0) key v e es _ refl (sorted_head cmp e.0 (keys_of es) s) some (inserted_same key v es (sorted_tail cmp e.0 (keys_of es) s))

    pub with_value-same : (rows : List (K × V)) (key : K) (w : Option V) → IsTable cmp rows → value_at cmp rows key ≡ w → with_value cmp rows key w ≡ rows
    with_value-same rows key None s e = removed_nothing (is_at (cmp key)) rows e
    with_value-same rows key (Some v) s e = inserted_same key v rows s e

  -- ---- lists of keys

  pub has-append : (xs ys : List K) (q : K) → has cmp (xs ++ ys) q ≡ (has cmp xs q || has cmp ys q)
  has-append [] ys q = refl
  has-append (x ∷ xs) ys q = step (is_at (cmp q) x) (has cmp xs q) (has cmp ys q) _ (has-append xs ys q)
    where
      step : (b x y z : Bool) → z ≡ (x || y) → (b || z) ≡ ((b || x) || y)
      step true x y z h = refl
      step false x y z h = h

  kept_or_not : (b t p h h2 : Bool) → (t ≡ true → p ≡ b) → h2 ≡ (p && h) → cond b (t || h2) h2 ≡ (p && (t || h))
  kept_or_not true true true h h2 one e = refl
  kept_or_not true true false h h2 one e = absurd (let z = one refl in cc)
  kept_or_not true false p h h2 one e = e
  kept_or_not false true true h h2 one e = absurd (let z = one refl in cc)
  kept_or_not false true false h h2 one e = e
  kept_or_not false false p h h2 one e = e

  has-cond : (b : Bool) (x : K) (xs : List K) (q : K) → has cmp (cond b (x ∷ xs) xs) q ≡ cond b (is_at (cmp q) x || has cmp xs q) (has cmp xs q)
  has-cond true x xs q = refl
  has-cond false x xs q = refl

  none_of : (p : Bool) → false ≡ (p && false)
  none_of true = refl
  none_of false = refl

  pub has-filter : (test : K → Bool) (xs : List K) (q : K) → has cmp (filter test xs) q ≡ (test q && has cmp xs q)
  has-filter test [] q = none_of (test q)
  has-filter test (x ∷ xs) q =
      has-cond (test x) x (filter test xs) q
      ∙ kept_or_not (test x) (is_at (cmp q) x) (test q) (has cmp xs q) (has cmp (filter test xs) q) (λ e. ap test (one_key q x e)) (has-filter test xs q)

  pub all_from_has : (P : K → Type 0) (xs : List K) → ((q : K) → has cmp xs q ≡ true → P q) → AllByRecursion P xs
  all_from_has P [] h = tt
  all_from_has P (x ∷ xs) h = (h x (or_left (is_at (cmp x) x) (has cmp xs x) (at_itself x)), all_from_has P xs (λ q e. h q (or_right (is_at (cmp q) x) (has cmp xs q) e)))

  pub has_from_all : (P : K → Type 0) (xs : List K) → AllByRecursion P xs → (q : K) → has cmp xs q ≡ true → P q
  has_from_all P [] h q e = absurd cc
  has_from_all P (x ∷ xs) h q e = elim (or_cases (is_at (cmp q) x) (has cmp xs q) e) [
    | inl at ↦ subst P (sym (one_key q x at)) h.0
    | inr more ↦ has_from_all P xs h.1 q more
  ]

  -- two tests that agree on the keys of a list keep the same of them
  pub filter_agreeing : (test other : K → Bool) (xs : List K) → AllByRecursion (λ x. test x ≡ other x) xs → filter test xs ≡ filter other xs
  filter_agreeing test other [] h = refl
  filter_agreeing test other (x ∷ xs) h =
      ap (λ b. cond b (x ∷ filter test xs) (filter test xs)) h.0 ∙ ap (λ l. cond (other x) (x ∷ l) l) (filter_agreeing test other xs h.1)

  filter_true : (xs : List K) → filter (λ _. true) xs ≡ xs
  filter_true [] = refl
  filter_true (x ∷ xs) = ap (λ l. x ∷ l) (filter_true xs)

  but_one : (test : K → Bool) (key q : K) (t : Bool) → is_at (cmp key) q ≡ t → test key ≡ false → (t ≡ false → test q ≡ true) → test q ≡ not t
  but_one test key q true at e h = ap test (sym (one_key key q at)) ∙ e
  but_one test key q false at e h = h refl

  all_but : (test : K → Bool) (key q : K) (t : Bool) → is_at (cmp key) q ≡ t → test key ≡ true → (t ≡ false → test q ≡ true) → test q ≡ true
  all_but test key q true at e h = ap test (sym (one_key key q at)) ∙ e
  all_but test key q false at e h = h refl

  -- a test that all but one key of a list are known to pass
  pub filter_but_one : (test : K → Bool) (key : K) (xs : List K) → ((q : K) → is_at (cmp key) q ≡ false → has cmp xs q ≡ true → test q ≡ true)
      → filter test xs ≡ cond (test key) xs (without cmp xs key)
  filter_but_one test key xs h = by (test key) refl
    where
      by : (b : Bool) → test key ≡ b → filter test xs ≡ cond b xs (without cmp xs key)
      by true e = filter_agreeing test (λ _. true) xs (all_from_has _ xs (λ q has_q. all_but test key q (is_at (cmp key) q) refl e (λ apart. h q apart has_q))) ∙ filter_true xs
      by false e = filter_agreeing test (λ q. not (is_at (cmp key) q)) xs (all_from_has _ xs (λ q has_q. but_one test key q (is_at (cmp key) q) refl e (λ apart. h q apart has_q)))

  -- ---- no key twice

  all_filter : (P : K → Type 0) (test : K → Bool) (xs : List K) → AllByRecursion P xs → AllByRecursion P (filter test xs)
  all_filter P test [] h = tt
  all_filter P test (x ∷ xs) h = step (test x) (all_filter P test xs h.1)
    where
      step : (b : Bool) → AllByRecursion P (filter test xs) → AllByRecursion P (cond b (x ∷ filter test xs) (filter test xs))
      step true g = (h.0, g)
      step false g = g

  pub distinct-filter : (test : K → Bool) (xs : List K) → IsDistinct (eq_by_cmp cmp) xs → IsDistinct (eq_by_cmp cmp) (filter test xs)
  unfolding IsDistinct
  distinct-filter test [] h = tt
  distinct-filter test (x ∷ xs) h = step (test x) (distinct-filter test xs h.1)
    where
      step : (b : Bool) → IsDistinct (eq_by_cmp cmp) (filter test xs) → IsDistinct (eq_by_cmp cmp) (cond b (x ∷ filter test xs) (filter test xs))
      step true g = (all_filter _ test xs h.0, g)
      step false g = g

  all_append : (P : K → Type 0) (xs ys : List K) → AllByRecursion P xs → AllByRecursion P ys → AllByRecursion P (xs ++ ys)
  all_append P [] ys h g = g
  all_append P (x ∷ xs) ys h g = (h.0, all_append P xs ys h.1 g)

  all_apart : (x : K) (ys : List K) → has cmp ys x ≡ false → AllByRecursion (λ y. eq_by_cmp cmp x y ≡ false) ys
  all_apart x [] h = tt
  all_apart x (y ∷ ys) h = let p = or_parts (is_at (cmp x) y) (has cmp ys x) h in (p.0, all_apart x ys p.1)

  pub distinct-append : (xs ys : List K) → IsDistinct (eq_by_cmp cmp) xs → IsDistinct (eq_by_cmp cmp) ys → ((q : K) → has cmp xs q ≡ true → has cmp ys q ≡ false)
      → IsDistinct (eq_by_cmp cmp) (xs ++ ys)
  unfolding IsDistinct
  distinct-append [] ys h g apart = g
  distinct-append (x ∷ xs) ys h g apart =
      (all_append _ xs ys h.0 (all_apart x ys (apart x (or_left _ _ (at_itself x)))), distinct-append xs ys h.1 g (λ q e. apart q (or_right _ _ e)))

  pub distinct-one : (x : K) → IsDistinct (eq_by_cmp cmp) (x ∷ [])
  unfolding IsDistinct
  distinct-one x = (tt, tt)

  -- ---- keys in order, put together

  insert_key_has : (r : Ordering) (k x q : K) (xs rest : List K) → cmp k x ≡ r → has cmp rest q ≡ (is_at (cmp q) k || has cmp xs q)
      → has cmp (match_ordering r (k ∷ x ∷ xs) (x ∷ xs) (x ∷ rest)) q ≡ (is_at (cmp q) k || has cmp (x ∷ xs) q)
  insert_key_has Less k x q xs rest at h = refl
  insert_key_has Equal k x q xs rest at h =
      twice (is_at (cmp q) x) (has cmp xs q) ∙ ap (λ z. is_at (cmp q) z || has cmp (x ∷ xs) q) (sym (exact k x at))
    where
      twice : (b h : Bool) → (b || h) ≡ (b || (b || h))
      twice true h = refl
      twice false h = refl
  insert_key_has Greater k x q xs rest at h = ap (λ b. is_at (cmp q) x || b) h ∙ swap (is_at (cmp q) x) (is_at (cmp q) k) (has cmp xs q)
    where
      swap : (a b h : Bool) → (a || (b || h)) ≡ (b || (a || h))
      swap true true h = refl
      swap true false h = refl
      swap false b h = refl

  pub has-insert_key : (xs : List K) (k q : K) → has cmp (insert_key cmp xs k) q ≡ (is_at (cmp q) k || has cmp xs q)
  has-insert_key [] k q = refl
  has-insert_key (x ∷ xs) k q = insert_key_has (cmp k x) k x q xs (insert_key cmp xs k) refl (has-insert_key xs k q)

  insert_key_all : (P : K → Type 0) (r : Ordering) (k x : K) (xs rest : List K) → P k → P x → AllByRecursion P xs → AllByRecursion P rest → AllByRecursion P (match_ordering r (k ∷ x ∷ xs) (x ∷ xs) (x ∷ rest))
  insert_key_all P Less k x xs rest pk px h g = (pk, (px, h))
  insert_key_all P Equal k x xs rest pk px h g = (px, h)
  insert_key_all P Greater k x xs rest pk px h g = (px, g)

  all-insert_key : (P : K → Type 0) (k : K) (xs : List K) → P k → AllByRecursion P xs → AllByRecursion P (insert_key cmp xs k)
  all-insert_key P k [] pk h = (pk, tt)
  all-insert_key P k (x ∷ xs) pk h = insert_key_all P (cmp k x) k x xs _ pk h.0 h.1 (all-insert_key P k xs pk h.1)

  insert_key_sorted : (r : Ordering) (k x : K) (xs rest : List K) → cmp k x ≡ r → IsStrictlySortedBy cmp (x ∷ xs) → (cmp k x ≡ Greater → AllByRecursion (λ y. cmp x y ≡ Less) rest) → IsStrictlySortedBy cmp rest
      → IsStrictlySortedBy cmp (match_ordering r (k ∷ x ∷ xs) (x ∷ xs) (x ∷ rest))
  unfolding IsStrictlySortedBy
  insert_key_sorted Less k x xs rest at s above h = ((at, below_all k x xs at s.0), s)
  insert_key_sorted Equal k x xs rest at s above h = s
  insert_key_sorted Greater k x xs rest at s above h = (above at, h)

  pub sorted-insert_key : (xs : List K) (k : K) → IsStrictlySortedBy cmp xs → IsStrictlySortedBy cmp (insert_key cmp xs k)
  unfolding IsStrictlySortedBy
  sorted-insert_key [] k s = (tt, tt)
  sorted-insert_key (x ∷ xs) k s = insert_key_sorted (cmp k x) k x xs _ refl s (λ at. all-insert_key (λ y. cmp x y ≡ Less) k xs (turned_less k x at) s.0) (sorted-insert_key xs k s.1)

  pub sorted-joined : (xs ys : List K) → IsStrictlySortedBy cmp xs → IsStrictlySortedBy cmp (joined cmp xs ys)
  sorted-joined xs [] s = s
  sorted-joined xs (y ∷ ys) s = sorted-joined (insert_key cmp xs y) ys (sorted-insert_key xs y s)

  moved_or : (a b h : Bool) → ((a || h) || b) ≡ (h || (a || b))
  moved_or true b true = refl
  moved_or true b false = refl
  moved_or false b h = refl

  pub has-joined : (xs ys : List K) (q : K) → has cmp (joined cmp xs ys) q ≡ (has cmp xs q || has cmp ys q)
  has-joined xs [] q = right_false (has cmp xs q)
    where
      right_false : (b : Bool) → b ≡ (b || false)
      right_false true = refl
      right_false false = refl
  has-joined xs (y ∷ ys) q =
      has-joined (insert_key cmp xs y) ys q ∙ ap (λ b. b || has cmp ys q) (has-insert_key xs y q) ∙ moved_or (is_at (cmp q) y) (has cmp ys q) (has cmp xs q)

  module _ {V : Type 0} where
    -- a key has a row where it has a value
    pub has-keys_of : (rows : List (K × V)) (q : K) → has cmp (keys_of rows) q ≡ is_some (value_at cmp rows q)
    has-keys_of [] q = refl
    has-keys_of (e ∷ rows) q = step (is_at (cmp q) e.0) e.1 _ _ (has-keys_of rows q)
      where
        step : (b : Bool) (v : V) (h : Bool) (o : Option V) → h ≡ is_some o → (b || h) ≡ is_some (cond b (Some v) o)
        step true v h o e = refl
        step false v h o e = e
