-- Laws of the pending list.
use Rattle.std.proofs.Common.{◌≡◌, Bool, true, false, cond, not, ◌&&◌, ◌||◌, List, [], ◌∷◌, ◌++◌, Option, Some, None, refl, sym, ap, ◌∙◌}
use Rattle.std.specs.Prelude.{is_some}
use Rattle.std.specs.Option.{option_eq}
use Rattle.std.specs.List.{filter, IsDistinct}
use Rattle.std.specs.Map.{keys_of}
use Rattle.std.specs.FinMap.{IsAntisymmetric}
use Rattle.std.specs.Cmp.{IsTotalOrder}
use Rattle.std.specs.Ordering.{eq_by_cmp}
use Rattle.std.specs.List.Sorted.{IsStrictlySortedBy}
use Rattle.std.specs.BTreeMap.{is_at}
use Rattle.std.specs.declared.cmp.Ordering.{Ordering}
use Rattle.std.proofs.lemmas.Bool.{or_parts, not_from_false}
use Rattle.std.proofs.lemmas.List.{append-nil}
use Rattle.std.proofs.lemmas.Map.Keys.{IsDistinct-from_sorted}
use Rattle.ug_adjout.specs.Tables.{has, without, joined, value_at, with_value}
use Rattle.ug_adjout.specs.Pending.{AdjRibOut, nothing_out, waits, still_forced, requeue, with_desired, with_all_forced, with_formatted, with_all_formatted, IsExact}
use Rattle.ug_adjout.specs.TableLaws.{value_at-other, with_value-sorted, has-append, has-filter, has-joined, has-keys_of, sorted-joined, distinct-filter, distinct-append, distinct-one, filter_but_one, at_turned}

module _ {K : Type 0} {cmp : K → K → Ordering} (total : IsTotalOrder cmp) (exact : IsAntisymmetric cmp) where
  -- ---- the list that a change leaves

  owed : (t old new : Bool) → (t ≡ true → old ≡ false → new ≡ true) → ((t && old) || ((t && not old) && new)) ≡ t
  owed true true new h = refl
  owed true false new h = h refl refl
  owed false old new h = refl

  pub has-requeue : (test : K → Bool) (old changed : List K) (q : K) → (test q ≡ true → has cmp old q ≡ false → has cmp changed q ≡ true) → has cmp (requeue cmp test old changed) q ≡ test q
  has-requeue test old changed q h =
      has-append total exact (filter test old) (filter (λ k. test k && not (has cmp old k)) changed) q
      ∙ ap (λ b. b || has cmp (filter (λ k. test k && not (has cmp old k)) changed) q) (has-filter total exact test old q)
      ∙ ap (λ b. (test q && has cmp old q) || b) (has-filter total exact (λ k. test k && not (has cmp old k)) changed q)
      ∙ owed (test q) (has cmp old q) (has cmp changed q) h

  apart_of : (t o c : Bool) → (t && o) ≡ true → ((t && not o) && c) ≡ false
  apart_of true true c e = refl
  apart_of true false c e = absurd cc
  apart_of false o c e = absurd cc

  pub distinct-requeue : (test : K → Bool) (old changed : List K) → IsDistinct (eq_by_cmp cmp) old → IsDistinct (eq_by_cmp cmp) changed → IsDistinct (eq_by_cmp cmp) (requeue cmp test old changed)
  distinct-requeue test old changed d e =
      distinct-append total exact _ _ (distinct-filter total exact test old d) (distinct-filter total exact (λ k. test k && not (has cmp old k)) changed e)
      (λ q is. has-filter total exact (λ k. test k && not (has cmp old k)) changed q ∙ apart_of (test q) (has cmp old q) (has cmp changed q) (sym (has-filter total exact test old q) ∙ is))

  -- ---- one key changes

  one_listed : (b o : Bool) (key : K) (xs : List K) → (o ≡ false → without cmp xs key ≡ xs)
      → cond b xs (without cmp xs key) ++ cond (b && not o) (key ∷ []) [] ≡ cond b (cond o xs (xs ++ key ∷ [])) (without cmp xs key)
  one_listed true true key xs h = append-nil xs
  one_listed true false key xs h = refl
  one_listed false o key xs h = append-nil (without cmp xs key)

  absent : (t h : Bool) → (t || h) ≡ false → not t ≡ true
  absent true h e = absurd cc
  absent false h e = refl

  pub without_absent : (key : K) (xs : List K) → has cmp xs key ≡ false → without cmp xs key ≡ xs
  without_absent key [] e = refl
  without_absent key (x ∷ xs) e =
      let p = or_parts (is_at (cmp key) x) (has cmp xs key) e in
      ap (λ b. cond b (x ∷ without cmp xs key) (without cmp xs key)) (not_from_false (is_at (cmp key) x) p.0) ∙ ap (λ l. x ∷ l) (without_absent key xs p.1)

  -- where all other keys of the list are still pending, the key that changed keeps its place, goes last, or leaves
  pub requeue_one : (test : K → Bool) (old : List K) (key : K) → ((q : K) → is_at (cmp key) q ≡ false → has cmp old q ≡ true → test q ≡ true)
      → requeue cmp test old (key ∷ []) ≡ cond (test key) (cond (has cmp old key) old (old ++ key ∷ [])) (without cmp old key)
  requeue_one test old key h =
      ap (λ l. l ++ cond (test key && not (has cmp old key)) (key ∷ []) []) (filter_but_one total exact test key old h)
      ∙ one_listed (test key) (has cmp old key) key old (without_absent key old)

module _ {K V : Type 0} {cmp : K → K → Ordering} (total : IsTotalOrder cmp) (exact : IsAntisymmetric cmp) (same : V → V → Bool) where
  other_forced : (f d h t : Bool) → t ≡ ((f || d) && h) → (t && d) ≡ (h && d)
  other_forced true true h t e = ap (λ b. b && true) e
  other_forced true false h t e = both_none t h
    where
      both_none : (a b : Bool) → (a && false) ≡ (b && false)
      both_none true true = refl
      both_none true false = refl
      both_none false true = refl
      both_none false false = refl
  other_forced false true h t e = ap (λ b. b && true) e
  other_forced false false true t e = ap (λ b. b && false) e
  other_forced false false false t e = ap (λ b. b && false) e

  -- whether other keys wait isn't touched by a change of one key's desired value
  pub waits-with_desired : (f d : List (K × V)) (forced : List K) (key q : K) (w : Option V) → is_at (cmp q) key ≡ false
      → waits cmp same f (with_value cmp d key w) (still_forced cmp f (with_value cmp d key w) forced) q ≡ waits cmp same f d forced q
  waits-with_desired f d forced key q w apart =
      let new : value_at cmp (with_value cmp d key w) q ≡ value_at cmp d q = value_at-other total exact d key q w apart in
      let left : has cmp (still_forced cmp f (with_value cmp d key w) forced) q ≡ ((is_some (value_at cmp f q) || is_some (value_at cmp d q)) && has cmp forced q) =
      has-filter total exact (λ k. is_some (value_at cmp f k) || is_some (value_at cmp (with_value cmp d key w) k)) forced q
      ∙ ap (λ o. (is_some (value_at cmp f q) || is_some o) && has cmp forced q) new in
      ap (λ o. not (option_eq same (value_at cmp f q) o) || (has cmp (still_forced cmp f (with_value cmp d key w) forced) q && is_some o)) new
      ∙ ap (λ b. not (option_eq same (value_at cmp f q) (value_at cmp d q)) || b) (other_forced (is_some (value_at cmp f q)) (is_some (value_at cmp d q)) (has cmp forced q) _ left)

  -- nor by the formatting of one key
  pub waits-with_formatted : (f d : List (K × V)) (forced : List K) (key q : K) (w : Option V) → is_at (cmp q) key ≡ false
      → waits cmp same (with_value cmp f key w) d (without cmp forced key) q ≡ waits cmp same f d forced q
  waits-with_formatted f d forced key q w apart =
      ap (λ o. not (option_eq same o (value_at cmp d q)) || (has cmp (without cmp forced key) q && is_some (value_at cmp d q))) (value_at-other total exact f key q w apart)
      ∙ ap (λ b. not (option_eq same (value_at cmp f q) (value_at cmp d q)) || (b && is_some (value_at cmp d q)))
      (has-filter total exact (λ k. not (is_at (cmp key) k)) forced q ∙ ap (λ b. b && has cmp forced q) (not_from_false (is_at (cmp key) q) (at_turned total exact key q ∙ apart)))

  -- a key that is neither listed nor changed doesn't wait
  listed_or_changed : (old : List K) (key q : K) (new_waits old_waits : Bool) → (is_at (cmp q) key ≡ false → new_waits ≡ old_waits) → has cmp old q ≡ old_waits
      → new_waits ≡ true → has cmp old q ≡ false → has cmp (key ∷ []) q ≡ true
  listed_or_changed old key q n o kept listed waiting out = by (is_at (cmp q) key) refl
    where
      by : (b : Bool) → is_at (cmp q) key ≡ b → (is_at (cmp q) key || false) ≡ true
      by true at = ap (λ b. b || false) at
      by false at = absurd (let z = sym out ∙ listed ∙ sym (kept at) ∙ waiting in cc)

  pub exact-with_desired : (a : AdjRibOut K V) (key : K) (w : Option V) → IsExact cmp same a → IsExact cmp same (with_desired cmp same a key w)
  exact-with_desired a key w is = record {
    all = λ q. has-requeue total exact _ a.pending (key ∷ []) q (listed_or_changed a.pending key q _ _ (λ apart. waits-with_desired a.formatted a.desired a.forced key q w apart) (is.all q));
    once = distinct-requeue total exact _ a.pending (key ∷ []) is.once (distinct-one total exact key);
    formatted_rows = is.formatted_rows;
    desired_rows = with_value-sorted total exact a.desired key w is.desired_rows;
  }

  pub exact-with_formatted : (a : AdjRibOut K V) (key : K) → IsExact cmp same a → IsExact cmp same (with_formatted cmp same a key)
  exact-with_formatted a key is = let w = value_at cmp a.desired key in record {
    all = λ q. has-requeue total exact _ a.pending (key ∷ []) q (listed_or_changed a.pending key q _ _ (λ apart. waits-with_formatted a.formatted a.desired a.forced key q w apart) (is.all q));
    once = distinct-requeue total exact _ a.pending (key ∷ []) is.once (distinct-one total exact key);
    formatted_rows = with_value-sorted total exact a.formatted key w is.formatted_rows;
    desired_rows = is.desired_rows;
  }

  pub exact-with_all_formatted : (keys : List K) (a : AdjRibOut K V) → IsExact cmp same a → IsExact cmp same (with_all_formatted cmp same a keys)
  exact-with_all_formatted [] a is = is
  exact-with_all_formatted (key ∷ keys) a is = exact-with_all_formatted keys (with_formatted cmp same a key) (exact-with_formatted a key is)

  some_value : (f d : Option V) (h : Bool) → (not (option_eq same f d) || (h && is_some d)) ≡ true → (is_some f || is_some d) ≡ true
  some_value None None h e = absurd (let z = sym e ∙ none h in cc)
    where
      none : (b : Bool) → (false || (b && false)) ≡ false
      none true = refl
      none false = refl
  some_value None (Some d) h e = refl
  some_value (Some f) d h e = refl

  pub exact-with_all_forced : (a : AdjRibOut K V) → IsExact cmp same a → IsExact cmp same (with_all_forced cmp same a)
  exact-with_all_forced a is =
      let keys = joined cmp (keys_of a.formatted) (keys_of a.desired) in
      record {
        all = λ q. has-requeue total exact _ a.pending keys q (λ waiting out. has-joined total exact (keys_of a.formatted) (keys_of a.desired) q
            ∙ ap (λ b. b || has cmp (keys_of a.desired) q) (has-keys_of total exact a.formatted q) ∙ ap (λ b. is_some (value_at cmp a.formatted q) || b) (has-keys_of total exact a.desired q)
            ∙ some_value (value_at cmp a.formatted q) (value_at cmp a.desired q) (has cmp keys q) waiting);
        once = distinct-requeue total exact _ a.pending keys is.once (IsDistinct-from_sorted cmp keys (sorted-joined total exact (keys_of a.formatted) (keys_of a.desired) is.formatted_rows));
        formatted_rows = is.formatted_rows;
        desired_rows = is.desired_rows;
      }

module _ {K V : Type 0} {cmp : K → K → Ordering} (same : V → V → Bool) where
  pub exact-nothing_out : IsExact cmp same nothing_out
  unfolding IsDistinct IsStrictlySortedBy
  exact-nothing_out = record { all = λ q. refl; once = tt; formatted_rows = tt; desired_rows = tt }
