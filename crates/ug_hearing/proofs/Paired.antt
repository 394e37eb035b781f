-- Keys, each with the value at its place.
use Rattle.std.proofs.Common.{◌≡◌, ℕ, zero, suc, Bool, true, false, cond, List, [], ◌∷◌, ◌++◌, length, slice_get, Option, Some, None, refl, sym, ◌∙◌, ap, subst, arith}
use Rattle.std.specs.Prelude.{IfNone}
use Rattle.std.specs.Map.{keys_of}
use Rattle.std.specs.List.{sum_by}
use Rattle.std.proofs.lemmas.List.Sums.{sum_by-cons}
use Rattle.std.proofs.lemmas.Map.Keys.{sorted_tail as sorted-by-tail}
use Rattle.std.specs.List.Sorted.{IsStrictlySortedBy}
use Rattle.ug_types.specs.declared.key.Key.{Key}
use Rattle.ug_types.specs.Keys.{same_key}
use Rattle.ug_types.specs.Orders.{key_cmp}
use Rattle.ug_message.specs.Tables.{among}
use Rattle.ug_hearing.specs.Keyed.{value_for, pairs_of}
use Rattle.ug_hearing.proofs.Among.{same-self, neither}
use Rattle.ug_hearing.proofs.Keys.{same_is}
use Rattle.ug_hearing.proofs.Ascending.{not-less-self, less-by-place, some_same}

pub sorted-tail : (x : Key) (keys : List Key) → IsStrictlySortedBy key_cmp (x ∷ keys) → IsStrictlySortedBy key_cmp keys
sorted-tail x keys h = sorted-by-tail key_cmp x keys h

module _ {V : Type 0} where
  pub keys-paired : (keys : List Key) (values : List V) → length values ≡ length keys → keys_of (pairs_of keys values) ≡ keys
  keys-paired [] values same = refl
  keys-paired (k ∷ keys) [] same = absurd (omega (arith, same))
  keys-paired (k ∷ keys) (v ∷ values) same = ap (λ (ks : List Key). k ∷ ks) (keys-paired keys values (omega (arith, same)))

  pub length-paired : (keys : List Key) (values : List V) → length values ≡ length keys → length (pairs_of keys values) ≡ length values
  length-paired [] [] same = refl
  length-paired [] (v ∷ values) same = absurd (omega (arith, same))
  length-paired (k ∷ keys) [] same = absurd (omega (arith, same))
  length-paired (k ∷ keys) (v ∷ values) same = let rest = length-paired keys values (omega (arith, same)) in omega (arith, rest)

  pub pair-at : (keys : List Key) (values : List V) (i : ℕ) (k : Key) (v : V) → slice_get keys i ≡ Some k → slice_get values i ≡ Some v → slice_get (pairs_of keys values) i ≡ Some (k, v)
  pair-at [] values i k v one other = absurd cc
  pair-at (x ∷ keys) [] i k v one other = absurd cc
  pair-at (x ∷ keys) (y ∷ values) zero k v one other = cc
  pair-at (x ∷ keys) (y ∷ values) (suc i) k v one other = pair-at keys values i k v one other

  -- pairs that are added one at a time
  pub paired-last : (keys : List Key) (values : List V) (k : Key) (v : V) (rest : List (Key × V)) → length values ≡ length keys
      → pairs_of (keys ++ k ∷ []) (values ++ v ∷ []) ++ rest ≡ pairs_of keys values ++ (k, v) ∷ rest
  paired-last [] [] k v rest same = refl
  paired-last [] (w ∷ values) k v rest same = absurd (omega (arith, same))
  paired-last (x ∷ keys) [] k v rest same = absurd (omega (arith, same))
  paired-last (x ∷ keys) (w ∷ values) k v rest same = ap (λ (es : List (Key × V)). (x, w) ∷ es) (paired-last keys values k v rest (omega (arith, same)))

  pub absent-paired : (entries : List (Key × V)) (q : Key) → among (keys_of entries) q ≡ false → value_for entries q ≡ None
  absent-paired [] q none = refl
  absent-paired (e ∷ entries) q none =
      let parts = neither (same_key q e.0) (among (keys_of entries) q) none in
      ap (λ (b : Bool). cond b (Some e.1) (value_for entries q)) parts.0 ∙ absent-paired entries q parts.1

  -- the value at a key's place is the key's
  pub paired-found : (keys : List Key) (values : List V) (i : ℕ) (k : Key) (v : V) → IsStrictlySortedBy key_cmp keys → slice_get keys i ≡ Some k → slice_get values i ≡ Some v → value_for (pairs_of keys values) k ≡ Some v
  paired-found [] values i k v sorted one other = absurd cc
  paired-found (x ∷ keys) [] i k v sorted one other = absurd cc
  paired-found (x ∷ keys) (y ∷ values) zero k v sorted one other =
      let same : x ≡ k = some_same x k one in
      ap (λ (b : Bool). cond b (Some y) (value_for (pairs_of keys values) k)) (subst (λ (z : Key). same_key k z ≡ true) (sym same) (same-self k)) ∙ other
  paired-found (x ∷ keys) (y ∷ values) (suc i) k v sorted one other =
      ap (λ (b : Bool). cond b (Some y) (value_for (pairs_of keys values) k)) (by (same_key k x) refl) ∙ paired-found keys values i k v (sorted-tail x keys sorted) one other
    where
      by : (b : Bool) → same_key k x ≡ b → same_key k x ≡ false
      by false is = is
      by true is = absurd (not-less-self k (less-by-place (x ∷ keys) 0 (suc i) k k sorted (ap Some (sym (same_is k x is))) one (omega arith)))

-- a fact that is there where a place is none
pub none_map : {A B : Type 0} (place : Option ℕ) → (A → B) → IfNone place A → IfNone place B
none_map None go h = go h
none_map (Some x) go h = tt

-- what the values come to together
pub sum-paired : {V : Type 0} (size : V → ℕ) (keys : List Key) (values : List V) → length values ≡ length keys → sum_by (λ (e : Key × V). size e.1) (pairs_of keys values) ≡ sum_by size values
sum-paired size [] [] same = refl
sum-paired size [] (v ∷ values) same = absurd (omega (arith, same))
sum-paired size (k ∷ keys) [] same = absurd (omega (arith, same))
sum-paired {V} size (k ∷ keys) (v ∷ values) same =
    let rest = sum-paired size keys values (omega (arith, same)) in
    let one = sum_by-cons (λ (e : Key × V). size e.1) (k, v) (pairs_of keys values) in
    let other = sum_by-cons size v values in
    omega (arith, rest, one, other)
