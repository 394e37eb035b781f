-- Where a key stands among keys that ascend.
use Rattle.std.proofs.Common.{◌≡◌, ℕ, zero, suc, ◌+◌, ◌<◌, ◌≤◌, inl, inr, Bool, true, false, List, [], ◌∷◌, length, slice_get, get_or, Some, refl, sym, ◌∙◌, ap, subst, arith}
use Rattle.std.specs.declared.cmp.Ordering.{Ordering}
use Rattle.std.specs.declared.cmp.Ordering.TheVariants.{Less, Equal, Greater}
use Rattle.std.specs.Ordering.{ordering_reverse}
use Rattle.std.specs.List.{AllByRecursion}
use Rattle.std.specs.List.Sorted.{IsStrictlySortedBy}
use Rattle.std.proofs.lemmas.Bool.{cases_lt}
use Rattle.std.proofs.lemmas.Option.{slice_get_within, slice_get-get_or}
use Rattle.ug_types.specs.declared.key.Key.{Key}
use Rattle.ug_types.specs.Keys.{same_key}
use Rattle.ug_types.specs.Orders.{key_cmp, key_cmp_total}
use Rattle.ug_types.specs.OrderLaws.{key_cmp-IsAntisymmetric}
use Rattle.ug_message.specs.Tables.{among}
use Rattle.ug_hearing.specs.Keyed.{IsPlaceOf, IsWithin}
use Rattle.ug_hearing.proofs.Keys.{same_is}
use Rattle.ug_hearing.proofs.Among.{either}

pub not-less-self : (k : Key) → key_cmp k k ≡ Less → ⊥
not-less-self k is = by (key_cmp k k) is (key_cmp_total.antisymm k k)
  where
    by : (o : Ordering) → o ≡ Less → o ≡ ordering_reverse o → ⊥
    by Less e f = absurd cc
    by Equal e f = absurd cc
    by Greater e f = absurd cc

pub not-both-less : (a b : Key) → key_cmp a b ≡ Less → key_cmp b a ≡ Less → ⊥
not-both-less a b one other = by (key_cmp a b) (key_cmp b a) one other (key_cmp_total.antisymm a b)
  where
    by : (o r : Ordering) → o ≡ Less → r ≡ Less → o ≡ ordering_reverse r → ⊥
    by o r e f g = absurd (let h : Less ≡ ordering_reverse Less = sym e ∙ (g ∙ ap ordering_reverse f) in cc)

pub less-of-greater : (a b : Key) → key_cmp a b ≡ Greater → key_cmp b a ≡ Less
less-of-greater a b is = by (key_cmp a b) (key_cmp b a) is (key_cmp_total.antisymm a b)
  where
    by : (o r : Ordering) → o ≡ Greater → o ≡ ordering_reverse r → r ≡ Less
    by o Less e f = refl
    by o Equal e f = absurd (let h : Greater ≡ Equal = sym e ∙ f in cc)
    by o Greater e f = absurd (let h : Greater ≡ Less = sym e ∙ f in cc)

all_got : (P : Key → Type 0) (keys : List Key) (i : ℕ) (k : Key) → AllByRecursion P keys → slice_get keys i ≡ Some k → P k
all_got P [] i k h is = absurd cc
all_got P (x ∷ keys) zero k h is = let same : x ≡ k = cc in subst P same h.0
all_got P (x ∷ keys) (suc i) k h is = all_got P keys i k h.1 is

-- an earlier key is less than a later one
pub less-by-place : (keys : List Key) (i j : ℕ) (a b : Key) → IsStrictlySortedBy key_cmp keys → slice_get keys i ≡ Some a → slice_get keys j ≡ Some b → i < j → key_cmp a b ≡ Less
unfolding IsStrictlySortedBy
less-by-place [] i j a b h one other less = absurd cc
less-by-place (x ∷ keys) zero zero a b h one other less = absurd (omega arith)
less-by-place (x ∷ keys) zero (suc j) a b h one other less = let same : x ≡ a = cc in all_got (λ y. key_cmp a y ≡ Less) keys j b (subst (λ (z : Key). AllByRecursion (λ y. key_cmp z y ≡ Less) keys) same h.0) other
less-by-place (x ∷ keys) (suc i) zero a b h one other less = absurd (omega arith)
less-by-place (x ∷ keys) (suc i) (suc j) a b h one other less = less-by-place keys i j a b h.1 one other (omega arith)

pub some_same : {X : Type 0} (a b : X) → Some a ≡ Some b → a ≡ b
some_same a b e = cc

-- a key that is less than another stands before it
pub place-before : (keys : List Key) (i j : ℕ) (a b : Key) → IsStrictlySortedBy key_cmp keys → slice_get keys i ≡ Some a → slice_get keys j ≡ Some b → key_cmp a b ≡ Less → i < j
place-before keys i j a b h one other less = elim (cases_lt i j) [
  | inl is ↦ is
  | inr far ↦ absurd (elim (cases_lt j i) [
    | inl later ↦ not-both-less a b less (less-by-place keys j i b a h other one later)
    | inr near ↦
        let at : i ≡ j = omega arith in
        let same = some_same a b (sym one ∙ (ap (λ n. slice_get keys n) at ∙ other)) in
        not-less-self b (subst (λ (k : Key). key_cmp k b ≡ Less) same less)
  ])
]

-- it can only stand behind a key that is less
pub within-behind : (keys : List Key) (from to at : ℕ) (k d : Key) → IsStrictlySortedBy key_cmp keys → at < length keys → d ≡ get_or keys at d → key_cmp d k ≡ Less → IsWithin k keys from to → IsWithin k keys (at + 1) to
within-behind keys from to at k d h less is low within = λ place there.
    let before = place-before keys at place d k h (slice_get-get_or keys at d less ∙ ap Some (sym is)) there low in
    (omega arith, (within place there).1)

-- it can only stand before a key that is greater
pub within-before : (keys : List Key) (from to at : ℕ) (k d : Key) → IsStrictlySortedBy key_cmp keys → at < length keys → d ≡ get_or keys at d → key_cmp d k ≡ Greater → IsWithin k keys from to → IsWithin k keys from at
within-before keys from to at k d h less is high within = λ place there.
    ((within place there).0, place-before keys place at k d h there (slice_get-get_or keys at d less ∙ ap Some (sym is)) (less-of-greater d k high))

-- at first it can stand anywhere
pub within-all : (keys : List Key) (k : Key) → IsWithin k keys 0 (length keys)
within-all keys k = λ place there. (omega arith, slice_get_within keys place k there)

-- a key that ties with another in the order is it
pub place-tied : (keys : List Key) (at : ℕ) (k d : Key) → at < length keys → d ≡ get_or keys at d → key_cmp d k ≡ Equal → IsPlaceOf k keys at
place-tied keys at k d less is tie = slice_get-get_or keys at d less ∙ ap Some (sym is ∙ key_cmp-IsAntisymmetric d k tie)

-- one of the keys has a place
pub placed : (keys : List Key) (k : Key) → among keys k ≡ true → (place : ℕ) × IsPlaceOf k keys place
placed [] k there = absurd (let e : false ≡ true = there in cc)
placed (x ∷ keys) k there = elim (either (same_key k x) (among keys k) there) [
  | inl first ↦ (0, ap Some (sym (same_is k x first)))
  | inr later ↦ let rest = placed keys k later in (suc rest.0, rest.1)
]

-- one that has none isn't among them
pub nowhere : (keys : List Key) (k : Key) (from to : ℕ) → to ≤ from → IsWithin k keys from to → among keys k ≡ false
nowhere keys k from to none within = by (among keys k) refl
  where
    by : (b : Bool) → among keys k ≡ b → among keys k ≡ false
    by false is = is
    by true is = let p = placed keys k is in let w = within p.0 p.1 in absurd (omega arith)
