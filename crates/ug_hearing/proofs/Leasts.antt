-- The least of keys, one more at a time.
use Rattle.std.proofs.Common.{◌≡◌, ◌≢◌, inl, inr, true, false, List, [], ◌∷◌, ◌++◌, Option, Some, None, refl, sym, ◌∙◌, ap, subst}
use Rattle.std.specs.declared.cmp.Ordering.{Ordering}
use Rattle.std.specs.declared.cmp.Ordering.TheVariants.{Less, Equal, Greater}
use Rattle.std.specs.Ordering.{ordering_reverse}
use Rattle.ug_types.specs.declared.key.Key.{Key}
use Rattle.ug_types.specs.Keys.{same_key}
use Rattle.ug_types.specs.Orders.{key_cmp, key_cmp_total}
use Rattle.ug_message.specs.Tables.{among}
use Rattle.ug_hearing.proofs.Keys.{same_is}
use Rattle.ug_hearing.proofs.Among.{same-self, either, or-first, or-second, among-last}
use Rattle.ug_hearing.specs.Least.{IsLesser, IsLeastOf}

pub up-to-self : (k : Key) → key_cmp k k ≢ Greater
up-to-self k is = by (key_cmp k k) is (key_cmp_total.antisymm k k)
  where
    by : (o : Ordering) → o ≡ Greater → o ≡ ordering_reverse o → ⊥
    by Less e f = absurd cc
    by Equal e f = absurd cc
    by Greater e f = absurd cc

some_same : (a b : Key) → Some a ≡ Some b → a ≡ b
some_same a b e = cc

none_some : {X : Type 0} (a : X) → None ≡ Some a → ⊥
none_some a e = absurd cc

pub up-to-trans : (a b c : Key) → key_cmp a b ≢ Greater → key_cmp b c ≢ Greater → key_cmp a c ≢ Greater
up-to-trans a b c h k is = by (key_cmp b c) refl
  where
    flip : (o r : Ordering) → o ≡ Greater → o ≡ ordering_reverse r → r ≡ Less
    flip o Less e f = refl
    flip o Equal e f = absurd (let x : Greater ≡ Equal = sym e ∙ f in cc)
    flip o Greater e f = absurd (let x : Greater ≡ Less = sym e ∙ f in cc)

    unflip : (o r : Ordering) → r ≡ Less → o ≡ ordering_reverse r → o ≡ Greater
    unflip o Less e f = f
    unflip o Equal e f = absurd cc
    unflip o Greater e f = absurd cc

    c_less : key_cmp c a ≡ Less
    c_less = flip (key_cmp a c) (key_cmp c a) is (key_cmp_total.antisymm a c)

    by : (o : Ordering) → key_cmp b c ≡ o → ⊥
    by Less e = h (unflip (key_cmp a b) (key_cmp b a) (key_cmp_total.trans b c a e c_less) (key_cmp_total.antisymm a b))
    by Equal e = h (unflip (key_cmp a b) (key_cmp b a) (key_cmp_total.congr b c a e ∙ c_less) (key_cmp_total.antisymm a b))
    by Greater e = k e

one_more : (keys : List Key) (k : Key) (before after : Option Key) → IsLeastOf keys before → IsLesser before (Some k) after → IsLeastOf (keys ++ k ∷ []) after
one_more keys k before None h l = absurd (none_some k (sym l.1))
one_more keys k None (Some x) h l =
    let is : x ≡ k = elim l.0 [ inl never ↦ absurd (none_some x never) | inr it ↦ sym (some_same k x it) ] in (
      subst (λ (y : Key). among (keys ++ k ∷ []) y ≡ true) (sym is) (among-last keys k k ∙ or-second (among keys k) (same_key k k) (same-self k)),
      λ q there. elim (either (among keys q) (same_key q k) (sym (among-last keys k q) ∙ there)) [
        | inl sooner ↦ absurd (let e : false ≡ true = ap (λ (ks : List Key). among ks q) (sym h) ∙ sooner in cc)
        | inr it ↦ subst (λ (y : Key). key_cmp x y ≢ Greater) (sym (same_is q k it)) l.2
      ],
    )
one_more keys k (Some y) (Some x) h l = (
  elim l.0 [
    | inl first ↦ subst (λ (z : Key). among (keys ++ k ∷ []) z ≡ true) (some_same y x first) (among-last keys k y ∙ or-first (among keys y) (same_key y k) h.0)
    | inr it ↦ subst (λ (z : Key). among (keys ++ k ∷ []) z ≡ true) (some_same k x it) (among-last keys k k ∙ or-second (among keys k) (same_key k k) (same-self k))
  ],
  λ q there. elim (either (among keys q) (same_key q k) (sym (among-last keys k q) ∙ there)) [
    | inl sooner ↦ up-to-trans x y q l.1 (h.1 q sooner)
    | inr it ↦ subst (λ (z : Key). key_cmp x z ≢ Greater) (sym (same_is q k it)) l.2
  ],
)

pub one-more-least : (keys : List Key) (k : Key) (before after : Option Key) → IsLeastOf keys before → IsLesser before (Some k) after → IsLeastOf (keys ++ k ∷ []) after
one-more-least keys k before after h l = one_more keys k before after h l
