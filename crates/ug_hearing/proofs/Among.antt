-- Keys among others.
use Rattle.std.proofs.Common.{◌≡◌, ℕ, zero, suc, ◌==◌, ◌⊎◌, inl, inr, Bool, true, false, List, [], ◌∷◌, ◌++◌, slice_get, Some, refl, sym, ◌∙◌, ap, subst, arith}
use Rattle.std.specs.Prelude.{◌||◌, ◌&&◌}
use Rattle.std.specs.List.{list_any}
use Rattle.std.proofs.lemmas.Bool.Decides.{nat_tests}
use Rattle.std.proofs.lemmas.List.Folds.{list_any-append}
use Rattle.ug_types.specs.declared.key.Key.{Key}
use Rattle.ug_types.specs.declared.family.Family.{Family}
use Rattle.ug_types.specs.declared.family.Family.TheVariants.{V4, V6}
use Rattle.ug_types.specs.Ip.{same_family}
use Rattle.ug_types.specs.Keys.{same_key}
use Rattle.ug_message.specs.Tables.{among}
use Rattle.ug_hearing.proofs.Keys.{same_is}

is_self : (n : ℕ) → (n == n) ≡ true
is_self n = grind (arith, nat_tests)

own_family : (f : Family) → same_family f f ≡ true
own_family V4 = refl
own_family V6 = refl

four : (a b c d : Bool) → a ≡ true → b ≡ true → c ≡ true → d ≡ true → ((a && (b && c)) && d) ≡ true
four a b c d ea eb ec ed = cc

pub same-self : (k : Key) → same_key k k ≡ true
same-self k = four _ _ _ _ (own_family k.prefix.family) (is_self k.prefix.bits) (is_self k.prefix.len) (is_self k.id)

pub same-sym : (a b : Key) → same_key a b ≡ same_key b a
same-sym a b = by (same_key a b) (same_key b a) refl refl
  where
    by : (x y : Bool) → same_key a b ≡ x → same_key b a ≡ y → x ≡ y
    by true true e f = refl
    by false false e f = refl
    by true false e f = let same = same_is a b e in let is : same_key b a ≡ true = subst (λ (k : Key). same_key k a ≡ true) same (same-self a) in absurd cc
    by false true e f = let same = same_is b a f in let is : same_key a b ≡ true = subst (λ (k : Key). same_key k b ≡ true) same (same-self b) in absurd cc

or_none : (b : Bool) → (b || false) ≡ b
or_none true = refl
or_none false = refl

pub either : (a b : Bool) → (a || b) ≡ true → (a ≡ true) ⊎ (b ≡ true)
either true b e = inl refl
either false b e = inr e

pub neither : (a b : Bool) → (a || b) ≡ false → (a ≡ false) × (b ≡ false)
neither true b e = absurd cc
neither false b e = (refl, e)

pub or-first : (a b : Bool) → a ≡ true → (a || b) ≡ true
or-first true b e = refl
or-first false b e = absurd cc

pub or-second : (a b : Bool) → b ≡ true → (a || b) ≡ true
or-second true b e = refl
or-second false b e = e

pub among-last : (keys : List Key) (k q : Key) → among (keys ++ k ∷ []) q ≡ (among keys q || same_key q k)
among-last keys k q = list_any-append (same_key q) keys (k ∷ []) ∙ ap (λ (b : Bool). list_any (same_key q) keys || b) (or_none (same_key q k))

-- a key that has a place is among them
pub among-placed : (keys : List Key) (i : ℕ) (k : Key) → slice_get keys i ≡ Some k → among keys k ≡ true
among-placed [] i k there = absurd cc
among-placed (x ∷ keys) zero k there = let same : x ≡ k = cc in or-first (same_key k x) (among keys k) (subst (λ (z : Key). same_key k z ≡ true) (sym same) (same-self k))
among-placed (x ∷ keys) (suc i) k there = or-second (same_key k x) (among keys k) (among-placed keys i k there)
