-- Lists of group keys: those of subgroups, each once, and sums over them.
use Rattle.std.proofs.Common.{◌≡◌, ℕ, ◌+◌, ◌≤◌, zero, suc, Bool, true, false, cond, List, [], ◌∷◌, slice_get, Option, Some, None, refl, sym, ◌∙◌, ap, arith}
use Rattle.std.specs.Prelude.{◌||◌, if◌then◌else◌}
use Rattle.std.specs.Cmp.{IsEquivalence}
use Rattle.std.specs.List.{IsDistinct, AllByRecursion, sum_by}
use Rattle.std.specs.Set.{remove_key, unique_keys}
use Rattle.std.proofs.lemmas.List.Sums.{sum_by-cons}
use Rattle.std.proofs.lemmas.Map.Keys.{IsDistinct-cons, IsDistinct-head, IsDistinct-tail}
use Rattle.ug_outbound.specs.declared.key.GroupKey.{GroupKey}
use Rattle.ug_outbound.specs.contracts.key.GroupKeyEq.TheImpl.Laws as key_laws
use Rattle.ug_group_rules.specs.Packets.{same_group}
use Rattle.ug_group_rules.specs.Machine.{Subgroup, System}
use Rattle.ug_group_rules.specs.Evaluations.{has_key, keys_from, live_keys}
use Rattle.ug_group_rules.proofs.Groups.{group-same}

pub laws : IsEquivalence same_group
laws = key_laws.lawful.laws

pub or-so : (a b : Bool) → b ≡ true → (a || b) ≡ true
or-so true b e = refl
or-so false b e = e

left_none : (a b : Bool) → (a || b) ≡ false → a ≡ false
left_none true b e = absurd cc
left_none false b e = refl

right_none : (a b : Bool) → (a || b) ≡ false → b ≡ false
right_none true b e = absurd cc
right_none false b e = e

-- ---- keys that are apart

-- one that is not among some is none of them
apart_all : (k : GroupKey) (ks : List GroupKey) → has_key ks k ≡ false → AllByRecursion (λ (y : GroupKey). same_group k y ≡ false) ks
apart_all k [] e = tt
apart_all k (y ∷ ks) e = (left_none (same_group k y) (has_key ks k) e, apart_all k ks (right_none (same_group k y) (has_key ks k) e))

apart_one : (k q : GroupKey) (ks : List GroupKey) → AllByRecursion (λ (y : GroupKey). same_group k y ≡ false) ks → has_key ks q ≡ true → same_group k q ≡ false
apart_one k q [] apart is = absurd cc
apart_one k q (y ∷ ks) apart is = by (same_group q y) refl is (apart_one k q ks apart.1)
  where
    by : (b : Bool) → same_group q y ≡ b → (b || has_key ks q) ≡ true → (has_key ks q ≡ true → same_group k q ≡ false) → same_group k q ≡ false
    by true e is rest = ap (same_group k) (group-same q y e) ∙ apart.0
    by false e is rest = rest is

other_key : (ks : List GroupKey) (k j : GroupKey) → has_key ks k ≡ true → has_key ks j ≡ false → same_group k j ≡ false
other_key ks k j is none = by (same_group k j) refl
  where
    by : (b : Bool) → same_group k j ≡ b → b ≡ false
    by true e = let so : has_key ks j ≡ true = ap (has_key ks) (sym (group-same k j e)) ∙ is in absurd cc
    by false e = refl

-- ---- the keys of subgroups

-- a key that stands before is not told again
keys_apart : (before : List GroupKey) (xs : List (Option Subgroup)) (k : GroupKey) → has_key before k ≡ true → has_key (keys_from before xs) k ≡ false
keys_apart before [] k is = refl
keys_apart before (None ∷ xs) k is = keys_apart before xs k is
keys_apart before (Some x ∷ xs) k is = by (has_key before x.key) refl (keys_apart before xs k is) (keys_apart (x.key ∷ before) xs k (or-so (same_group k x.key) (has_key before k) is))
  where
    by : (b : Bool) → has_key before x.key ≡ b → has_key (keys_from before xs) k ≡ false → has_key (keys_from (x.key ∷ before) xs) k ≡ false
        → has_key (if b then keys_from before xs else x.key ∷ keys_from (x.key ∷ before) xs) k ≡ false
    by true e same rest = same
    by false e same rest = let other = other_key before k x.key is e in rw other rest

keys_distinct : (before : List GroupKey) (xs : List (Option Subgroup)) → IsDistinct same_group (keys_from before xs)
unfolding IsDistinct
keys_distinct before [] = tt
keys_distinct before (None ∷ xs) = keys_distinct before xs
keys_distinct before (Some x ∷ xs) = by (has_key before x.key) (keys_distinct before xs) (keys_distinct (x.key ∷ before) xs)
  where
    here : has_key (x.key ∷ before) x.key ≡ true
    here = ap (λ (b : Bool). b || has_key before x.key) (laws.refl x.key)

    by : (b : Bool) → IsDistinct same_group (keys_from before xs) → IsDistinct same_group (keys_from (x.key ∷ before) xs)
        → IsDistinct same_group (if b then keys_from before xs else x.key ∷ keys_from (x.key ∷ before) xs)
    by true same rest = same
    by false same rest = IsDistinct-cons same_group x.key (keys_from (x.key ∷ before) xs) (apart_all x.key (keys_from (x.key ∷ before) xs) (keys_apart (x.key ∷ before) xs x.key here)) rest

pub live-distinct : (s : System) → IsDistinct same_group (live_keys s)
live-distinct s = keys_distinct [] s.subgroups

-- each subgroup has its key among them
keys_met : (before : List GroupKey) (xs : List (Option Subgroup)) (g : ℕ) (x : Subgroup) → slice_get xs g ≡ Some (Some x) → has_key before x.key ≡ false → has_key (keys_from before xs) x.key ≡ true
keys_met before [] g x is none = absurd cc
keys_met before (None ∷ xs) zero x is none = absurd cc
keys_met before (None ∷ xs) (suc g) x is none = keys_met before xs g x is none
keys_met before (Some y ∷ xs) zero x is none = by (has_key before y.key) refl
  where
    same : y ≡ x
    same = cc

    by : (b : Bool) → has_key before y.key ≡ b → has_key (if b then keys_from before xs else y.key ∷ keys_from (y.key ∷ before) xs) x.key ≡ true
    by true e = let met : has_key before x.key ≡ true = ap (λ (z : Subgroup). has_key before z.key) (sym same) ∙ e in absurd cc
    by false e = ap (λ (b : Bool). b || has_key (keys_from (y.key ∷ before) xs) x.key) (ap (λ (z : Subgroup). same_group x.key z.key) same ∙ laws.refl x.key)
keys_met before (Some y ∷ xs) (suc g) x is none = by (has_key before y.key) (same_group x.key y.key) refl (keys_met before xs g x is none) (λ apart. keys_met (y.key ∷ before) xs g x is apart)
  where
    by : (b c : Bool) → same_group x.key y.key ≡ c → has_key (keys_from before xs) x.key ≡ true → (has_key (y.key ∷ before) x.key ≡ false → has_key (keys_from (y.key ∷ before) xs) x.key ≡ true)
        → has_key (if b then keys_from before xs else y.key ∷ keys_from (y.key ∷ before) xs) x.key ≡ true
    by true c e same rest = same
    by false true e same rest = ap (λ (b : Bool). b || has_key (keys_from (y.key ∷ before) xs) x.key) e
    by false false e same rest = ap (λ (b : Bool). b || has_key (keys_from (y.key ∷ before) xs) x.key) e ∙ rest (ap (λ (b : Bool). b || has_key before x.key) e ∙ none)

pub live-met : (s : System) (g : ℕ) (x : Subgroup) → slice_get s.subgroups g ≡ Some (Some x) → has_key (live_keys s) x.key ≡ true
live-met s g x is = keys_met [] s.subgroups g x is refl

-- and each of them is the key of a subgroup
pub record IsKeyOf (xs : List (Option Subgroup)) (k : GroupKey) : Type 0 where
  pub place : ℕ
  pub subgroup : Subgroup
  pub is : slice_get xs place ≡ Some (Some subgroup)
  pub same : subgroup.key ≡ k

key_behind : (x : Option Subgroup) (xs : List (Option Subgroup)) (k : GroupKey) → IsKeyOf xs k → IsKeyOf (x ∷ xs) k
key_behind x xs k found = record { place = suc found.place; subgroup = found.subgroup; is = found.is; same = found.same }

keys_found : (before : List GroupKey) (xs : List (Option Subgroup)) (k : GroupKey) → has_key (keys_from before xs) k ≡ true → IsKeyOf xs k
keys_found before [] k is = absurd cc
keys_found before (None ∷ xs) k is = key_behind None xs k (keys_found before xs k is)
keys_found before (Some x ∷ xs) k is = by (has_key before x.key) (same_group k x.key) refl is (λ there. keys_found before xs k there) (λ there. keys_found (x.key ∷ before) xs k there)
  where
    by : (b c : Bool) → same_group k x.key ≡ c → has_key (if b then keys_from before xs else x.key ∷ keys_from (x.key ∷ before) xs) k ≡ true
        → (has_key (keys_from before xs) k ≡ true → IsKeyOf xs k) → (has_key (keys_from (x.key ∷ before) xs) k ≡ true → IsKeyOf xs k) → IsKeyOf (Some x ∷ xs) k
    by true c e is same rest = key_behind (Some x) xs k (same is)
    by false true e is same rest = record { place = 0; subgroup = x; is = refl; same = sym (group-same k x.key e) }
    by false false e is same rest = key_behind (Some x) xs k (rest (ap (λ (b : Bool). b || has_key (keys_from (x.key ∷ before) xs) k) (sym e) ∙ is))

pub live-found : (s : System) (k : GroupKey) → has_key (live_keys s) k ≡ true → IsKeyOf s.subgroups k
live-found s k is = keys_found [] s.subgroups k is

-- ---- each key once

pub unique-met : (ks : List GroupKey) (k : GroupKey) → has_key (unique_keys same_group ks) k ≡ has_key ks k
unique-met [] k = refl
unique-met (x ∷ ks) k = by (has_key ks x) refl (same_group k x) refl (unique-met ks k)
  where
    by : (b : Bool) → has_key ks x ≡ b → (c : Bool) → same_group k x ≡ c → has_key (unique_keys same_group ks) k ≡ has_key ks k
        → has_key (cond b (unique_keys same_group ks) (x ∷ unique_keys same_group ks)) k ≡ (same_group k x || has_key ks k)
    by true there true e rest = rest ∙ ap (has_key ks) (group-same k x e) ∙ there ∙ ap (λ (b : Bool). b || has_key ks k) (sym e)
    by true there false e rest = rest ∙ ap (λ (b : Bool). b || has_key ks k) (sym e)
    by false there c e rest = ap (λ (b : Bool). same_group k x || b) rest

pub unique-distinct : (ks : List GroupKey) → IsDistinct same_group (unique_keys same_group ks)
unfolding IsDistinct
unique-distinct [] = tt
unique-distinct (x ∷ ks) = by (has_key ks x) refl (unique-distinct ks)
  where
    by : (b : Bool) → has_key ks x ≡ b → IsDistinct same_group (unique_keys same_group ks) → IsDistinct same_group (cond b (unique_keys same_group ks) (x ∷ unique_keys same_group ks))
    by true there rest = rest
    by false there rest = IsDistinct-cons same_group x (unique_keys same_group ks) (apart_all x (unique_keys same_group ks) (unique-met ks x ∙ there)) rest

-- ---- sums

sum_without : (f : GroupKey → ℕ) (k : GroupKey) (ks : List GroupKey) → has_key ks k ≡ true → sum_by f (remove_key (same_group k) ks) + f k ≡ sum_by f ks
sum_without f k [] is = absurd cc
sum_without f k (y ∷ ks) is = by (same_group k y) refl is (λ there. sum_without f k ks there)
  where
    by : (b : Bool) → same_group k y ≡ b → (b || has_key ks k) ≡ true → (has_key ks k ≡ true → sum_by f (remove_key (same_group k) ks) + f k ≡ sum_by f ks)
        → sum_by f (cond b ks (y ∷ remove_key (same_group k) ks)) + f k ≡ sum_by f (y ∷ ks)
    by true e is rest = let same = ap f (group-same k y e) in let first = sum_by-cons f y ks in omega arith
    by false e is rest = let gone = rest is in let first = sum_by-cons f y ks in let second = sum_by-cons f y (remove_key (same_group k) ks) in omega arith

has_without : (k q : GroupKey) (ks : List GroupKey) → same_group k q ≡ false → has_key (remove_key (same_group k) ks) q ≡ has_key ks q
has_without k q [] apart = refl
has_without k q (y ∷ ks) apart = by (same_group k y) refl (has_without k q ks apart)
  where
    by : (b : Bool) → same_group k y ≡ b → has_key (remove_key (same_group k) ks) q ≡ has_key ks q → has_key (cond b ks (y ∷ remove_key (same_group k) ks)) q ≡ (same_group q y || has_key ks q)
    by true e rest = ap (λ (b : Bool). b || has_key ks q) (sym (ap (same_group q) (sym (group-same k y e)) ∙ laws.symm q k ∙ apart))
    by false e rest = ap (λ (b : Bool). same_group q y || b) rest

-- over keys that differ a sum is no more than over a list that has them all
pub sum-within : (f : GroupKey → ℕ) (ks js : List GroupKey) → IsDistinct same_group ks → ((q : GroupKey) → has_key ks q ≡ true → has_key js q ≡ true) → sum_by f ks ≤ sum_by f js
sum-within f [] js apart are = omega arith
sum-within f (k ∷ ks) js apart are =
    let found : has_key js k ≡ true = are k (ap (λ (b : Bool). b || has_key ks k) (laws.refl k)) in
    let gone = sum_without f k js found in
    let rest =
    sum-within f ks (remove_key (same_group k) js) (IsDistinct-tail same_group k ks apart)
    (λ q there. has_without k q js (apart_one k q ks (IsDistinct-head same_group k ks apart) there) ∙ are q (or-so (same_group q k) (has_key ks q) there))
    in
    let first = sum_by-cons f k ks in
    omega arith

-- and over two lists of the same keys, each once, it is the same
pub sum-same : (f : GroupKey → ℕ) (ks js : List GroupKey) → IsDistinct same_group ks → IsDistinct same_group js → ((q : GroupKey) → has_key ks q ≡ has_key js q) → sum_by f ks ≡ sum_by f js
sum-same f ks js one two same =
    let up = sum-within f ks js one (λ q there. sym (same q) ∙ there) in
    let down = sum-within f js ks two (λ q there. same q ∙ there) in
    omega arith
