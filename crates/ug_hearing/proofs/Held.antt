-- Keys that have a value at their place, and others beside them.
use Rattle.std.proofs.Common.{◌≡◌, ℕ, zero, suc, Bool, true, false, cond, List, [], ◌∷◌, ◌++◌, length, replicate, slice_get, slice_set, Option, Some, None, Result, Ok, Err, refl, sym, ◌∙◌, ap, subst, arith}
use Rattle.std.specs.Prelude.{if◌then◌else◌, ◌||◌, is_some, OnOk, OnErr, IfOk}
use Rattle.std.specs.Map.{keys_of}
use Rattle.std.specs.List.Sorted.{IsStrictlySortedBy}
use Rattle.std.proofs.lemmas.List.Folds.{list_any-append}
use Rattle.ug_types.specs.declared.key.Key.{Key}
use Rattle.ug_types.specs.Keys.{same_key}
use Rattle.ug_types.specs.Orders.{key_cmp}
use Rattle.ug_message.specs.Tables.{among}
use Rattle.ug_hearing.specs.Keyed.{value_for, held_of, HasNoneOf}
use Rattle.ug_hearing.proofs.Among.{same-self, same-sym, neither, or-first, or-second}
use Rattle.ug_hearing.proofs.Listed.{among-there}
use Rattle.ug_hearing.proofs.Keys.{same_is}
use Rattle.ug_hearing.proofs.Ascending.{not-less-self, less-by-place, some_same, placed}
use Rattle.ug_hearing.proofs.Paired.{sorted-tail}

no_some : {X : Type 0} (x : X) → Some x ≡ None → ⊥
no_some x e = absurd cc

-- the first of keys that ascend is none of the others
apart : (x : Key) (keys : List Key) (i : ℕ) (k : Key) → IsStrictlySortedBy key_cmp (x ∷ keys) → slice_get keys i ≡ Some k → same_key k x ≡ false
apart x keys i k sorted there = by (same_key k x) refl
  where
    by : (b : Bool) → same_key k x ≡ b → same_key k x ≡ false
    by false is = is
    by true is = absurd (not-less-self k (less-by-place (x ∷ keys) 0 (suc i) k k sorted (ap Some (sym (same_is k x is))) there (omega arith)))

not_among : (x : Key) (keys : List Key) → IsStrictlySortedBy key_cmp (x ∷ keys) → among keys x ≡ false
not_among x keys sorted = by (among keys x) refl
  where
    by : (b : Bool) → among keys x ≡ b → among keys x ≡ false
    by false is = is
    by true is = let p = placed keys x is in absurd (not-less-self x (less-by-place (x ∷ keys) 0 (suc p.0) x x sorted refl p.1 (omega arith)))

module _ {V : Type 0} where
  -- a key that none of these is has what it has beside them
  pub held-out : (keys : List Key) (values : List (Option V)) (rest : List (Key × V)) (k : Key) → among keys k ≡ false → value_for (held_of keys values ++ rest) k ≡ value_for rest k
  held-out [] values rest k out = refl
  held-out (x ∷ keys) [] rest k out = refl
  held-out (x ∷ keys) (None ∷ values) rest k out = held-out keys values rest k (neither (same_key k x) (among keys k) out).1
  held-out (x ∷ keys) (Some v ∷ values) rest k out =
      ap (λ (b : Bool). cond b (Some v) (value_for (held_of keys values ++ rest) k)) (neither (same_key k x) (among keys k) out).0
      ∙ held-out keys values rest k (neither (same_key k x) (among keys k) out).1

  -- what a key has at its place
  pub held-at : (keys : List Key) (values : List (Option V)) (rest : List (Key × V)) (i : ℕ) (k : Key) (o : Option V) → IsStrictlySortedBy key_cmp keys → slice_get keys i ≡ Some k → slice_get values i ≡ Some o
      → value_for rest k ≡ None → value_for (held_of keys values ++ rest) k ≡ o
  held-at [] values rest i k o sorted there value none = absurd cc
  held-at (x ∷ keys) [] rest i k o sorted there value none = absurd cc
  held-at (x ∷ keys) (None ∷ values) rest zero k o sorted there value none =
      let same : x ≡ k = some_same x k there in
      let is : None ≡ o = some_same None o value in
      held-out keys values rest k (subst (λ (z : Key). among keys z ≡ false) same (not_among x keys sorted)) ∙ (none ∙ is)
  held-at (x ∷ keys) (Some v ∷ values) rest zero k o sorted there value none =
      let same : x ≡ k = some_same x k there in
      ap (λ (b : Bool). cond b (Some v) (value_for (held_of keys values ++ rest) k)) (subst (λ (z : Key). same_key k z ≡ true) (sym same) (same-self k)) ∙ some_same (Some v) o value
  held-at (x ∷ keys) (None ∷ values) rest (suc i) k o sorted there value none = held-at keys values rest i k o (sorted-tail x keys sorted) there value none
  held-at (x ∷ keys) (Some v ∷ values) rest (suc i) k o sorted there value none =
      ap (λ (b : Bool). cond b (Some v) (value_for (held_of keys values ++ rest) k)) (apart x keys i k sorted there) ∙ held-at keys values rest i k o (sorted-tail x keys sorted) there value none

  put_first : (x : Key) (r : V) (y : Option V) (keys : List Key) (values : List (Option V)) (rest : List (Key × V)) (q : Key)
      → cond (same_key q x) (Some r) (value_for (held_of keys values ++ rest) q) ≡ (if same_key x q then Some r else value_for (held_of (x ∷ keys) (y ∷ values) ++ rest) q)
  put_first x r y keys values rest q = by y (same_key q x) refl ∙ ap (λ (b : Bool). if b then Some r else value_for (held_of (x ∷ keys) (y ∷ values) ++ rest) q) (same-sym q x)
    where
      by : (y : Option V) (b : Bool) → same_key q x ≡ b → cond (same_key q x) (Some r) (value_for (held_of keys values ++ rest) q) ≡ (if same_key q x then Some r else value_for (held_of (x ∷ keys) (y ∷ values) ++ rest) q)
      by None b is = refl
      by (Some v) true is = subst (λ (c : Bool). cond c (Some r) (value_for (held_of keys values ++ rest) q) ≡ (if c then Some r else cond c (Some v) (value_for (held_of keys values ++ rest) q))) (sym is) refl
      by (Some v) false is = subst (λ (c : Bool). cond c (Some r) (value_for (held_of keys values ++ rest) q) ≡ (if c then Some r else cond c (Some v) (value_for (held_of keys values ++ rest) q))) (sym is) refl

  put_later : (x k q : Key) (r v : V) (new old : Option V) → same_key k x ≡ false → new ≡ (if same_key k q then Some r else old) → cond (same_key q x) (Some v) new ≡ (if same_key k q then Some r else cond (same_key q x) (Some v) old)
  put_later x k q r v new old differ h = by (same_key q x) refl
    where
      by : (b : Bool) → same_key q x ≡ b → cond (same_key q x) (Some v) new ≡ (if same_key k q then Some r else cond (same_key q x) (Some v) old)
      by true is =
          let no : same_key k q ≡ false = subst (λ (z : Key). same_key k z ≡ false) (sym (same_is q x is)) differ in
          ap (λ (b : Bool). cond b (Some v) new) is
          ∙ sym (ap (λ (c : Bool). if c then Some r else cond (same_key q x) (Some v) old) no ∙ ap (λ (b : Bool). cond b (Some v) old) is)
      by false is =
          ap (λ (b : Bool). cond b (Some v) new) is ∙ (h ∙ sym (ap (λ (b : Bool). if same_key k q then Some r else cond b (Some v) old) is))

  -- a key gets a value at its place
  pub held-put : (keys : List Key) (values : List (Option V)) (rest : List (Key × V)) (i : ℕ) (k : Key) (r : V) → IsStrictlySortedBy key_cmp keys → length values ≡ length keys → slice_get keys i ≡ Some k
      → (q : Key) → value_for (held_of keys (slice_set values i (Some r)) ++ rest) q ≡ (if same_key k q then Some r else value_for (held_of keys values ++ rest) q)
  held-put [] values rest i k r sorted same there q = absurd cc
  held-put (x ∷ keys) [] rest i k r sorted same there q = absurd (omega (arith, same))
  held-put (x ∷ keys) (y ∷ values) rest zero k r sorted same there q =
      subst (λ (z : Key). cond (same_key q x) (Some r) (value_for (held_of keys values ++ rest) q) ≡ (if same_key z q then Some r else value_for (held_of (x ∷ keys) (y ∷ values) ++ rest) q)) (some_same x k there) (put_first x r y keys values rest q)
  held-put (x ∷ keys) (None ∷ values) rest (suc i) k r sorted same there q = held-put keys values rest i k r (sorted-tail x keys sorted) (omega (arith, same)) there q
  held-put (x ∷ keys) (Some v ∷ values) rest (suc i) k r sorted same there q =
      put_later x k q r v (value_for (held_of keys (slice_set values i (Some r)) ++ rest) q) (value_for (held_of keys values ++ rest) q) (apart x keys i k sorted there)
      (held-put keys values rest i k r (sorted-tail x keys sorted) (omega (arith, same)) there q)

  abbrev or_else : Option V → Option V → Option V
  or_else (Some v) o = Some v
  or_else None o = o

  value_append : (xs ys : List (Key × V)) (q : Key) → value_for (xs ++ ys) q ≡ or_else (value_for xs q) (value_for ys q)
  value_append [] ys q = refl
  value_append (e ∷ xs) ys q = by (same_key q e.0) (value_append xs ys q)
    where
      by : (b : Bool) → value_for (xs ++ ys) q ≡ or_else (value_for xs q) (value_for ys q) → cond b (Some e.1) (value_for (xs ++ ys) q) ≡ or_else (cond b (Some e.1) (value_for xs q)) (value_for ys q)
      by true rest = refl
      by false rest = rest

  -- a key that has no place gets a value
  pub other-put : (keys : List Key) (values : List (Option V)) (old new : List (Key × V)) (k : Key) (r : V) → among keys k ≡ false → ((q : Key) → value_for new q ≡ (if same_key k q then Some r else value_for old q))
      → (q : Key) → value_for (held_of keys values ++ new) q ≡ (if same_key k q then Some r else value_for (held_of keys values ++ old) q)
  other-put keys values old new k r out h q = by (same_key k q) refl
    where
      by : (b : Bool) → same_key k q ≡ b → value_for (held_of keys values ++ new) q ≡ (if same_key k q then Some r else value_for (held_of keys values ++ old) q)
      by true is =
          held-out keys values new q (subst (λ (z : Key). among keys z ≡ false) (same_is k q is) out)
          ∙ (h q ∙ (ap (λ (b : Bool). if b then Some r else value_for old q) is ∙ sym (ap (λ (b : Bool). if b then Some r else value_for (held_of keys values ++ old) q) is)))
      by false is =
          value_append (held_of keys values) new q
          ∙ (ap (λ (o : Option V). or_else (value_for (held_of keys values) q) o) (h q ∙ ap (λ (b : Bool). if b then Some r else value_for old q) is)
          ∙ (sym (value_append (held_of keys values) old q) ∙ sym (ap (λ (b : Bool). if b then Some r else value_for (held_of keys values ++ old) q) is)))

  pub still-apart : (keys : List Key) (old new : List (Key × V)) (k : Key) (r : V) → among keys k ≡ false → HasNoneOf keys old → ((q : Key) → value_for new q ≡ (if same_key k q then Some r else value_for old q)) → HasNoneOf keys new
  still-apart keys old new k r out none h = λ q there. by q there (same_key k q) refl
    where
      by : (q : Key) → among keys q ≡ true → (b : Bool) → same_key k q ≡ b → value_for new q ≡ None
      by q there true is = absurd (let e : false ≡ true = sym (subst (λ (z : Key). among keys z ≡ false) (same_is k q is) out) ∙ there in cc)
      by q there false is = h q ∙ (ap (λ (b : Bool). if b then Some r else value_for old q) is ∙ none q there)

  pub held-none : (keys : List Key) (n : ℕ) → held_of {V = V} keys (replicate n None) ≡ []
  held-none [] n = refl
  held-none (k ∷ keys) zero = refl
  held-none (k ∷ keys) (suc n) = held-none keys n

  -- whichever has a value is one of the keys, or has it beside them
  pub held-among : (keys : List Key) (values : List (Option V)) (rest : List (Key × V)) (q : Key) → is_some (value_for (held_of keys values ++ rest) q) ≡ true → among (keys ++ keys_of rest) q ≡ true
  held-among keys values rest q some = list_any-append (same_key q) keys (keys_of rest) ∙ by (among keys q) refl
    where
      by : (b : Bool) → among keys q ≡ b → (among keys q || among (keys_of rest) q) ≡ true
      by true is = or-first (among keys q) (among (keys_of rest) q) is
      by false out = or-second (among keys q) (among (keys_of rest) q) (sym (among-there rest q) ∙ (sym (ap (λ (o : Option V). is_some o) (held-out keys values rest q out)) ∙ some))

pub by_result : {T E A B C : Type 0} (r : Result T E) → OnOk r A → OnErr r B → (A → C) → (B → C) → C
by_result (Ok x) a b f g = f a
by_result (Err e) a b f g = g b

pub ok_map : {T E A B : Type 0} (r : Result T E) → (A → B) → OnOk r A → OnOk r B
ok_map (Ok x) f a = f a
ok_map (Err e) f a = tt

pub empty : {X : Type 0} (xs : List X) → length xs ≡ 0 → xs ≡ []
empty [] none = refl
empty (x ∷ xs) none = absurd (omega (arith, none))

pub if-ok-map : {T E : Type 0} (r : Result T E) (P Q : T → Type 0) → ((x : T) → P x → Q x) → IfOk r P → IfOk r Q
if-ok-map (Ok x) P Q f h = f x h
if-ok-map (Err e) P Q f h = tt
