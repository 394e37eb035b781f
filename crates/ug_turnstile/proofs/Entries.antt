-- Lists of entries, and facts of each of a list.
use Rattle.std.proofs.Common.{◌≡◌, ◌≢◌, ℕ, zero, suc, ◌+◌, ◌<◌, Bool, true, false, eqb, ne_eqb, eq-eqb, List, [], ◌∷◌, ◌++◌, map, length, get_or, sym, refl, ap, ◌∙◌, subst, arith, append_assoc, length-append, append-nil, Option, Some, None}
use Rattle.std.specs.Prelude.{All, Any}
use Rattle.std.proofs.lemmas.List.Elements.{filter-append}
use Rattle.ug_turnstile.specs.Rule.{Each}
use Rattle.ug_turnstile.specs.Passes.{Held, owned_by, mine, StartsWith, Adds, Agrees, IsToldBy, Takes}

module _ {A : Type 0} where
  pub each_map : {P Q : A → Type 0} → ((x : A) → P x → Q x) → (xs : List A) → Each P xs → Each Q xs
  each_map f [] h = tt
  each_map f (x ∷ xs) h = (f x h.0, each_map f xs h.1)

  pub each_append : (P : A → Type 0) (xs ys : List A) → Each P xs → Each P ys → Each P (xs ++ ys)
  each_append P [] ys h k = k
  each_append P (x ∷ xs) ys h k = (h.0, each_append P xs ys h.1 k)

  pub each_both : (P Q : A → Type 0) (xs : List A) → Each P xs → Each Q xs → Each (λ x. P x × Q x) xs
  each_both P Q [] h k = tt
  each_both P Q (x ∷ xs) h k = ((h.0, k.0), each_both P Q xs h.1 k.1)

  pub each_of_all : (P : A → Type 0) (xs : List A) → All P xs → Each P xs
  each_of_all P [] h = tt
  each_of_all P (x ∷ xs) h = (h 0 x (omega arith), each_of_all P xs (λ k d lt. h (suc k) d (omega arith)))

  pub all_of_each : (P : A → Type 0) (xs : List A) → Each P xs → All P xs
  all_of_each P [] h k d lt = absurd (omega arith)
  all_of_each P (x ∷ xs) h zero d lt = h.0
  all_of_each P (x ∷ xs) h (suc k) d lt = all_of_each P xs h.1 k d (omega arith)

  pub append_cancel : (xs ys zs : List A) → xs ++ ys ≡ xs ++ zs → ys ≡ zs
  append_cancel [] ys zs e = e
  append_cancel (x ∷ xs) ys zs e = append_cancel xs ys zs (ap rest e)
    where
      rest : List A → List A
      rest [] = []
      rest (y ∷ ys') = ys'

module _ {E : Type 0} (owner : E → ℕ) where
  -- another number owns none of them
  pub owned_none : (k n : ℕ) → n ≢ k → (added : List E) → Each (λ e. owner e ≡ k) added → owned_by owner n added ≡ []
  owned_none k n other [] h = refl
  owned_none k n other (e ∷ es) h = rw (ne_eqb (owner e) n (λ same. other (sym same ∙ h.0))) (owned_none k n other es h.1)

  -- the number owns all of them
  pub owned_all : (k : ℕ) (added : List E) → Each (λ e. owner e ≡ k) added → owned_by owner k added ≡ added
  owned_all k [] h = refl
  owned_all k (e ∷ es) h = rw (eq-eqb (owner e) k h.0) (ap (λ (xs : List E). e ∷ xs) (owned_all k es h.1))

pub starts_all : {E : Type 0} (xs : List E) → StartsWith xs xs
starts_all xs = ([], sym (append-nil xs))

pub starts_longer : {E : Type 0} (log seen added entries : List E) → StartsWith log seen → entries ≡ log ++ added → StartsWith entries seen
starts_longer log seen added entries h e = (h.0 ++ added, e ∙ (ap (λ (l : List _). l ++ added) h.1 ∙ append_assoc seen h.0 added))

-- two values under `Some` are one
pub some_same : {A : Type 0} {a b : A} → Some a ≡ Some b → a ≡ b
some_same {A} {a} {b} e = ap value e
  where
    value : Option A → A
    value None = a
    value (Some x) = x

module _ {E R : Type 0} (owner : E → ℕ) where
  -- what was added in a turn is what the pass gains
  pub mine_gains : (old new : Held E R) (entries added : List E) → Adds owner old.number old.seen entries → new.number ≡ old.number → new.seen ≡ entries → entries ≡ old.seen ++ added
      → mine owner new ≡ mine owner old ++ added
  mine_gains old new entries added adds number seen e =
      let same : adds.0 ≡ added = append_cancel old.seen adds.0 added (sym adds.1 ∙ e) in
      let owned : owned_by owner old.number added ≡ added = subst (λ (es : List E). owned_by owner old.number es ≡ es) same (owned_all owner old.number adds.0 (each_of_all (λ x. owner x ≡ old.number) adds.0 adds.2)) in
      ap (λ (k : ℕ). owned_by owner k new.seen) number ∙ (ap (owned_by owner old.number) (seen ∙ e)
      ∙ (filter-append (λ x. eqb (owner x) old.number) old.seen added ∙ ap (λ (es : List E). mine owner old ++ es) owned))

  -- a pass that took the turn has no more entries than it had
  pub mine_taken : (root : R) (entries : List E) (spent : Bool) (old new : Held E R) → Takes owner root entries spent old new → mine owner new ≡ mine owner old
  mine_taken root entries spent old new takes = ap (λ (k : ℕ). owned_by owner k new.seen) takes.0.1 ∙ (ap (owned_by owner old.number) takes.2 ∙ takes.3.2)

module _ {A : Type 0} (P : A → Type 0) where
  each_front : (xs : List A) (y : A) → Each P (xs ++ y ∷ []) → Each P xs
  each_front [] y h = tt
  each_front (x ∷ xs) y h = (h.0, each_front xs y h.1)

  each_last : (xs : List A) (y : A) → Each P (xs ++ y ∷ []) → P y
  each_last [] y h = h.0
  each_last (x ∷ xs) y h = each_last xs y h.1

  -- of a list without its last item, and of the last item
  pub all_front : (all xs : List A) (y : A) → all ≡ xs ++ y ∷ [] → All P all → All P xs
  all_front all xs y e h = all_of_each P xs (each_front xs y (each_of_all P (xs ++ y ∷ []) (subst (All P) e h)))

  pub all_last : (all xs : List A) (y : A) → all ≡ xs ++ y ∷ [] → All P all → P y
  all_last all xs y e h = each_last xs y (each_of_all P (xs ++ y ∷ []) (subst (All P) e h))

module _ {A B : Type 0} (f : A → B) where
  pub each_over_map : (P : B → Type 0) (xs : List A) → Each (λ x. P (f x)) xs → Each P (map f xs)
  each_over_map P [] h = tt
  each_over_map P (x ∷ xs) h = (h.0, each_over_map P xs h.1)

  any_under_at : (P : B → Type 0) (xs : List A) (k : ℕ) (d : B) → k < length (map f xs) → P (get_or (map f xs) k d) → Any (λ x. P (f x)) xs
  any_under_at P [] k d lt h = absurd (omega arith)
  any_under_at P (x ∷ xs) zero d lt h = (0, x, omega arith, refl, h)
  any_under_at P (x ∷ xs) (suc k) d lt h = let r = any_under_at P xs k d (omega arith) h in (suc r.0, r.1, omega arith, r.3, r.4)

  pub any_under_map : (P : B → Type 0) (xs : List A) → Any P (map f xs) → Any (λ x. P (f x)) xs
  any_under_map P xs h = any_under_at P xs h.0 h.1 h.2 (subst P (sym h.3) h.4)

module _ {E : Type 0} (owner : E → ℕ) where
  owned_yes : (n : ℕ) (y : E) (l : List E) → eqb (owner y) n ≡ true → owned_by owner n (y ∷ l) ≡ y ∷ owned_by owner n l
  owned_yes n y l e = rw e refl

  owned_no : (n : ℕ) (y : E) (l : List E) → eqb (owner y) n ≡ false → owned_by owner n (y ∷ l) ≡ owned_by owner n l
  owned_no n y l e = rw e refl

  -- what a number owns of two lists that begin alike, behind the first
  owned_rest : (n : ℕ) (y : E) (l m : List E) → owned_by owner n (y ∷ l) ≡ owned_by owner n (y ∷ m) → owned_by owner n l ≡ owned_by owner n m
  owned_rest n y l m same = by_test (eqb (owner y) n) refl
    where
      by_test : (t : Bool) → eqb (owner y) n ≡ t → owned_by owner n l ≡ owned_by owner n m
      by_test true e = append_cancel (y ∷ []) (owned_by owner n l) (owned_by owner n m) (sym (owned_yes n y l e) ∙ (same ∙ owned_yes n y m e))
      by_test false e = sym (owned_no n y l e) ∙ (same ∙ owned_no n y m e)

  -- a pass that has seen all that its number owns has seen an entry of its number, wherever that stands
  reaches : (n : ℕ) (a : E) (o rest : List E) → owner a ≡ n → (c seen : List E) → c ++ a ∷ o ≡ seen ++ rest → owned_by owner n (c ++ a ∷ o) ≡ owned_by owner n seen → (s : List E) × (seen ≡ c ++ a ∷ s)
  reaches n a o rest is c [] e owned =
      let parts : owned_by owner n (c ++ a ∷ o) ≡ owned_by owner n c ++ (a ∷ owned_by owner n o) =
      filter-append (λ x. eqb (owner x) n) c (a ∷ o) ∙ ap (λ (es : List E). owned_by owner n c ++ es) (owned_yes n a o (eq-eqb (owner a) n is)) in
      let none : length (owned_by owner n c ++ (a ∷ owned_by owner n o)) ≡ 0 = ap length (sym parts ∙ owned) in
      let long : length (owned_by owner n c ++ (a ∷ owned_by owner n o)) ≡ length (owned_by owner n c) + suc (length (owned_by owner n o)) = length-append (owned_by owner n c) (a ∷ owned_by owner n o) in
      absurd (omega arith)
  reaches n a o rest is [] (x ∷ seen) e owned = (seen, ap (λ (y : E). y ∷ seen) (sym (heads a x o (seen ++ rest) e)))
    where
      heads : (y z : E) (l m : List E) → y ∷ l ≡ z ∷ m → y ≡ z
      heads y z l m eq = ap head eq
        where
          head : List E → E
          head [] = y
          head (w ∷ ws) = w
  reaches n a o rest is (y ∷ c) (x ∷ seen) e owned =
      let first : y ≡ x = cc in
      let later : c ++ a ∷ o ≡ seen ++ rest = cc in
      let found = reaches n a o rest is c seen later (owned_rest n x (c ++ a ∷ o) seen (ap (λ (z : E). owned_by owner n (z ∷ (c ++ a ∷ o))) (sym first) ∙ owned)) in
      (found.0, ap (λ (es : List E). x ∷ es) found.1 ∙ ap (λ (z : E). z ∷ (c ++ a ∷ found.0)) (sym first))

  each_at : (P : E → Type 0) (c : List E) (a : E) (o : List E) → Each P (c ++ a ∷ o) → P a
  each_at P [] a o h = h.0
  each_at P (x ∷ c) a o h = each_at P c a o h.1

  module _ {R : Type 0} (root : R) (passes : List (Held E R)) where
    -- where one of two lists that passes tell goes on with an entry, the other does so too
    goes_on : (c : List E) (a : E) (o h : List E) → IsToldBy owner root (c ++ a ∷ o) passes → IsToldBy owner root (c ++ h) passes → (r : List E) × (h ≡ a ∷ r)
    goes_on c a o h one other =
        let p = each_at (λ e. Any (λ q. q.number ≡ owner e) passes) c a o (each_of_all (λ e. Any (λ q. q.number ≡ owner e) passes) (c ++ a ∷ o) one.1) in
        let here = subst (Agrees owner root (c ++ a ∷ o)) p.3 (one.0 p.0 p.1 p.2) in
        let there = subst (Agrees owner root (c ++ h)) p.3 (other.0 p.0 p.1 p.2) in
        let found = reaches p.1.number a o here.1.0 (sym p.4) c p.1.seen here.1.1 here.2 in (
          found.0 ++ there.1.0,
          append_cancel c h (a ∷ (found.0 ++ there.1.0)) (there.1.1 ∙ (ap (λ (es : List E). es ++ there.1.0) found.1 ∙ append_assoc c (a ∷ found.0) there.1.0)),
        )

    told_from : (c o h : List E) → IsToldBy owner root (c ++ o) passes → IsToldBy owner root (c ++ h) passes → o ≡ h
    told_from c [] [] one other = refl
    told_from c [] (b ∷ h) one other = let more = goes_on c b h [] other one in cc
    told_from c (a ∷ o) h one other =
        let more = goes_on c a o h one other in
        let longer : (es : List E) → c ++ a ∷ es ≡ (c ++ a ∷ []) ++ es = λ es. sym (append_assoc c (a ∷ []) es) in
        let same : o ≡ more.0 =
        told_from (c ++ a ∷ []) o more.0 (subst (λ (es : List E). IsToldBy owner root es passes) (longer o) one)
        (subst (λ (es : List E). IsToldBy owner root es passes) (ap (λ (es : List E). c ++ es) more.1 ∙ longer more.0) other) in
        ap (λ (es : List E). a ∷ es) same ∙ sym more.1

    -- Passes tell no other entries.
    pub told_once : (one other : List E) → IsToldBy owner root one passes → IsToldBy owner root other passes → one ≡ other
    told_once one other h k = told_from [] one other h k
