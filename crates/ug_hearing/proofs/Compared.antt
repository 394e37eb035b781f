-- Rows beside a whole table, key by key.
use Rattle.std.proofs.Common.{◌≡◌, ◌≢◌, ◌⊎◌, inl, inr, ℕ, zero, suc, Bool, true, false, List, [], ◌∷◌, ◌++◌, Option, Some, None, refl, sym, ◌∙◌, ap, subst}
use Rattle.std.specs.Prelude.{◌||◌, is_some}
use Rattle.std.specs.Map.{keys_of}
use Rattle.std.specs.List.{AllByRecursion}
use Rattle.std.specs.List.Sorted.{IsStrictlySortedBy}
use Rattle.std.specs.declared.cmp.Ordering.TheVariants.{Less, Greater}
use Rattle.std.proofs.lemmas.List.{map-append}
use Rattle.ug_types.specs.declared.key.Key.{Key}
use Rattle.ug_types.specs.Keys.{same_key}
use Rattle.ug_types.specs.Orders.{key_cmp}
use Rattle.ug_message.specs.Tables.{among}
use Rattle.ug_hearing.specs.declared.change.Change.{Change}
use Rattle.ug_hearing.specs.Pasts.{value_before}
use Rattle.ug_hearing.specs.declared.row.Row.{Row}
use Rattle.ug_hearing.specs.Keyed.{value_for, items_or_none}
use Rattle.ug_hearing.specs.Courses.{changes_of, passed}
use Rattle.ug_hearing.specs.Rows.{row_for}
use Rattle.ug_hearing.proofs.Keys.{same_is}
use Rattle.ug_hearing.proofs.Among.{either}
use Rattle.ug_hearing.proofs.Listed.{among-there, found-in}
use Rattle.ug_hearing.specs.Differences.{IsSame, Differs}
use Rattle.ug_hearing.proofs.Leasts.{up-to-self}

value_none : (n : ℕ) → value_before n [] ≡ None
value_none zero = refl
value_none (suc n) = refl

all_at : (P : Key → Type 0) (keys : List Key) (q : Key) → AllByRecursion P keys → among keys q ≡ true → P q
all_at P [] q h there = absurd (let e : false ≡ true = there in cc)
all_at P (k ∷ keys) q h there = elim (either (same_key q k) (among keys q) there) [
  | inl it ↦ subst P (sym (same_is q k it)) h.0
  | inr later ↦ all_at P keys q h.1 later
]

all_last : (P : Key → Type 0) (keys : List Key) (k : Key) → AllByRecursion P keys → P k → AllByRecursion P (keys ++ k ∷ [])
all_last P [] k h is = (is, tt)
all_last P (x ∷ keys) k h is = (h.0, all_last P keys k h.1 is)

behind : (front rest : List Key) (k : Key) → IsStrictlySortedBy key_cmp (front ++ k ∷ rest) → AllByRecursion (λ y. key_cmp k y ≡ Less) rest
unfolding IsStrictlySortedBy
behind [] rest k h = h.0
behind (x ∷ front) rest k h = behind front rest k h.1

among_split : (front rest : List Key) (k q : Key) → among (front ++ k ∷ rest) q ≡ true → (among front q ≡ true) ⊎ ((same_key q k ≡ true) ⊎ (among rest q ≡ true))
among_split [] rest k q there = inr (either (same_key q k) (among rest q) there)
among_split (x ∷ front) rest k q there = elim (either (same_key q x) (among (front ++ k ∷ rest) q) there) [
  | inl first ↦ inl (or_true (same_key q x) (among front q) first)
  | inr later ↦ elim (among_split front rest k q later) [ inl sooner ↦ inl (or_second (same_key q x) (among front q) sooner) | inr other ↦ inr other ]
]
  where
    or_true : (a b : Bool) → a ≡ true → (a || b) ≡ true
    or_true true b e = refl
    or_true false b e = absurd cc

    or_second : (a b : Bool) → b ≡ true → (a || b) ≡ true
    or_second true b e = refl
    or_second false b e = e

module _ (rows : List (Key × Row)) (entries : List (Key × List Change)) (from version : ℕ) where
  Same : Key → Type 0
  Same q = IsSame rows entries from version q

  -- a key without changes never has a route
  absent : (q : Key) (o : Option (List Change)) → value_for entries q ≡ o → is_some o ≡ false → IsSame rows entries from version q
  absent q (Some changes) is none = absurd cc
  absent q None is none =
      let empty : changes_of entries q ≡ [] = ap items_or_none is in
      subst (λ (cs : List Change). value_before (row_for rows entries from q).standing.next cs ≡ value_before (passed version cs) cs) (sym empty)
      (value_none (row_for rows entries from q).standing.next ∙ sym (value_none (passed version [])))

  pub present : (q : Key) → Differs rows entries from version q → among (keys_of entries) q ≡ true
  present q differs = by (is_some (value_for entries q)) refl
    where
      by : (b : Bool) → is_some (value_for entries q) ≡ b → among (keys_of entries) q ≡ true
      by true is = sym (among-there entries q) ∙ is
      by false is = absurd (differs (absent q (value_for entries q) refl is))

  -- where all keys have been seen to be the same, all are
  pub all-same : (done : List (Key × List Change)) → done ++ [] ≡ entries → AllByRecursion (λ k. IsSame rows entries from version k) (keys_of done) → (q : Key) → IsSame rows entries from version q
  all-same done parts h q = by (is_some (value_for entries q)) refl
    where
      same : keys_of entries ≡ keys_of done
      same = ap (λ (es : List (Key × List Change)). keys_of es) (sym parts) ∙ ap (λ (es : List (Key × List Change)). keys_of es) (append_nil done)
        where
          append_nil : (xs : List (Key × List Change)) → xs ++ [] ≡ xs
          append_nil [] = refl
          append_nil (x ∷ xs) = ap (λ (ys : List (Key × List Change)). x ∷ ys) (append_nil xs)

      by : (b : Bool) → is_some (value_for entries q) ≡ b → IsSame rows entries from version q
      by true is = all_at (λ k. IsSame rows entries from version k) (keys_of done) q h (ap (λ (ks : List Key). among ks q) (sym same) ∙ (sym (among-there entries q) ∙ is))
      by false is = absent q (value_for entries q) refl is

  -- the first that differs is the least
  pub first-least : (done rest : List (Key × List Change)) (e : Key × List Change) → done ++ e ∷ rest ≡ entries → IsStrictlySortedBy key_cmp (keys_of entries)
      → AllByRecursion (λ k. IsSame rows entries from version k) (keys_of done) → (q : Key) → Differs rows entries from version q → key_cmp e.0 q ≢ Greater
  first-least done rest e parts sorted h q differs =
      let keys : keys_of entries ≡ keys_of done ++ e.0 ∷ keys_of rest = ap (λ (es : List (Key × List Change)). keys_of es) (sym parts) ∙ map-append (λ (x : Key × List Change). x.0) done (e ∷ rest) in
      let less = behind (keys_of done) (keys_of rest) e.0 (subst (λ (ks : List Key). IsStrictlySortedBy key_cmp ks) keys sorted) in
      elim (among_split (keys_of done) (keys_of rest) e.0 q (ap (λ (ks : List Key). among ks q) (sym keys) ∙ present q differs)) [
        | inl sooner ↦ absurd (differs (all_at (λ k. IsSame rows entries from version k) (keys_of done) q h sooner))
        | inr other ↦ elim other [
          | inl it ↦ subst (λ (k : Key). key_cmp e.0 k ≢ Greater) (sym (same_is q e.0 it)) (up-to-self e.0)
          | inr later ↦ (λ greater. let is = all_at (λ y. key_cmp e.0 y ≡ Less) (keys_of rest) q less later in never (sym is ∙ greater))
        ]
      ]
    where
      never : Less ≡ Greater → ⊥
      never e = absurd cc

-- all keys so far, and one more
pub one-more-of : (P : Key → Type 0) (done : List (Key × List Change)) (e : Key × List Change) → AllByRecursion P (keys_of done) → P e.0 → AllByRecursion P (keys_of (done ++ e ∷ []))
one-more-of P done e h is = subst (λ (ks : List Key). AllByRecursion P ks) (sym (map-append (λ (x : Key × List Change). x.0) done (e ∷ []))) (all_last P (keys_of done) e.0 h is)

pub all-map : (P Q : Key → Type 0) (keys : List Key) → ((k : Key) → P k → Q k) → AllByRecursion P keys → AllByRecursion Q keys
all-map P Q [] goes h = tt
all-map P Q (k ∷ keys) goes h = (goes k h.0, all-map P Q keys goes h.1)

-- each entry of a list in the order of its keys is found by its key
pub entry-found : {X : Type 0} (done rest : List (Key × X)) (e : Key × X) (all : List (Key × X)) → done ++ e ∷ rest ≡ all → IsStrictlySortedBy key_cmp (keys_of all) → value_for all e.0 ≡ Some e.1
entry-found {X} done rest e all parts sorted =
    subst (λ (es : List (Key × X)). value_for es e.0 ≡ Some e.1) parts (found-in done rest e (subst (λ (es : List (Key × X)). IsStrictlySortedBy key_cmp (keys_of es)) (sym parts) sorted))
