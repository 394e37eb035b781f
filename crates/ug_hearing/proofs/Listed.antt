-- Keys that are chosen by a test, and keys of a map.
use Rattle.std.proofs.Common.{◌≡◌, ℕ, inl, inr, Bool, true, false, cond, List, [], ◌∷◌, ◌++◌, Option, Some, None, refl, sym, ◌∙◌, ap, subst}
use Rattle.std.specs.Prelude.{◌||◌, ◌&&◌, is_some}
use Rattle.std.specs.Map.{keys_of}
use Rattle.std.specs.List.{AllByRecursion}
use Rattle.std.specs.List.Sorted.{IsStrictlySortedBy}
use Rattle.std.specs.declared.cmp.Ordering.{Ordering}
use Rattle.std.specs.declared.cmp.Ordering.TheVariants.{Less, Equal, Greater}
use Rattle.std.specs.Ordering.{ordering_reverse}
use Rattle.ug_types.specs.declared.key.Key.{Key}
use Rattle.ug_types.specs.Keys.{same_key}
use Rattle.ug_types.specs.Orders.{key_cmp, key_cmp_total}
use Rattle.ug_message.specs.Tables.{among}
use Rattle.ug_hearing.specs.declared.change.Change.{Change}
use Rattle.ug_hearing.specs.declared.row.Row.{Row}
use Rattle.ug_hearing.specs.Courses.{changes_of}
use Rattle.ug_hearing.specs.Heard.{is_stale_row, is_stale_in}
use Rattle.ug_hearing.specs.Keyed.{value_for}
use Rattle.ug_hearing.proofs.Keys.{same_is}
use Rattle.ug_hearing.proofs.Among.{same-self, either, or-first, or-second, among-last}

and_false : (a : Bool) → (a && false) ≡ false
and_false true = refl
and_false false = refl

and_true : (a : Bool) → (a && true) ≡ a
and_true true = refl
and_true false = refl

or_none : (b : Bool) → (b || false) ≡ b
or_none true = refl
or_none false = refl

or_some : (b : Bool) → (b || true) ≡ true
or_some true = refl
or_some false = refl

-- keys of a list that are chosen by a test
module _ (test : Key → Bool) (front left : List Key) (k : Key) (h : (q : Key) → among left q ≡ (among front q && test q)) where
  pub chosen : test k ≡ true → (q : Key) → among (left ++ k ∷ []) q ≡ (among (front ++ k ∷ []) q && test q)
  chosen is q = among-last left k q ∙ (by (same_key q k) refl ∙ ap (λ (b : Bool). b && test q) (sym (among-last front k q)))
    where
      by : (b : Bool) → same_key q k ≡ b → (among left q || same_key q k) ≡ ((among front q || same_key q k) && test q)
      by true same =
          let passes : test q ≡ true = subst (λ (x : Key). test x ≡ true) (sym (same_is q k same)) is in
          ap (λ (b : Bool). among left q || b) same ∙ (or_some (among left q) ∙ sym (ap (λ (b : Bool). (among front q || b) && test q) same ∙ (ap (λ (b : Bool). b && test q) (or_some (among front q)) ∙ passes)))
      by false differs =
          ap (λ (b : Bool). among left q || b) differs ∙ (or_none (among left q) ∙ (h q ∙ sym (ap (λ (b : Bool). (among front q || b) && test q) differs ∙ ap (λ (b : Bool). b && test q) (or_none (among front q)))))

  pub unchosen : test k ≡ false → (q : Key) → among left q ≡ (among (front ++ k ∷ []) q && test q)
  unchosen is q = by (same_key q k) refl ∙ ap (λ (b : Bool). b && test q) (sym (among-last front k q))
    where
      by : (b : Bool) → same_key q k ≡ b → among left q ≡ ((among front q || same_key q k) && test q)
      by true same =
          let fails : test q ≡ false = subst (λ (x : Key). test x ≡ false) (sym (same_is q k same)) is in
          h q ∙ (ap (λ (b : Bool). among front q && b) fails ∙ (and_false (among front q) ∙ sym (ap (λ (b : Bool). (among front q || same_key q k) && b) fails ∙ and_false (among front q || same_key q k))))
      by false differs = h q ∙ sym (ap (λ (b : Bool). (among front q || b) && test q) differs ∙ ap (λ (b : Bool). b && test q) (or_none (among front q)))

-- of keys among which all are that have a row those are stale that are
pub stale-all : (refreshes : ℕ) (entries : List (Key × List Change)) (rows : List (Key × Row)) (keys : List Key) (q : Key) → (is_some (value_for rows q) ≡ true → among keys q ≡ true)
    → (among keys q && is_stale_in refreshes entries rows q) ≡ is_stale_in refreshes entries rows q
stale-all refreshes entries rows keys q h = by (value_for rows q) h
  where
    by : (o : Option Row) → (is_some o ≡ true → among keys q ≡ true) → (among keys q && is_stale_row refreshes (changes_of entries q) o) ≡ is_stale_row refreshes (changes_of entries q) o
    by None named = and_false (among keys q)
    by (Some row) named = ap (λ (b : Bool). b && is_stale_row refreshes (changes_of entries q) (Some row)) (named refl)

pub among-there : {X : Type 0} (entries : List (Key × X)) (q : Key) → is_some (value_for entries q) ≡ among (keys_of entries) q
among-there [] q = refl
among-there {X} (e ∷ entries) q = by (same_key q e.0) (among-there entries q)
  where
    by : (b : Bool) → is_some (value_for entries q) ≡ among (keys_of entries) q → is_some (cond b (Some e.1) (value_for entries q)) ≡ (b || among (keys_of entries) q)
    by true rest = refl
    by false rest = rest

all_there : (P : Key → Type 0) (keys : List Key) (q : Key) → AllByRecursion P keys → among keys q ≡ true → P q
all_there P [] q h there = absurd (let e : false ≡ true = there in cc)
all_there P (k ∷ keys) q h there = elim (either (same_key q k) (among keys q) there) [
  | inl it ↦ subst P (sym (same_is q k it)) h.0
  | inr later ↦ all_there P keys q h.1 later
]

one_among : {X : Type 0} (done rest : List (Key × X)) (e : Key × X) → among (keys_of (done ++ e ∷ rest)) e.0 ≡ true
one_among [] rest e = or-first (same_key e.0 e.0) (among (keys_of rest) e.0) (same-self e.0)
one_among (d ∷ done) rest e = or-second (same_key e.0 d.0) (among (keys_of (done ++ e ∷ rest)) e.0) (one_among done rest e)

not_less : (k : Key) → key_cmp k k ≡ Less → ⊥
not_less k is = by (key_cmp k k) is (key_cmp_total.antisymm k k)
  where
    by : (o : Ordering) → o ≡ Less → o ≡ ordering_reverse o → ⊥
    by Less e f = absurd cc
    by Equal e f = absurd cc
    by Greater e f = absurd cc

-- each entry of a list in the order of its keys is found by its key
pub found-in : {X : Type 0} (done rest : List (Key × X)) (e : Key × X) → IsStrictlySortedBy key_cmp (keys_of (done ++ e ∷ rest)) → value_for (done ++ e ∷ rest) e.0 ≡ Some e.1
unfolding IsStrictlySortedBy
found-in [] rest e sorted = ap (λ (b : Bool). cond b (Some e.1) (value_for rest e.0)) (same-self e.0)
found-in {X} (d ∷ done) rest e sorted = by (same_key e.0 d.0) refl (found-in done rest e sorted.1)
  where
    by : (b : Bool) → same_key e.0 d.0 ≡ b → value_for (done ++ e ∷ rest) e.0 ≡ Some e.1 → cond b (Some d.1) (value_for (done ++ e ∷ rest) e.0) ≡ Some e.1
    by false differs rest_is = rest_is
    by true same rest_is =
        let less = all_there (λ y. key_cmp d.0 y ≡ Less) (keys_of (done ++ e ∷ rest)) e.0 sorted.0 (one_among done rest e) in
        absurd (not_less d.0 (subst (λ (k : Key). key_cmp d.0 k ≡ Less) (same_is e.0 d.0 same) less))
