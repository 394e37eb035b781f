-- Subgroups that are level and of one class are found by the marks of classes.
use Rattle.std.proofs.Common.{◌≡◌, ℕ, ◌+◌, ◌<◌, Bool, true, false, List, [], ◌∷◌, length, Option, Some, None, refl, sym, ◌∙◌, ap, subst, arith, lit≤, slice_get, get_or}
use Rattle.std.specs.Prelude.{◌==◌, nat_lt, ◌&&◌, not, ◌%◌, position, is_some, slice_set}
use Rattle.std.proofs.lemmas.Bool.Decides.{nat_tests}
use Rattle.std.proofs.lemmas.Option.{slice_get-get_or}
use Rattle.std.proofs.lemmas.List.{get_or-set_other}
use Rattle.std.proofs.Math.Nat.{mod-lt}
use Rattle.std.proofs.lemmas.Grind.{get_or-set_at}
use Rattle.std.proofs.lemmas.List.Quantifiers.{position-Some}
use Rattle.ug_group_rules.specs.Machine.{is_level}
use Rattle.ug_groups.specs.declared.entry.Entry.{Entry}
use Rattle.ug_groups.specs.Entries.{bare, may_merge_entries}
use Rattle.ug_groups.specs.Company.{is_marked, is_level_of, AreMarked, IsUnlike, AreUnlike}
use Rattle.ug_groups.proofs.Found.{partner}

abbrev level : ℕ × Entry → Bool
level r = is_level (bare r.1).sub

one_number : (a b : ℕ) → (a == b) ≡ true → a ≡ b
one_number a b e = grind (arith, nat_tests)

other_number : (a b : ℕ) → (a == b) ≡ false → a ≡ b → ⊥
other_number a b e same = grind (arith, nat_tests)

same_number : (a : ℕ) → (a == a) ≡ true
same_number a = grind (arith, nat_tests)

turned : (a b : ℕ) → (a == b) ≡ true → (b == a) ≡ true
turned a b e = grind (arith, nat_tests)

-- the last of the first so many and one more, or one of those before
last : {P : Type 0} (j n : ℕ) → j < n + 1 → (j < n → P) → (j ≡ n → P) → P
last {P} j n less before at = by (j == n) refl
  where
    by : (b : Bool) → (j == n) ≡ b → P
    by true e = at (one_number j n e)
    by false e = let apart = other_number j n e in before (grind arith)

module _ (n : ℕ) (rows : List (ℕ × Entry)) where
  pub unlike_more : (class : ℕ) → IsUnlike n rows class → ((r : ℕ × Entry) → slice_get rows n ≡ Some r → is_level_of class r.1 ≡ false) → IsUnlike (n + 1) rows class
  unlike_more class before at j r less here =
      last j n less (λ under. before j r under here) (λ is. at r (ap (slice_get rows) (sym is) ∙ here))

  pub apart_more : AreUnlike n rows → ((r : ℕ × Entry) → slice_get rows n ≡ Some r → level r ≡ true → IsUnlike n rows r.1.class) → AreUnlike (n + 1) rows
  apart_more before at j r less here is_so =
      last j n less (λ under. before j r under here is_so) (λ is. subst (λ (k : ℕ). IsUnlike k rows r.1.class) (sym is) (at r (ap (slice_get rows) (sym is) ∙ here) is_so))

  -- where it isn't marked, none before is of the class
  pub unmarked : (marks : List Bool) (class : ℕ) → AreMarked n rows marks → is_marked marks class ≡ false → IsUnlike n rows class
  unmarked marks class marked none j r less here = by (level r) (r.1.class == class) refl refl
    where
      by : (b c : Bool) → level r ≡ b → (r.1.class == class) ≡ c → (b && c) ≡ false
      by true true is_so alike =
          let set : is_marked marks class ≡ true = ap (is_marked marks) (sym (one_number r.1.class class alike)) ∙ marked j r less here is_so in
          absurd (let no : false ≡ true = sym none ∙ set in cc)
      by true false is_so alike = refl
      by false c is_so alike = refl

  module _ (marks : List Bool) (class : ℕ) (size : length marks ≡ 256) where
    set_here : (k : ℕ) → (k % 256 == class % 256) ≡ true → is_marked (slice_set marks (class % 256) true) k ≡ true
    set_here k e =
        let below : class % 256 < 256 = mod-lt class (lit≤ tt) in let within : class % 256 < length marks = omega (arith, size, below) in
        get_or-set_at marks (class % 256) (k % 256) true false (one_number (k % 256) (class % 256) e) within

    set_there : (k : ℕ) → (k % 256 == class % 256) ≡ false → is_marked (slice_set marks (class % 256) true) k ≡ is_marked marks k
    set_there k e = get_or-set_other marks (class % 256) (k % 256) true false (other_number (k % 256) (class % 256) e)

    pub marked_more : AreMarked n rows marks → ((r : ℕ × Entry) → slice_get rows n ≡ Some r → r.1.class ≡ class) → AreMarked (n + 1) rows (slice_set marks (class % 256) true)
    marked_more marked at j r less here is_so = by (r.1.class % 256 == class % 256) refl
      where
        by : (b : Bool) → (r.1.class % 256 == class % 256) ≡ b → is_marked (slice_set marks (class % 256) true) r.1.class ≡ true
        by true e = set_here r.1.class e
        by false e =
            set_there r.1.class e
            ∙ last j n less (λ under. marked j r under here is_so)
            (λ is. absurd (other_number (r.1.class % 256) (class % 256) e (ap (λ (c : ℕ). c % 256) (at r (ap (slice_get rows) (sym is) ∙ here)))))

    -- one that isn't level has no mark
    pub marked_as_before : AreMarked n rows marks → ((r : ℕ × Entry) → slice_get rows n ≡ Some r → level r ≡ false) → AreMarked (n + 1) rows marks
    marked_as_before marked at j r less here is_so =
        last j n less (λ under. marked j r under here is_so) (λ is. absurd (let no : false ≡ true = sym (at r (ap (slice_get rows) (sym is) ∙ here)) ∙ is_so in cc))

first_of_two : (a b : Bool) → (a && b) ≡ true → a ≡ true
first_of_two true b e = refl
first_of_two false b e = e

second_of_two : (a b : Bool) → (a && b) ≡ true → b ≡ true
second_of_two true b e = e
second_of_two false b e = absurd cc

-- what is so of two that may merge
pub record IsPair (q r : ℕ × Entry) : Type 0 where
  pub apart : (q.0 == r.0) ≡ false
  pub first : level q ≡ true
  pub second : level r ≡ true
  pub class : (q.1.class == r.1.class) ≡ true

pair_of : (q r : ℕ × Entry) → partner q r ≡ true → IsPair q r
pair_of q r e =
    let may = second_of_two (not (q.0 == r.0)) (may_merge_entries q.1 r.1) e in
    let both = first_of_two (level q && (level r && (q.1.class == r.1.class))) (length r.1.subgroup.queue.packets == 0) may in
    let rest = second_of_two (level q) (level r && (q.1.class == r.1.class)) both in
    record {
      apart = denied (q.0 == r.0) (first_of_two (not (q.0 == r.0)) (may_merge_entries q.1 r.1) e);
      first = first_of_two (level q) (level r && (q.1.class == r.1.class)) both;
      second = first_of_two (level r) (q.1.class == r.1.class) rest;
      class = second_of_two (level r) (q.1.class == r.1.class) rest;
    }
  where
    denied : (b : Bool) → not b ≡ true → b ≡ false
    denied true e = absurd cc
    denied false e = refl

-- the one that is found
found_at : {X : Type 0} (p : X → Bool) (all : List X) (i : ℕ) → position p all ≡ Some i → (x : X) × (slice_get all i ≡ Some x) × (i < length all) × (p x ≡ true)
found_at p [] i is = absurd cc
found_at p (d ∷ all) i is = let found = position-Some p (d ∷ all) i d is in (get_or (d ∷ all) i d, slice_get-get_or (d ∷ all) i d found.0, found.0, found.1)

module _ (rows : List (ℕ × Entry)) (unlike : AreUnlike (length rows) rows) where
  -- no two of them are a pair
  none_pairs : (i j : ℕ) (q r : ℕ × Entry) → slice_get rows i ≡ Some q → slice_get rows j ≡ Some r → i < length rows → j < length rows → IsPair q r → ⊥
  none_pairs i j q r at to i_in j_in pair = by (nat_lt i j) (nat_lt j i) refl refl
    where
      both : (a b : Bool) → a ≡ true → b ≡ true → (a && b) ≡ true
      both a b e f = ap (λ (x : Bool). x && b) e ∙ f

      no : false ≡ true → ⊥
      no e = cc

      by : (b c : Bool) → nat_lt i j ≡ b → nat_lt j i ≡ c → ⊥
      by true c less more =
          let i_j : i < j = grind (arith, nat_tests) in
          no (sym (unlike j r j_in to pair.second i q i_j at) ∙ both (level q) (q.1.class == r.1.class) pair.first pair.class)
      by false true less more =
          let j_i : j < i = grind (arith, nat_tests) in
          no (sym (unlike i q i_in at pair.first j r j_i to) ∙ both (level r) (r.1.class == q.1.class) pair.second (turned q.1.class r.1.class pair.class))
      by false false less more =
          let same : i ≡ j = grind (arith, nat_tests) in
          let one : q ≡ r = (let is : Some q ≡ Some r = sym at ∙ ap (slice_get rows) same ∙ to in cc) in
          no (sym pair.apart ∙ ap (λ (x : ℕ × Entry). x.0 == r.0) one ∙ same_number r.0)

  pub none_to_merge : None ≡ position (λ (q : ℕ × Entry). is_some (position (λ (r : ℕ × Entry). partner q r) rows)) rows
  none_to_merge = by (position (λ (q : ℕ × Entry). is_some (position (λ (r : ℕ × Entry). partner q r) rows)) rows) refl
    where
      inner : (i : ℕ) (q : ℕ × Entry) → slice_get rows i ≡ Some q → i < length rows → (o : Option ℕ) → position (λ (r : ℕ × Entry). partner q r) rows ≡ o → is_some o ≡ true → ⊥
      inner i q at within None is so = absurd cc
      inner i q at within (Some j) is so =
          let found = found_at (λ (r : ℕ × Entry). partner q r) rows j is in
          none_pairs i j q found.0 at found.1 within found.2 (pair_of q found.0 found.3)

      by : (o : Option ℕ) → position (λ (q : ℕ × Entry). is_some (position (λ (r : ℕ × Entry). partner q r) rows)) rows ≡ o → None ≡ o
      by None is = refl
      by (Some i) is =
          let found = found_at (λ (q : ℕ × Entry). is_some (position (λ (r : ℕ × Entry). partner q r) rows)) rows i is in
          absurd (inner i found.0 found.1 found.2 (position (λ (r : ℕ × Entry). partner found.0 r) rows) refl found.3)
