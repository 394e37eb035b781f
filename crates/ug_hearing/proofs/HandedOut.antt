-- The climbs that were handed out.
use Rattle.std.proofs.Common.{◌≡◌, ◌⊎◌, inl, inr, ℕ, zero, suc, ◌+◌, ◌<◌, ◌≤◌, Bool, true, false, cond, List, [], ◌∷◌, ◌++◌, length, map, take, reverse, slice_get, get_or, Option, Some, None, refl, sym, ◌∙◌, ap, subst, arith}
use Rattle.std.specs.Prelude.{◌||◌, filter, is_some, unwrap_or}
use Rattle.std.specs.List.{AllByRecursion, list_any}
use Rattle.std.specs.List.Sorted.{IsStrictlySortedBy}
use Rattle.std.specs.declared.cmp.Ordering.TheVariants.{Less}
use Rattle.std.proofs.lemmas.List.{map-append, reverse-reverse, take_more}
use Rattle.ug_types.specs.declared.key.Key.{Key}
use Rattle.ug_types.specs.Keys.{same_key}
use Rattle.ug_types.specs.Orders.{key_cmp}
use Rattle.ug_message.specs.Tables.{among}
use Rattle.ug_hearing.specs.Shifts.{Shift, shifts_from}
use Rattle.ug_hearing.specs.Certificates.{KeyClimb}
use Rattle.ug_hearing.specs.declared.row.Moved.{Moved}
use Rattle.ug_hearing.specs.declared.row.Row.{Row}
use Rattle.ug_hearing.specs.Keyed.{value_for}
use Rattle.ug_hearing.specs.Rows.{IsChain, first_row}
use Rattle.ug_hearing.proofs.Keys.{same_is}
use Rattle.ug_hearing.proofs.Among.{either, or-first, or-second}
use Rattle.ug_hearing.specs.declared.judge.Judge.{Judge}
use Rattle.ug_hearing.specs.declared.climbs.Climbs.{Climbs}
use Rattle.ug_hearing.specs.declared.climbs.Named.{Named}
use Rattle.ug_hearing.specs.Climbed.{shift_of, climb_with, IsBack, is_named, last_move_of, IsNextNamed, AreMovesOf, HandedOut, AreOfJudged}
use Rattle.ug_hearing.proofs.Messages.{clear-of}

-- ---- keys that are chosen by a test

pub filter-one : (test : Key → Bool) (front : List Key) (k : Key) → test k ≡ true → filter test (front ++ k ∷ []) ≡ filter test front ++ k ∷ []
filter-one test [] k is = ap (λ (b : Bool). cond b (k ∷ []) []) is
filter-one test (x ∷ front) k is = by (test x) (filter-one test front k is)
  where
    by : (b : Bool) → filter test (front ++ k ∷ []) ≡ filter test front ++ k ∷ [] → cond b (x ∷ filter test (front ++ k ∷ [])) (filter test (front ++ k ∷ [])) ≡ cond b (x ∷ filter test front) (filter test front) ++ k ∷ []
    by true rest = ap (λ (ks : List Key). x ∷ ks) rest
    by false rest = rest

pub filter-none : (test : Key → Bool) (front : List Key) (k : Key) → test k ≡ false → filter test (front ++ k ∷ []) ≡ filter test front
filter-none test [] k is = ap (λ (b : Bool). cond b (k ∷ []) []) is
filter-none test (x ∷ front) k is = by (test x) (filter-none test front k is)
  where
    by : (b : Bool) → filter test (front ++ k ∷ []) ≡ filter test front → cond b (x ∷ filter test (front ++ k ∷ [])) (filter test (front ++ k ∷ [])) ≡ cond b (x ∷ filter test front) (filter test front)
    by true rest = ap (λ (ks : List Key). x ∷ ks) rest
    by false rest = rest

filter-all : (P : Key → Type 0) (test : Key → Bool) (keys : List Key) → AllByRecursion P keys → AllByRecursion P (filter test keys)
filter-all P test [] h = tt
filter-all P test (x ∷ keys) h = by (test x) (filter-all P test keys h.1)
  where
    by : (b : Bool) → AllByRecursion P (filter test keys) → AllByRecursion P (cond b (x ∷ filter test keys) (filter test keys))
    by true rest = (h.0, rest)
    by false rest = rest

filter-ascends : (test : Key → Bool) (keys : List Key) → IsStrictlySortedBy key_cmp keys → IsStrictlySortedBy key_cmp (filter test keys)
unfolding IsStrictlySortedBy
filter-ascends test [] h = tt
filter-ascends test (x ∷ keys) h = by (test x) (filter-ascends test keys h.1)
  where
    by : (b : Bool) → IsStrictlySortedBy key_cmp (filter test keys) → IsStrictlySortedBy key_cmp (cond b (x ∷ filter test keys) (filter test keys))
    by true rest = (filter-all (λ y. key_cmp x y ≡ Less) test keys h.0, rest)
    by false rest = rest

-- Where all that pass the test are among the keys, these are those that are chosen.
module _ (test : Key → Bool) where
  passes : (keys : List Key) (q : Key) → test q ≡ true → among keys q ≡ true → among (filter test keys) q ≡ true
  passes [] q is there = absurd (let e : false ≡ true = there in cc)
  passes (x ∷ keys) q is there = by (test x) refl (either (same_key q x) (among keys q) there) (passes keys q is)
    where
      by : (b : Bool) → test x ≡ b → (same_key q x ≡ true) ⊎ (among keys q ≡ true) → (among keys q ≡ true → among (filter test keys) q ≡ true) → among (cond b (x ∷ filter test keys) (filter test keys)) q ≡ true
      by true so (inl it) rest = or-first (same_key q x) (among (filter test keys) q) it
      by true so (inr later) rest = or-second (same_key q x) (among (filter test keys) q) (rest later)
      by false fails (inl it) rest = absurd (let e : true ≡ false = sym is ∙ (ap test (same_is q x it) ∙ fails) in cc)
      by false fails (inr later) rest = rest later

  is_other : (x q : Key) → test q ≡ false → test x ≡ true → same_key q x ≡ false
  is_other x q fails so = by (same_key q x) refl
    where
      by : (b : Bool) → same_key q x ≡ b → same_key q x ≡ false
      by false is = is
      by true is = absurd (let e : true ≡ false = sym so ∙ (sym (ap test (same_is q x is)) ∙ fails) in cc)

  falls : (keys : List Key) (q : Key) → test q ≡ false → among (filter test keys) q ≡ false
  falls [] q is = refl
  falls (x ∷ keys) q is = by (test x) refl (falls keys q is)
    where
      by : (b : Bool) → test x ≡ b → among (filter test keys) q ≡ false → among (cond b (x ∷ filter test keys) (filter test keys)) q ≡ false
      by true so rest = ap (λ (b : Bool). b || among (filter test keys) q) (is_other x q is so) ∙ rest
      by false fails rest = rest

  chosen_all : (keys : List Key) (q : Key) → (test q ≡ true → among keys q ≡ true) → among (filter test keys) q ≡ test q
  chosen_all keys q h = by (test q) refl
    where
      by : (b : Bool) → test q ≡ b → among (filter test keys) q ≡ test q
      by true is = passes keys q is (h is) ∙ sym is
      by false is = falls keys q is ∙ sym is

-- ---- one climb more

last-or : (xs : List KeyClimb) (x k : KeyClimb) (i : ℕ) → slice_get (xs ++ x ∷ []) i ≡ Some k → (slice_get xs i ≡ Some k) ⊎ (k ≡ x)
last-or [] x k zero is = inr (sym (let e : Some x ≡ Some k = is in cc))
last-or [] x k (suc i) is = absurd cc
last-or (y ∷ xs) x k zero is = inl is
last-or (y ∷ xs) x k (suc i) is = last-or xs x k i is

pub none-out : (j : Judge) (c : Climbs) → IsStrictlySortedBy key_cmp c.keys.items → ((q : Key) → is_named j q ≡ true → among c.keys.items q ≡ true) → c.place ≡ 0 → HandedOut j c []
none-out j c ascending all first = record {
  ascending = ascending;
  all = all;
  keys_are = ap (λ n. filter (is_named j) (take n c.keys.items)) (sym first);
  each = λ i k is. absurd cc;
}

-- ---- the next that was named

named-of : (o : Option Row) (n : ℕ) → last_move_of o ≡ Some n → is_some o ≡ true
named-of None n is = absurd cc
named-of (Some row) n is = refl

unnamed-of : (o : Option Row) → last_move_of o ≡ None → is_some o ≡ false
unnamed-of None is = refl
unnamed-of (Some row) is = absurd cc

module _ (j : Judge) (keys : List Key) (from place : ℕ) (k : Key) (less : place < length keys) (is : k ≡ get_or keys place k) (passed : filter (is_named j) (take place keys) ≡ filter (is_named j) (take from keys)) where
  front : take (place + 1) keys ≡ take place keys ++ k ∷ []
  front = take_more keys place k less ∙ ap (λ (x : Key). take place keys ++ x ∷ []) (sym is)

  pub next-is : (moved : ℕ) → from ≤ place → last_move_of (value_for j.hearing.standings.rows k) ≡ Some moved → IsNextNamed j keys from (record { key = k; moved = moved; behind = place + 1 })
  next-is moved low last = record {
    low = omega (arith, low);
    high = omega (arith, less);
    passed =
        ap (λ (ks : List Key). filter (is_named j) ks) front
        ∙ (filter-one (is_named j) (take place keys) k (named-of (value_for j.hearing.standings.rows k) moved last) ∙ ap (λ (ks : List Key). ks ++ k ∷ []) passed);
    last = last;
  }

  pub not-next : last_move_of (value_for j.hearing.standings.rows k) ≡ None → filter (is_named j) (take (place + 1) keys) ≡ filter (is_named j) (take from keys)
  not-next none =
      ap (λ (ks : List Key). filter (is_named j) ks) front
      ∙ (filter-none (is_named j) (take place keys) k (unnamed-of (value_for j.hearing.standings.rows k) none) ∙ passed)

moves-from : (all : List Moved) (o : Option Row) (n : ℕ) (shifts : List Shift) → last_move_of o ≡ Some n → ((back : List Shift) → IsChain all n back → IsBack shifts back) → AreMovesOf all o shifts
moves-from all None n shifts is h = absurd cc
moves-from all (Some row) n shifts is h = let same : row.moved ≡ n = cc in λ back chain. h back (subst (λ (m : ℕ). IsChain all m back) same chain)

module _ (j : Judge) (old new : Climbs) (done : List KeyClimb) (n : Named) where
  pub one-more : IsNextNamed j old.keys.items old.place n → new.keys ≡ old.keys → new.place ≡ n.behind
      → ((back : List Shift) → IsChain j.hearing.standings.moves.items n.moved back → IsBack (map shift_of new.moves.items) back) → HandedOut j old done → HandedOut j new (done ++ climb_with n.key new.moves.items ∷ [])
  one-more next same at moved h = record {
    ascending = subst (λ v. IsStrictlySortedBy key_cmp v.items) (sym same) h.ascending;
    all = λ q is. ap (λ v. among v.items q) same ∙ h.all q is;
    keys_are =
        map-append (λ (x : KeyClimb). x.key) done (climb_with n.key new.moves.items ∷ [])
        ∙ (ap (λ (ks : List Key). ks ++ n.key ∷ []) h.keys_are
        ∙ (sym next.passed ∙ (ap (λ (p : ℕ). filter (is_named j) (take p old.keys.items)) (sym at) ∙ ap (λ v. filter (is_named j) (take new.place v.items)) (sym same))));
    each = λ i x is. elim (last-or done (climb_with n.key new.moves.items) x i is) [
      | inl before ↦ h.each i x before
      | inr last ↦ subst (λ (y : KeyClimb). AreMovesOf j.hearing.standings.moves.items (value_for j.hearing.standings.rows y.key) y.shifts) (sym last)
          (moves-from j.hearing.standings.moves.items (value_for j.hearing.standings.rows n.key) n.moved (map shift_of new.moves.items) next.last moved)
    ];
  }

-- ---- all of them

any_keys : (key : Key) (climbs : List KeyClimb) → list_any (λ (k : KeyClimb). same_key key k.key) climbs ≡ among (map (λ (k : KeyClimb). k.key) climbs) key
any_keys key [] = refl
any_keys key (k ∷ climbs) = ap (λ (b : Bool). same_key key k.key || b) (any_keys key climbs)

moves-of : (all : List Moved) (o : Option Row) (first : Row) (shifts back : List Shift) → AreMovesOf all o shifts → IsChain all (unwrap_or o first).moved back → IsBack shifts back
moves-of all None first shifts back h chain = absurd h
moves-of all (Some row) first shifts back h chain = h back chain

pub all-climbs : (j : Judge) (c : Climbs) (done : List KeyClimb) → HandedOut j c done → filter (is_named j) c.keys.items ≡ filter (is_named j) (take c.place c.keys.items) → AreOfJudged j done
all-climbs j c done h none_left session past tables ms is judged none =
    let clear = clear-of session past tables is j ms judged none in
    let whole : map (λ (k : KeyClimb). k.key) done ≡ filter (is_named j) c.keys.items = h.keys_are ∙ sym none_left in
    record {
      ascending = subst (λ (ks : List Key). IsStrictlySortedBy key_cmp ks) (sym whole) (filter-ascends (is_named j) c.keys.items h.ascending);
      named = λ key. any_keys key done ∙ (ap (λ (ks : List Key). among ks key) whole ∙ (chosen_all (is_named j) c.keys.items key (h.all key) ∙ clear.heard.named key));
      each = λ i k there.
          let row = clear.heard.rows k.key in
          record {
            places = row.places;
            climb = row.climb;
            shifts =
                moves-of j.hearing.standings.moves.items (value_for j.hearing.standings.rows k.key) (first_row session.course.changes session.course.from k.key) k.shifts (reverse (shifts_from 0 1 row.places)) (h.each i k there) row.moved
                ∙ reverse-reverse (shifts_from 0 1 row.places);
          };
    }
