-- What adding and removing an entry makes of a list whose sequences rise.
use Rattle.std.proofs.Common.{◌≡◌, ℕ, zero, suc, ◌<◌, ◌≤◌, Bool, true, false, ◌&&◌, not, nat_lt, List, [], ◌∷◌, length, refl, ap, sym, ◌∙◌, arith}
use Rattle.std.specs.Prelude.{◌==◌, insert, remove, slice_index_or, Result, Ok, Err, IsOk, OnOk, if◌then◌else◌}
use Rattle.std.specs.List.Sorted.{IsPartitionedBy}
use Rattle.std.specs.List.{list_all}
use Rattle.std.proofs.lemmas.Bool.Decides.{nat_tests}
use Rattle.ug_policy.specs.declared.list_entry.ListEntry.{ListEntry}
use Rattle.ug_policy.specs.Order.{rises, rises_above}
use Rattle.ug_policy.specs.Lists.{seq_of, is_good}
use Rattle.ug_policy.specs.OrfApplying.{with_entry, without_sequence, place_of, is_there, without_place}

first_of : (a b : Bool) → (a && b) ≡ true → a ≡ true
first_of true b e = refl
first_of false b e = e

second_of : (a b : Bool) → (a && b) ≡ true → b ≡ true
second_of true b e = e
second_of false b e = absurd cc

both : (a b : Bool) → a ≡ true → b ≡ true → (a && b) ≡ true
both true true e f = refl
both true false e f = f
both false b e f = e

below : (m n : ℕ) → nat_lt m n ≡ true → m < n
below m n e = grind (arith, nat_tests)

is_below : (m n : ℕ) → m < n → nat_lt m n ≡ true
is_below m n lt = grind (arith, nat_tests)

-- ---- where an entry stands

keep_above : (seq n : ℕ) (xs : List ListEntry) → seq ≤ n → rises_above seq_of n xs ≡ true → without_sequence seq xs ≡ xs
keep_above seq n [] le r = refl
keep_above seq n (x ∷ xs) le r =
    let lt : n < x.seq = below n x.seq (first_of _ _ r) in
    let other : (x.seq == seq) ≡ false = grind (arith, nat_tests) in
    rw other (ap (λ ys. x ∷ ys) (keep_above seq x.seq xs (omega (arith, lt, le)) (second_of _ _ r)))

one_further : (there : Bool) (place : ℕ) (x : ListEntry) (xs : List ListEntry) → x ∷ without_place there place xs ≡ without_place there (suc place) (x ∷ xs)
one_further true place x xs = refl
one_further false place x xs = refl

without_above : (seq n : ℕ) (xs : List ListEntry) → rises_above seq_of n xs ≡ true → without_place (is_there seq xs) (place_of seq xs) xs ≡ without_sequence seq xs
without_above seq n [] r = refl
without_above seq n (x ∷ xs) r = one (nat_lt x.seq seq) refl (x.seq == seq) refl (without_above seq x.seq xs (second_of _ _ r))
  where
    one : (b : Bool) → nat_lt x.seq seq ≡ b → (c : Bool) → (x.seq == seq) ≡ c → without_place (is_there seq xs) (place_of seq xs) xs ≡ without_sequence seq xs
        → without_place (if b then is_there seq xs else c) (if b then suc (place_of seq xs) else 0) (x ∷ xs) ≡ (if not c then x ∷ without_sequence seq xs else without_sequence seq xs)
    one true lt true eq h = absurd (grind (arith, nat_tests))
    one true lt false ne h = sym (one_further (is_there seq xs) (place_of seq xs) x xs) ∙ ap (λ ys. x ∷ ys) h
    one false ge true eq h =
        let le : seq ≤ x.seq = grind (arith, nat_tests) in
        sym (keep_above seq x.seq xs le (second_of _ _ r))
    one false ge false ne h =
        let le : seq ≤ x.seq = grind (arith, nat_tests) in
        ap (λ ys. x ∷ ys) (sym (keep_above seq x.seq xs le (second_of _ _ r)))

pub without_is : (seq : ℕ) (xs : List ListEntry) → rises seq_of xs ≡ true → without_place (is_there seq xs) (place_of seq xs) xs ≡ without_sequence seq xs
without_is seq [] r = refl
without_is seq (x ∷ xs) r = one (nat_lt x.seq seq) refl (x.seq == seq) refl (without_above seq x.seq xs r)
  where
    one : (b : Bool) → nat_lt x.seq seq ≡ b → (c : Bool) → (x.seq == seq) ≡ c → without_place (is_there seq xs) (place_of seq xs) xs ≡ without_sequence seq xs
        → without_place (if b then is_there seq xs else c) (if b then suc (place_of seq xs) else 0) (x ∷ xs) ≡ (if not c then x ∷ without_sequence seq xs else without_sequence seq xs)
    one true lt true eq h = absurd (grind (arith, nat_tests))
    one true lt false ne h = sym (one_further (is_there seq xs) (place_of seq xs) x xs) ∙ ap (λ ys. x ∷ ys) h
    one false ge true eq h =
        let le : seq ≤ x.seq = grind (arith, nat_tests) in
        sym (keep_above seq x.seq xs le r)
    one false ge false ne h =
        let le : seq ≤ x.seq = grind (arith, nat_tests) in
        ap (λ ys. x ∷ ys) (sym (keep_above seq x.seq xs le r))

pub with_is : (e : ListEntry) (xs : List ListEntry) → insert (without_place (is_there e.seq xs) (place_of e.seq xs) xs) (place_of e.seq xs) e ≡ with_entry e xs
unfolding with_entry
with_is e [] = refl
with_is e (x ∷ xs) = one (nat_lt x.seq e.seq) (x.seq == e.seq) (with_is e xs)
  where
    one : (b c : Bool) → insert (without_place (is_there e.seq xs) (place_of e.seq xs) xs) (place_of e.seq xs) e ≡ with_entry e xs
        → insert (without_place (if b then is_there e.seq xs else c) (if b then suc (place_of e.seq xs) else 0) (x ∷ xs)) (if b then suc (place_of e.seq xs) else 0) e
        ≡ (if b then x ∷ with_entry e xs else if c then e ∷ xs else e ∷ x ∷ xs)
    one true c h = rw (sym (one_further (is_there e.seq xs) (place_of e.seq xs) x xs)) (ap (λ ys. x ∷ ys) h)
    one false true h = refl
    one false false h = refl

pub place_within : (seq : ℕ) (xs : List ListEntry) → place_of seq xs ≤ length xs
place_within seq [] = omega arith
place_within seq (x ∷ xs) = one (nat_lt x.seq seq) (place_within seq xs)
  where
    one : (b : Bool) → place_of seq xs ≤ length xs → (if b then suc (place_of seq xs) else 0) ≤ suc (length xs)
    one true h = omega (arith, h)
    one false h = omega arith

-- the entry at the place, where there is one, tells whether one is there
pub there_at : (seq : ℕ) (xs : List ListEntry) (d : ListEntry) → place_of seq xs < length xs → is_there seq xs ≡ ((slice_index_or xs (place_of seq xs) d).seq == seq)
there_at seq [] d lt = absurd (omega arith)
there_at seq (x ∷ xs) d lt = one (nat_lt x.seq seq) lt (there_at seq xs d)
  where
    one : (b : Bool) → (if b then suc (place_of seq xs) else 0) < suc (length xs) → (place_of seq xs < length xs → is_there seq xs ≡ ((slice_index_or xs (place_of seq xs) d).seq == seq))
        → (if b then is_there seq xs else x.seq == seq) ≡ ((slice_index_or (x ∷ xs) (if b then suc (place_of seq xs) else 0) d).seq == seq)
    one true h rest = rest (omega (arith, h))
    one false h rest = refl

pub none_there : (seq : ℕ) (xs : List ListEntry) → length xs ≤ place_of seq xs → is_there seq xs ≡ false
none_there seq [] le = refl
none_there seq (x ∷ xs) le = one (nat_lt x.seq seq) le (none_there seq xs)
  where
    one : (b : Bool) → suc (length xs) ≤ (if b then suc (place_of seq xs) else 0) → (length xs ≤ place_of seq xs → is_there seq xs ≡ false) → (if b then is_there seq xs else x.seq == seq) ≡ false
    one true h rest = rest (omega (arith, h))
    one false h rest = absurd (omega (arith, h))

-- ---- the sequences go on rising

weaker : (m n : ℕ) (xs : List ListEntry) → m ≤ n → rises_above seq_of n xs ≡ true → rises_above seq_of m xs ≡ true
weaker m n [] le r = refl
weaker m n (x ∷ xs) le r =
    let lt : n < x.seq = below n x.seq (first_of _ _ r) in
    both _ _ (is_below m x.seq (omega (arith, lt, le))) (second_of _ _ r)

above_without : (seq n : ℕ) (xs : List ListEntry) → rises_above seq_of n xs ≡ true → rises_above seq_of n (without_sequence seq xs) ≡ true
above_without seq n [] r = refl
above_without seq n (x ∷ xs) r = one (x.seq == seq) (above_without seq x.seq xs (second_of _ _ r))
  where
    one : (c : Bool) → rises_above seq_of x.seq (without_sequence seq xs) ≡ true → rises_above seq_of n (if not c then x ∷ without_sequence seq xs else without_sequence seq xs) ≡ true
    one false h = both _ _ (first_of _ _ r) h
    one true h =
        let lt : n < x.seq = below n x.seq (first_of _ _ r) in
        weaker n x.seq (without_sequence seq xs) (omega (arith, lt)) h

rises_from_above : (n : ℕ) (xs : List ListEntry) → rises_above seq_of n xs ≡ true → rises seq_of xs ≡ true
rises_from_above n [] r = refl
rises_from_above n (x ∷ xs) r = second_of _ _ r

pub rises_without : (seq : ℕ) (xs : List ListEntry) → rises seq_of xs ≡ true → rises seq_of (without_sequence seq xs) ≡ true
rises_without seq [] r = refl
rises_without seq (x ∷ xs) r = one (x.seq == seq) (above_without seq x.seq xs r)
  where
    one : (c : Bool) → rises_above seq_of x.seq (without_sequence seq xs) ≡ true → rises seq_of (if not c then x ∷ without_sequence seq xs else without_sequence seq xs) ≡ true
    one false h = h
    one true h = rises_from_above x.seq (without_sequence seq xs) h

above_with : (e : ListEntry) (n : ℕ) (xs : List ListEntry) → n < e.seq → rises_above seq_of n xs ≡ true → rises_above seq_of n (with_entry e xs) ≡ true
unfolding with_entry
above_with e n [] lt r = both _ _ (is_below n e.seq lt) refl
above_with e n (x ∷ xs) lt r = one (nat_lt x.seq e.seq) refl (x.seq == e.seq) refl (λ below_e. above_with e x.seq xs below_e (second_of _ _ r))
  where
    one : (b : Bool) → nat_lt x.seq e.seq ≡ b → (c : Bool) → (x.seq == e.seq) ≡ c → (x.seq < e.seq → rises_above seq_of x.seq (with_entry e xs) ≡ true) → rises_above seq_of n (if b then x ∷ with_entry e xs else if c then e ∷ xs else e ∷ x ∷ xs) ≡ true
    one true l c k rest = both _ _ (first_of _ _ r) (rest (below x.seq e.seq l))
    one false g true k rest =
        let same : x.seq ≡ e.seq = grind (arith, nat_tests) in
        both _ _ (is_below n e.seq lt) (weaker e.seq x.seq xs (omega (arith, same)) (second_of _ _ r))
    one false g false k rest =
        let more : e.seq < x.seq = grind (arith, nat_tests) in
        both _ _ (is_below n e.seq lt) (both _ _ (is_below e.seq x.seq more) (second_of _ _ r))

pub rises_with : (e : ListEntry) (xs : List ListEntry) → rises seq_of xs ≡ true → rises seq_of (with_entry e xs) ≡ true
unfolding with_entry
rises_with e [] r = refl
rises_with e (x ∷ xs) r = one (nat_lt x.seq e.seq) refl (x.seq == e.seq) refl
  where
    one : (b : Bool) → nat_lt x.seq e.seq ≡ b → (c : Bool) → (x.seq == e.seq) ≡ c → rises seq_of (if b then x ∷ with_entry e xs else if c then e ∷ xs else e ∷ x ∷ xs) ≡ true
    one true l c k = above_with e x.seq xs (below x.seq e.seq l) r
    one false g true k =
        let same : x.seq ≡ e.seq = grind (arith, nat_tests) in
        weaker e.seq x.seq xs (omega (arith, same)) r
    one false g false k =
        let more : e.seq < x.seq = grind (arith, nat_tests) in
        both _ _ (is_below e.seq x.seq more) r

-- ---- the entries go on being good

pub good_without : (seq : ℕ) (xs : List ListEntry) → list_all is_good xs ≡ true → list_all is_good (without_sequence seq xs) ≡ true
good_without seq [] g = refl
good_without seq (x ∷ xs) g = one (x.seq == seq) (good_without seq xs (second_of _ _ g))
  where
    one : (c : Bool) → list_all is_good (without_sequence seq xs) ≡ true → list_all is_good (if not c then x ∷ without_sequence seq xs else without_sequence seq xs) ≡ true
    one false h = both _ _ (first_of _ _ g) h
    one true h = h

pub good_with : (e : ListEntry) (xs : List ListEntry) → is_good e ≡ true → list_all is_good xs ≡ true → list_all is_good (with_entry e xs) ≡ true
unfolding with_entry
good_with e [] is g = both _ _ is refl
good_with e (x ∷ xs) is g = one (nat_lt x.seq e.seq) (x.seq == e.seq) (good_with e xs is (second_of _ _ g))
  where
    one : (b c : Bool) → list_all is_good (with_entry e xs) ≡ true → list_all is_good (if b then x ∷ with_entry e xs else if c then e ∷ xs else e ∷ x ∷ xs) ≡ true
    one true c h = both _ _ (first_of _ _ g) h
    one false true h = both _ _ is (second_of _ _ g)
    one false false h = both _ _ is g

-- ---- what the code does

pub removed : (seq place : ℕ) (xs ys : List ListEntry) → rises seq_of xs ≡ true → place ≡ place_of seq xs → ys ≡ without_place (is_there seq xs) place xs → ys ≡ without_sequence seq xs
removed seq place xs ys r p y = y ∙ ap (λ i. without_place (is_there seq xs) i xs) p ∙ without_is seq xs r

pub added : (e : ListEntry) (place : ℕ) (xs ys zs : List ListEntry) → place ≡ place_of e.seq xs → ys ≡ without_place (is_there e.seq xs) place xs → zs ≡ insert ys place e → zs ≡ with_entry e xs
added e place xs ys zs p y z =
    z ∙ ap (λ l. insert l place e) y ∙ ap (λ i. insert (without_place (is_there e.seq xs) i xs) i e) p ∙ with_is e xs

pub when_ok : {T E P : Type 0} (r : Result T E) → IsOk r → OnOk r P → P
when_ok (Ok x) ok p = p
when_ok (Err e) ok p = absurd (let no : false ≡ true = ok in cc)

-- ---- the place as a binary search finds it

at_least : (n : ℕ) (xs : List ListEntry) → rises_above seq_of n xs ≡ true → (j : ℕ) (d : ListEntry) → j < length xs → n ≤ (slice_index_or xs j d).seq
at_least n [] r j d lt = absurd (omega (arith, lt))
at_least n (x ∷ xs) r zero d lt =
    let up : n < x.seq = below n x.seq (first_of _ _ r) in
    omega (arith, up)
at_least n (x ∷ xs) r (suc j) d lt =
    let up : n < x.seq = below n x.seq (first_of _ _ r) in
    let rest : x.seq ≤ (slice_index_or xs j d).seq = at_least x.seq xs (second_of _ _ r) j d (omega (arith, lt)) in
    omega (arith, up, rest)

ordered : (xs : List ListEntry) → rises seq_of xs ≡ true → (i j : ℕ) (d : ListEntry) → i ≤ j → j < length xs → (slice_index_or xs i d).seq ≤ (slice_index_or xs j d).seq
ordered [] r i j d le lt = absurd (omega (arith, lt))
ordered (x ∷ xs) r zero zero d le lt = omega arith
ordered (x ∷ xs) r zero (suc j) d le lt = at_least x.seq xs r j d (omega (arith, lt))
ordered (x ∷ xs) r (suc i) zero d le lt = absurd (omega (arith, le))
ordered (x ∷ xs) r (suc i) (suc j) d le lt = ordered xs (rises_from_above x.seq xs r) i j d (omega (arith, le)) (omega (arith, lt))

pub parted : (seq : ℕ) (xs : List ListEntry) → rises seq_of xs ≡ true → IsPartitionedBy (λ (e : ListEntry). nat_lt e.seq seq) xs
parted seq xs r i j d le lt up =
    let rest : (slice_index_or xs i d).seq ≤ (slice_index_or xs j d).seq = ordered xs r i j d le lt in
    let under : (slice_index_or xs j d).seq < seq = below _ seq up in
    is_below _ seq (omega (arith, rest, under))

pub place_is : (seq : ℕ) (xs : List ListEntry) (i : ℕ) → i ≤ length xs → ((k : ℕ) (d : ListEntry) → 0 ≤ k → k < i → nat_lt (slice_index_or xs k d).seq seq ≡ true)
    → ((k : ℕ) (d : ListEntry) → i ≤ k → k < length xs → nat_lt (slice_index_or xs k d).seq seq ≡ false) → i ≡ place_of seq xs
place_is seq [] zero w f g = refl
place_is seq [] (suc i) w f g = absurd (omega (arith, w))
place_is seq (x ∷ xs) zero w f g =
    let e : nat_lt x.seq seq ≡ false = g 0 x (omega arith) (omega arith) in
    rw e refl
place_is seq (x ∷ xs) (suc i) w f g =
    let e : nat_lt x.seq seq ≡ true = f 0 x (omega arith) (omega arith) in
    rw e (ap suc (place_is seq xs i (omega (arith, w)) (λ k d z lt. f (suc k) d (omega arith) (omega (arith, lt))) (λ k d le lt. g (suc k) d (omega (arith, le)) (omega (arith, lt)))))

pub ruleset place_steps = (there_at, none_there)
