-- How many entries a filter has as it is changed.
use Rattle.std.proofs.Common.{◌≡◌, ℕ, suc, ◌+◌, ◌<◌, ◌≤◌, Bool, true, false, ◌&&◌, ◌||◌, not, nat_lt, List, [], ◌∷◌, ◌++◌, length, take, get_or, Option, Some, None, refl, ap, sym, ◌∙◌, arith, add-one}
use Rattle.std.proofs.Math.Seq.{take-suc}
use Rattle.std.specs.Prelude.{◌==◌, if◌then◌else◌}
use Rattle.std.proofs.lemmas.Bool.Decides.{nat_tests}
use Rattle.ug_policy.specs.declared.list_entry.ListEntry.{ListEntry}
use Rattle.ug_policy.specs.Order.{rises, rises_above}
use Rattle.ug_policy.specs.Lists.{seq_of}
use Rattle.ug_policy.specs.declared.orf_action.Action.{Action}
use Rattle.ug_policy.specs.declared.orf_action.Action.TheVariants.{Add, Remove, RemoveAll}
use Rattle.ug_policy.specs.OrfChanges.{OrfChange}
use Rattle.ug_policy.specs.OrfApplying.{with_entry, without_sequence, changed_by, applied}
use Rattle.ug_policy.proofs.OrfChanged.{rises_with, rises_without}
use Rattle.ug_world.specs.Filtered.{has_seq, has_then, count_then}
use Rattle.ug_world.proofs.Relisting.{neither}

first_of : (a b : Bool) → (a && b) ≡ true → a ≡ true
first_of true b e = refl
first_of false b e = e

second_of : (a b : Bool) → (a && b) ≡ true → b ≡ true
second_of true b e = e
second_of false b e = absurd cc

turned : (a b c : Bool) → (a || (b || c)) ≡ (b || (a || c))
turned true true c = refl
turned true false c = refl
turned false b c = refl

twice : (a c : Bool) → (a || c) ≡ (a || (a || c))
twice true c = refl
twice false c = refl

-- ---- which sequences there are

has_with : (seq : ℕ) (e : ListEntry) (xs : List ListEntry) → has_seq seq (with_entry e xs) ≡ ((e.seq == seq) || has_seq seq xs)
unfolding with_entry
has_with seq e [] = refl
has_with seq e (x ∷ xs) = one (nat_lt x.seq e.seq) (x.seq == e.seq) refl (has_with seq e xs)
  where
    one : (b c : Bool) → (x.seq == e.seq) ≡ c → has_seq seq (with_entry e xs) ≡ ((e.seq == seq) || has_seq seq xs)
        → has_seq seq (if b then x ∷ with_entry e xs else if c then e ∷ xs else e ∷ x ∷ xs) ≡ ((e.seq == seq) || ((x.seq == seq) || has_seq seq xs))
    one true c is h = ap (λ (b : Bool). (x.seq == seq) || b) h ∙ turned (x.seq == seq) (e.seq == seq) (has_seq seq xs)
    one false true is h =
        let same : x.seq ≡ e.seq = grind (arith, nat_tests) in
        twice (e.seq == seq) (has_seq seq xs) ∙ ap (λ (n : ℕ). (e.seq == seq) || ((n == seq) || has_seq seq xs)) (sym same)
    one false false is h = refl

has_without : (seq from : ℕ) (xs : List ListEntry) → has_seq seq (without_sequence from xs) ≡ (has_seq seq xs && not (from == seq))
has_without seq from [] = refl
has_without seq from (x ∷ xs) = one (x.seq == from) refl (has_without seq from xs)
  where
    absorbed : (a b : Bool) → a ≡ b → (a && not b) ≡ false
    absorbed true b e = ap not (sym e)
    absorbed false b e = refl

    joined : (a b c : Bool) → a ≡ c → (b && not c) ≡ ((a || b) && not c)
    joined true b true e = one_more b
      where
        one_more : (b : Bool) → (b && false) ≡ false
        one_more true = refl
        one_more false = refl
    joined true b false e = absurd cc
    joined false b c e = refl

    apart : (a b c : Bool) → (a ≡ true → c ≡ false) → (a || (b && not c)) ≡ ((a || b) && not c)
    apart true b c e = ap not (sym (e refl))
    apart false b c e = refl

    one : (c : Bool) → (x.seq == from) ≡ c → has_seq seq (without_sequence from xs) ≡ (has_seq seq xs && not (from == seq))
        → has_seq seq (if not c then x ∷ without_sequence from xs else without_sequence from xs) ≡ (((x.seq == seq) || has_seq seq xs) && not (from == seq))
    one true is h =
        let same : x.seq ≡ from = grind (arith, nat_tests) in
        h ∙ joined (x.seq == seq) (has_seq seq xs) (from == seq) (ap (λ (n : ℕ). n == seq) same)
    one false is h =
        ap (λ (b : Bool). (x.seq == seq) || b) h ∙ apart (x.seq == seq) (has_seq seq xs) (from == seq) (λ here. grind (arith, nat_tests))

pub has_changed : (seq : ℕ) (action : Action) (entry : Option ListEntry) (xs : List ListEntry) → has_seq seq (changed_by action entry xs) ≡ has_then (has_seq seq xs) action entry seq
has_changed seq RemoveAll entry xs = refl
has_changed seq Add (Some e) xs = has_with seq e xs
has_changed seq Remove (Some e) xs = has_without seq e.seq xs
has_changed seq Add None xs = refl
has_changed seq Remove None xs = refl

-- ---- how many entries there are

none_above : (seq n : ℕ) (xs : List ListEntry) → seq ≤ n → rises_above seq_of n xs ≡ true → has_seq seq xs ≡ false
none_above seq n [] le r = refl
none_above seq n (x ∷ xs) le r =
    let lt : nat_lt n x.seq ≡ true = first_of (nat_lt n x.seq) (rises_above seq_of x.seq xs) r in
    let other : (x.seq == seq) ≡ false = grind (arith, nat_tests) in
    let more : seq ≤ x.seq = grind (arith, nat_tests) in
    rw (other, none_above seq x.seq xs more (second_of (nat_lt n x.seq) (rises_above seq_of x.seq xs) r)) refl

none_without : (seq : ℕ) (xs : List ListEntry) → has_seq seq xs ≡ false → without_sequence seq xs ≡ xs
none_without seq [] e = refl
none_without seq (x ∷ xs) e =
    let parts = neither (x.seq == seq) (has_seq seq xs) e in
    rw (parts.0, none_without seq xs parts.1) refl

abbrev one_where : Bool → ℕ
one_where true = 1
one_where false = 0

length_with : (n : ℕ) (e : ListEntry) (xs : List ListEntry) → rises_above seq_of n xs ≡ true → length (with_entry e xs) + one_where (has_seq e.seq xs) ≡ length xs + 1
unfolding with_entry
length_with n e [] r = refl
length_with n e (x ∷ xs) r = one (nat_lt x.seq e.seq) refl (x.seq == e.seq) refl (length_with x.seq e xs (second_of (nat_lt n x.seq) (rises_above seq_of x.seq xs) r))
  where
    one : (b : Bool) → nat_lt x.seq e.seq ≡ b → (c : Bool) → (x.seq == e.seq) ≡ c → length (with_entry e xs) + one_where (has_seq e.seq xs) ≡ length xs + 1
        → length (if b then x ∷ with_entry e xs else if c then e ∷ xs else e ∷ x ∷ xs) + one_where (c || has_seq e.seq xs) ≡ suc (length xs) + 1
    one true lt true is h = absurd (grind (arith, nat_tests))
    one true lt false is h = omega (arith, h)
    one false ge true is h = omega arith
    one false ge false is h =
        let le : e.seq ≤ x.seq = grind (arith, nat_tests) in
        rw (none_above e.seq x.seq xs le (second_of (nat_lt n x.seq) (rises_above seq_of x.seq xs) r)) (omega arith)

length_without : (n seq : ℕ) (xs : List ListEntry) → rises_above seq_of n xs ≡ true → length (without_sequence seq xs) + one_where (has_seq seq xs) ≡ length xs
length_without n seq [] r = refl
length_without n seq (x ∷ xs) r = one (x.seq == seq) refl (length_without x.seq seq xs (second_of (nat_lt n x.seq) (rises_above seq_of x.seq xs) r))
  where
    one : (c : Bool) → (x.seq == seq) ≡ c → length (without_sequence seq xs) + one_where (has_seq seq xs) ≡ length xs
        → length (if not c then x ∷ without_sequence seq xs else without_sequence seq xs) + one_where (c || has_seq seq xs) ≡ suc (length xs)
    one true is h =
        let le : seq ≤ x.seq = grind (arith, nat_tests) in
        let none : has_seq seq xs ≡ false = none_above seq x.seq xs le (second_of (nat_lt n x.seq) (rises_above seq_of x.seq xs) r) in
        rw (none_without seq xs none) (omega arith)
    one false is h = omega (arith, h)

-- a list whose sequences rise, as one that rises above 0 with its first entry left out
with_all : (e : ListEntry) (xs : List ListEntry) → rises seq_of xs ≡ true → length (with_entry e xs) + one_where (has_seq e.seq xs) ≡ length xs + 1
unfolding with_entry
with_all e [] r = refl
with_all e (x ∷ xs) r = one (nat_lt x.seq e.seq) refl (x.seq == e.seq) refl (length_with x.seq e xs r)
  where
    one : (b : Bool) → nat_lt x.seq e.seq ≡ b → (c : Bool) → (x.seq == e.seq) ≡ c → length (with_entry e xs) + one_where (has_seq e.seq xs) ≡ length xs + 1
        → length (if b then x ∷ with_entry e xs else if c then e ∷ xs else e ∷ x ∷ xs) + one_where (c || has_seq e.seq xs) ≡ suc (length xs) + 1
    one true lt true is h = absurd (grind (arith, nat_tests))
    one true lt false is h = omega (arith, h)
    one false ge true is h = omega arith
    one false ge false is h =
        let le : e.seq ≤ x.seq = grind (arith, nat_tests) in
        rw (none_above e.seq x.seq xs le r) (omega arith)

without_all : (seq : ℕ) (xs : List ListEntry) → rises seq_of xs ≡ true → length (without_sequence seq xs) + one_where (has_seq seq xs) ≡ length xs
without_all seq [] r = refl
without_all seq (x ∷ xs) r = one (x.seq == seq) refl (length_without x.seq seq xs r)
  where
    one : (c : Bool) → (x.seq == seq) ≡ c → length (without_sequence seq xs) + one_where (has_seq seq xs) ≡ length xs
        → length (if not c then x ∷ without_sequence seq xs else without_sequence seq xs) + one_where (c || has_seq seq xs) ≡ suc (length xs)
    one true is h =
        let le : seq ≤ x.seq = grind (arith, nat_tests) in
        let none : has_seq seq xs ≡ false = none_above seq x.seq xs le r in
        rw (none_without seq xs none) (omega arith)
    one false is h = omega (arith, h)

pub length_changed : (action : Action) (entry : Option ListEntry) (there : Bool) (xs : List ListEntry) → rises seq_of xs ≡ true → ((e : ListEntry) → entry ≡ Some e → has_seq e.seq xs ≡ there)
    → length (changed_by action entry xs) ≡ count_then (length xs) there action entry
length_changed RemoveAll entry there xs r has = refl
length_changed Add (Some e) true xs r has =
    let one : one_where (has_seq e.seq xs) ≡ 1 = ap one_where (has e refl) in
    omega (arith, with_all e xs r, one)
length_changed Add (Some e) false xs r has =
    let none : one_where (has_seq e.seq xs) ≡ 0 = ap one_where (has e refl) in
    omega (arith, with_all e xs r, none)
length_changed Remove (Some e) true xs r has =
    let one : one_where (has_seq e.seq xs) ≡ 1 = ap one_where (has e refl) in
    omega (arith, without_all e.seq xs r, one)
length_changed Remove (Some e) false xs r has =
    let none : one_where (has_seq e.seq xs) ≡ 0 = ap one_where (has e refl) in
    omega (arith, without_all e.seq xs r, none)
length_changed Add None there xs r has = refl
length_changed Remove None there xs r has = refl

pub rises_changed : (action : Action) (entry : Option ListEntry) (xs : List ListEntry) → rises seq_of xs ≡ true → rises seq_of (changed_by action entry xs) ≡ true
rises_changed RemoveAll entry xs r = refl
rises_changed Add (Some e) xs r = rises_with e xs r
rises_changed Remove (Some e) xs r = rises_without e.seq xs r
rises_changed Add None xs r = r
rises_changed Remove None xs r = r

pub rises_applied : (changes : List OrfChange) (xs : List ListEntry) → rises seq_of xs ≡ true → rises seq_of (applied changes xs) ≡ true
unfolding applied
rises_applied [] xs r = r
rises_applied (c ∷ changes) xs r = rises_applied changes (changed_by c.action c.entry xs) (rises_changed c.action c.entry xs r)

pub applied_more : (changes : List OrfChange) (c : OrfChange) (xs : List ListEntry) → applied (changes ++ c ∷ []) xs ≡ changed_by c.action c.entry (applied changes xs)
unfolding applied
applied_more [] c xs = refl
applied_more (d ∷ changes) c xs = applied_more changes c (changed_by d.action d.entry xs)

pub applied_none : (xs : List ListEntry) → applied [] xs ≡ xs
unfolding applied
applied_none xs = refl

pub applied_next : (changes : List OrfChange) (i : ℕ) (c : OrfChange) (xs : List ListEntry) → i < length changes → c ≡ get_or changes i c
    → applied (take (i + 1) changes) xs ≡ changed_by c.action c.entry (applied (take i changes) xs)
applied_next changes i c xs h is =
    ap (λ (n : ℕ). applied (take n changes) xs) (add-one i)
    ∙ ap (λ (l : List OrfChange). applied l xs) (take-suc changes i c h ∙ ap (λ (d : OrfChange). take i changes ++ d ∷ []) (sym is))
    ∙ applied_more (take i changes) c xs

pub count_few : (count : ℕ) (there : Bool) (action : Action) (entry : Option ListEntry) → count_then count there action entry ≤ count + 1
count_few count there RemoveAll entry = omega arith
count_few count true Add (Some e) = omega arith
count_few count false Add (Some e) = omega arith
count_few count true Remove (Some e) = omega arith
count_few count false Remove (Some e) = omega arith
count_few count true Add None = omega arith
count_few count false Add None = omega arith
count_few count true Remove None = omega arith
count_few count false Remove None = omega arith
