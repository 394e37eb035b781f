-- The marks of a session.
use Rattle.std.proofs.Common.{◌≡◌, ℕ, zero, suc, ◌<◌, ◌≤◌, inl, inr, Bool, true, false, List, [], ◌∷◌, ◌++◌, length, drop, get_or, slice_get, Some, sym, arith}
use Rattle.std.specs.Prelude.{◌==◌, ◌&&◌, if◌then◌else◌}
use Rattle.std.specs.List.{Contains}
use Rattle.std.specs.List.Sorted.{IsPermutation, IsNonDecreasingBy}
use Rattle.std.proofs.lemmas.List.Sorted.{Contains-permutation, IsPermutation-sym}
use Rattle.std.proofs.lemmas.List.Elements.{filter-append}
use Rattle.ug_types.specs.declared.mark.Mark.{Mark}
use Rattle.ug_hearing.specs.Breaches.{IsOneOf}
use Rattle.ug_audit_rules.specs.declared.entry.Entry.{Entry}
use Rattle.ug_audit_rules.specs.Audited.{mark_in, marks_in, marks_to}
use Rattle.ug_hearing.specs.Judged.{Rise}

pub marks_more : (p n : ℕ) (xs : List Entry) (i : ℕ) (d : Entry) → i < length xs → marks_to p n (marks_in (drop i xs)) ≡ marks_to p n (mark_in (get_or xs i d)) ++ marks_to p n (marks_in (drop (suc i) xs))
marks_more p n [] i d inside = absurd (omega arith)
marks_more p n (x ∷ xs) zero d inside = filter-append (λ (m : Mark). (m.peer == p) && (m.session == n)) (mark_in x) (marks_in xs)
marks_more p n (x ∷ xs) (suc i) d inside = marks_more p n xs i d (omega arith)

-- ---- one of some marks

contains : (x : Mark) (xs : List Mark) → IsOneOf x xs → Contains xs x
contains x [] one = absurd one
contains x (y ∷ ys) (inl same) = (0, omega arith, sym same)
contains x (y ∷ ys) (inr more) = let later = contains x ys more in (suc later.0, (let less = later.1 in omega arith), later.2)

one_of : (x : Mark) (xs : List Mark) (k : ℕ) → k < length xs → get_or xs k x ≡ x → IsOneOf x xs
one_of x [] k less is = absurd (omega arith)
one_of x (y ∷ ys) zero less is = inl (sym is)
one_of x (y ∷ ys) (suc k) less is = inr (one_of x ys k (omega arith) is)

pub one-sorted : (xs ys : List Mark) (m : Mark) → IsPermutation xs ys → IsOneOf m xs → IsOneOf m ys
one-sorted xs ys m same one = let there = Contains-permutation xs ys m same (contains m xs one) in one_of m ys there.0 there.1 there.2

pub one-unsorted : (xs ys : List Mark) (m : Mark) → IsPermutation xs ys → IsOneOf m ys → IsOneOf m xs
one-unsorted xs ys m same one = one-sorted ys xs m (IsPermutation-sym xs ys same) one

pub one_there : (xs : List Mark) (i : ℕ) (m : Mark) → slice_get xs i ≡ Some m → IsOneOf m xs
one_there [] i m is = absurd cc
one_there (x ∷ xs) zero m is = inl (let same : x ≡ m = cc in sym same)
one_there (x ∷ xs) (suc i) m is = inr (one_there xs i m is)

-- a mark of a session is one of all
pub one_of_all : (p n : ℕ) (marks : List Mark) (m : Mark) → IsOneOf m (marks_to p n marks) → IsOneOf m marks
one_of_all p n [] m one = absurd one
one_of_all p n (x ∷ marks) m one = by ((x.peer == p) && (x.session == n)) one (λ h. one_of_all p n marks m h)
  where
    by : (b : Bool) → IsOneOf m (if b then x ∷ marks_to p n marks else marks_to p n marks) → (IsOneOf m (marks_to p n marks) → IsOneOf m marks) → IsOneOf m (x ∷ marks)
    by true (inl same) rest = inl same
    by true (inr more) rest = inr (rest more)
    by false one rest = inr (rest one)

-- ---- the order

tail_rises : (x : Mark) (xs : List Mark) → IsNonDecreasingBy (λ (m : Mark). m.handed) (x ∷ xs) → IsNonDecreasingBy (λ (m : Mark). m.handed) xs
tail_rises x xs up = λ i j d le less. up (suc i) (suc j) d (omega arith) (omega arith)

rises-from : (low : ℕ) (xs : List Mark) → IsNonDecreasingBy (λ (m : Mark). m.handed) xs → ((k : ℕ) (d : Mark) → k < length xs → low ≤ (get_or xs k d).handed) → Rise low xs
rises-from low [] up above = tt
rises-from low (x ∷ xs) up above = (above 0 x (omega arith), rises-from x.handed xs (tail_rises x xs up) (λ k d less. up 0 (suc k) d (omega arith) (omega arith)))

pub rises : (xs : List Mark) → IsNonDecreasingBy (λ (m : Mark). m.handed) xs → Rise 0 xs
rises xs up = rises-from 0 xs up (λ k d less. omega arith)
