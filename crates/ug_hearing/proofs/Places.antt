-- Places among marks.
use Rattle.std.proofs.Common.{◌≡◌, ◌≢◌, inl, inr, ℕ, zero, suc, ◌<◌, ◌≤◌, List, [], ◌∷◌, slice_get, Some, refl, sym, ◌∙◌, ap, arith}
use Rattle.std.proofs.lemmas.Bool.{cases_lt}
use Rattle.ug_types.specs.declared.mark.Mark.{Mark}
use Rattle.ug_hearing.specs.Breaches.{IsOneOf}
use Rattle.ug_hearing.specs.Judged.{Rise, IsUpToMark}
use Rattle.ug_hearing.specs.Marked.{AreMarksOf}

pub place-of : {T : Type 0} (x : T) (xs : List T) → IsOneOf x xs → (i : ℕ) × (slice_get xs i ≡ Some x)
place-of x [] h = absurd h
place-of x (y ∷ ys) (inl same) = (0, ap Some (sym same))
place-of x (y ∷ ys) (inr more) = let rest = place-of x ys more in (suc rest.0, rest.1)

pub one-at : {T : Type 0} (x : T) (xs : List T) (i : ℕ) → slice_get xs i ≡ Some x → IsOneOf x xs
one-at x [] i is = absurd cc
one-at x (y ∷ ys) zero is = inl (let e : Some y ≡ Some x = is in cc)
one-at x (y ∷ ys) (suc i) is = inr (one-at x ys i is)

low-all : (low : ℕ) (syncs : List Mark) (i : ℕ) (m : Mark) → Rise low syncs → slice_get syncs i ≡ Some m → low ≤ m.handed
low-all low [] i m h is = absurd cc
low-all low (x ∷ syncs) zero m h is = let first = h.0 in let same : x.handed ≡ m.handed = (let e : Some x ≡ Some m = is in cc) in omega arith
low-all low (x ∷ syncs) (suc i) m h is = let rest = low-all x.handed syncs i m h.1 is in let first = h.0 in omega arith

pub rises : (low : ℕ) (syncs : List Mark) (i j : ℕ) (m n : Mark) → Rise low syncs → i ≤ j → slice_get syncs i ≡ Some m → slice_get syncs j ≡ Some n → m.handed ≤ n.handed
rises low [] i j m n h order im jn = absurd cc
rises low (x ∷ syncs) zero zero m n h order im jn = let same : m.handed ≡ n.handed = (let e : Some m ≡ Some n = sym im ∙ jn in cc) in omega arith
rises low (x ∷ syncs) zero (suc j) m n h order im jn =
    let same : x.handed ≡ m.handed = (let e : Some x ≡ Some m = im in cc) in let rest = low-all x.handed syncs j n h.1 jn in omega arith
rises low (x ∷ syncs) (suc i) zero m n h order im jn = absurd (omega arith)
rises low (x ∷ syncs) (suc i) (suc j) m n h order im jn = rises x.handed syncs i j m n h.1 (omega arith) im jn

get-or-none : (syncs : List Mark) (i j : ℕ) (n : Mark) → slice_get syncs j ≡ Some n → i ≤ j → (m : Mark) × (slice_get syncs i ≡ Some m)
get-or-none [] i j n is order = absurd cc
get-or-none (x ∷ syncs) zero j n is order = (x, refl)
get-or-none (x ∷ syncs) (suc i) zero n is order = absurd (omega arith)
get-or-none (x ∷ syncs) (suc i) (suc j) n is order = get-or-none syncs i j n is (omega arith)

-- The marks of the next message are passed: all marks of at most so many are behind then.
pub passed-marks : (syncs : List Mark) (from to messages : ℕ) → Rise 0 syncs → ((i : ℕ) (m : Mark) → slice_get syncs i ≡ Some m → i < from → m.handed < messages)
    → ((i : ℕ) (m : Mark) → slice_get syncs i ≡ Some m → from ≤ i → messages ≤ m.handed) → AreMarksOf syncs from to messages → IsUpToMark syncs to messages
passed-marks syncs from to messages rise behind ahead h = record {
  behind = λ i m is less. elim (cases_lt i from) [
    | inl sooner ↦ let few = behind i m is sooner in omega arith
    | inr later ↦ let same = h.of m (record { place = i; there = is; low = later; high = less }) in omega arith
  ];
  ahead = λ i m is order.
      let first = get-or-none syncs to i m is order in
      let low = h.low in
      let most = ahead to first.0 first.1 low in
      let other = h.behind first.0 first.1 in
      let rest = rises 0 syncs to i first.0 m rise order first.1 is in
      less_by first.0.handed messages m.handed most other rest;
}
  where
    less_by : (a b c : ℕ) → b ≤ a → a ≢ b → a ≤ c → b < c
    less_by a b c low other most = elim (cases_lt b c) [ inl less ↦ less | inr far ↦ absurd (other (omega arith)) ]
