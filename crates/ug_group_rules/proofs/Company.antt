-- Who has no company sits alone, and a subgroup of one's own is nobody else's.
use Rattle.std.proofs.Common.{◌≡◌, ℕ, ◌+◌, ◌<◌, ◌≤◌, zero, suc, Bool, true, false, List, [], ◌∷◌, length, slice_get, Some, refl, ◌∙◌, ap, arith}
use Rattle.std.specs.Prelude.{nat_lt, count_by, if◌then◌else◌}
use Rattle.std.proofs.lemmas.Bool.{eq-eqb}
use Rattle.std.proofs.lemmas.Bool.Decides.{nat_tests}
use Rattle.std.proofs.lemmas.List.Sums.{sum_by-cons}
use Rattle.ug_group_rules.specs.Machine.{Subgroup, Seat, Member, System, sits, sits_in, has_company, with_seat, apart}

-- ---- counting

abbrev pub one_if : Bool → ℕ
one_if b = if b then 1 else 0

pub count-cons : (test : Member → Bool) (m : Member) (ms : List Member) → count_by test (m ∷ ms) ≡ one_if (test m) + count_by test ms
count-cons test m ms = sum_by-cons (λ (x : Member). one_if (test x)) m ms

one_so : (test : Member → Bool) (x m : Member) → x ≡ m → test m ≡ true → one_if (test x) ≡ 1
one_so test x m same passes = ap one_if (ap test same ∙ passes)

one_at : (test : Member → Bool) (ms : List Member) (p : ℕ) (m : Member) → slice_get ms p ≡ Some m → test m ≡ true → 1 ≤ count_by test ms
one_at test [] p m is passes = absurd cc
one_at test (x ∷ ms) zero m is passes =
    let same : x ≡ m = cc in omega (arith, one_so test x m same passes, count-cons test x ms)
one_at test (x ∷ ms) (suc p) m is passes = omega (arith, one_at test ms p m is passes, count-cons test x ms)

two_at : (test : Member → Bool) (ms : List Member) (p q : ℕ) (m n : Member) → (p ≡ q → ⊥) → slice_get ms p ≡ Some m → slice_get ms q ≡ Some n → test m ≡ true → test n ≡ true → 2 ≤ count_by test ms
two_at test [] p q m n apart is at one two = absurd cc
two_at test (x ∷ ms) zero zero m n apart is at one two = absurd (apart refl)
two_at test (x ∷ ms) zero (suc q) m n apart is at one two =
    let same : x ≡ m = cc in
    omega (arith, one_so test x m same one, one_at test ms q n at two, count-cons test x ms)
two_at test (x ∷ ms) (suc p) zero m n apart is at one two =
    let same : x ≡ n = cc in
    omega (arith, one_so test x n same two, one_at test ms p m is one, count-cons test x ms)
two_at test (x ∷ ms) (suc p) (suc q) m n apart is at one two =
    omega (arith, two_at test ms p q m n (λ e. apart (ap suc e)) is at one two, count-cons test x ms)

-- with no company the others sit elsewhere
pub alone : (g : ℕ) (members : List Member) (p q : ℕ) (m n : Member) (t u : Seat) → has_company g members ≡ false → (p ≡ q → ⊥) → slice_get members p ≡ Some m → slice_get members q ≡ Some n
    → m.seat ≡ Some t → n.seat ≡ Some u → u.sub ≡ g → t.sub ≡ g → ⊥
alone g members p q m n t u none apart is at sits_m sits_n sub_n sub_m =
    let one : sits g m ≡ true = ap (sits_in g) sits_m ∙ eq-eqb t.sub g sub_m in
    let two : sits g n ≡ true = ap (sits_in g) sits_n ∙ eq-eqb u.sub g sub_n in
    let many = two_at (sits g) members p q m n apart is at one two in
    let so : nat_lt 1 (count_by (sits g) members) ≡ true = grind (arith, nat_tests) in absurd cc

-- what is there is before the end
pub before-end : {T : Type 0} (xs : List T) (k : ℕ) (x : T) → slice_get xs k ≡ Some x → k < length xs
before-end [] k x is = absurd cc
before-end (y ∷ xs) zero x is = omega arith
before-end (y ∷ xs) (suc k) x is = let rest = before-end xs k x is in omega arith

-- ---- a peer set apart

-- Where it sits in its own subgroup, with its rest; the others where they were.
pub record IsApart (q : ℕ) (old new : System) (t : Seat) (x : Subgroup) (m : Member) : Type 0 where
  pub seat : Seat
  pub rest : seat.rest ≡ t.rest
  pub member : slice_get new.members q ≡ Some (with_seat (Some seat) m)
  pub count : ℕ
  pub there : slice_get new.subgroups seat.sub ≡ Some (Some (record x { stuck = count }))
  pub world : new.world ≡ old.world
  pub members : (p : ℕ) → (p ≡ q → ⊥) → slice_get new.members p ≡ slice_get old.members p
  pub kept : (k : ℕ) (y : Subgroup) → slice_get old.subgroups k ≡ Some (Some y) → slice_get new.subgroups k ≡ Some (Some y)
  pub from : (k : ℕ) (y : Subgroup) → slice_get new.subgroups k ≡ Some (Some y) → (z : Subgroup) × (n : ℕ) × (j : ℕ) × (slice_get old.subgroups j ≡ Some (Some z)) × (record z { stuck = n } ≡ y)
  pub others : (p : ℕ) (n : Member) (u : Seat) (y : Subgroup) → (p ≡ q → ⊥) → slice_get old.members p ≡ Some n → n.seat ≡ Some u → slice_get old.subgroups u.sub ≡ Some (Some y) → u.sub ≡ seat.sub → ⊥
