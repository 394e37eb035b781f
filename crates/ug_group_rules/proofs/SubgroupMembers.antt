-- Each subgroup that is there has a member: who leaves it last takes it away.
use Rattle.std.proofs.Common.{◌≡◌, ℕ, ◌≤◌, ◌⊎◌, zero, suc, inl, inr, Bool, true, false, List, [], ◌∷◌, ◌++◌, length, map, slice_get, Option, Some, None, refl, sym, ◌∙◌, ap, subst, arith}
use Rattle.std.specs.Prelude.{◌||◌, nat_lt, count_by, if◌then◌else◌}
use Rattle.std.specs.List.{list_any}
use Rattle.std.specs.Option.{option_map}
use Rattle.std.proofs.lemmas.Bool.{cases_eq, eqb-true}
use Rattle.std.proofs.lemmas.Bool.Decides.{nat_tests}
use Rattle.std.proofs.lemmas.Option.{slice_get-map}
use Rattle.ug_speaker.specs.Places.{change_at}
use Rattle.ug_speaker.proofs.Places.{changed-here, changed-there}
use Rattle.ug_group_rules.specs.Machine.{Subgroup, Seat, Member, System, sits, sits_in, has_members, has_company, reseated, with_seat, seated, without_subgroup, leave, unstuck, subgroup_at, split_by}
use Rattle.ug_group_rules.proofs.Company.{one_if, count-cons}

-- a member that sits there
pub record Sits (g : ℕ) (members : List Member) : Type 0 where
  pub place : ℕ
  pub member : Member
  pub seat : Seat
  pub is : slice_get members place ≡ Some member
  pub at : member.seat ≡ Some seat
  pub there : seat.sub ≡ g

abbrev pub AreHeld : System → Type 0
AreHeld s = (g : ℕ) (x : Subgroup) → slice_get s.subgroups g ≡ Some (Some x) → Sits g s.members

-- ---- members found by a test

pub record IsMet (test : Member → Bool) (members : List Member) : Type 0 where
  pub place : ℕ
  pub member : Member
  pub is : slice_get members place ≡ Some member
  pub passes : test member ≡ true

met_behind : (test : Member → Bool) (m : Member) (members : List Member) → IsMet test members → IsMet test (m ∷ members)
met_behind test m members met = record { place = suc met.place; member = met.member; is = met.is; passes = met.passes }

pub met : (test : Member → Bool) (members : List Member) → list_any test members ≡ true → IsMet test members
met test [] some = absurd cc
met test (m ∷ members) some = by (test m) refl some (λ more. met test members more)
  where
    by : (b : Bool) → test m ≡ b → (b || list_any test members) ≡ true → (list_any test members ≡ true → IsMet test members) → IsMet test (m ∷ members)
    by true e some rest = record { place = 0; member = m; is = refl; passes = e }
    by false e some rest = met_behind test m members (rest some)

sits_met : (g : ℕ) (members : List Member) → IsMet (sits g) members → Sits g members
sits_met g members found = by found.member.seat refl found.passes
  where
    by : (o : Option Seat) → found.member.seat ≡ o → sits_in g o ≡ true → Sits g members
    by None at e = absurd cc
    by (Some t) at e = record { place = found.place; member = found.member; seat = t; is = found.is; at = at; there = eqb-true t.sub g e }

found_member : (g : ℕ) (members : List Member) → has_members g members ≡ true → Sits g members
found_member g members some = sits_met g members (met (sits g) members some)

-- ---- another member than this one

pub record IsMetApart (q : ℕ) (test : Member → Bool) (members : List Member) : Type 0 where
  pub one : IsMet test members
  pub apart : one.place ≡ q → ⊥

some_of : (test : Member → Bool) (members : List Member) → 1 ≤ count_by test members → list_any test members ≡ true
some_of test [] some = absurd (omega (arith, some))
some_of test (m ∷ members) some = by (test m) refl (λ more. some_of test members more)
  where
    by : (b : Bool) → test m ≡ b → (1 ≤ count_by test members → list_any test members ≡ true) → (b || list_any test members) ≡ true
    by true e rest = refl
    by false e rest =
        let none : one_if (test m) ≡ 0 = ap one_if e in rest (omega (arith, some, none, count-cons test m members))

never_first : (n : ℕ) → suc n ≡ 0 → ⊥
never_first n same = absurd (omega (arith, same))

never_later : (n : ℕ) → 0 ≡ suc n → ⊥
never_later n same = absurd (omega (arith, same))

one_before : (a b : ℕ) → suc a ≡ suc b → a ≡ b
one_before a b same = omega (arith, same)

company : (q : ℕ) (test : Member → Bool) (members : List Member) → 2 ≤ count_by test members → IsMetApart q test members
unfolding met_behind
company q test [] some = absurd (omega (arith, some))
company zero test (m ∷ members) some =
    let more : 1 ≤ count_by test members = omega (arith, some, one_at_most (test m), count-cons test m members) in
    let found = met test members (some_of test members more) in
    record { one = met_behind test m members found; apart = λ same. never_first found.place same }
  where
    one_at_most : (b : Bool) → one_if b ≤ 1
    one_at_most true = omega arith
    one_at_most false = omega arith
company (suc q) test (m ∷ members) some = by (test m) refl (λ more. company q test members more)
  where
    by : (b : Bool) → test m ≡ b → (2 ≤ count_by test members → IsMetApart q test members) → IsMetApart (suc q) test (m ∷ members)
    by true e rest = record { one = record { place = 0; member = m; is = refl; passes = e }; apart = λ same. never_later q same }
    by false e rest =
        let none : one_if (test m) ≡ 0 = ap one_if e in
        let found = rest (omega (arith, some, none, count-cons test m members)) in
        record { one = met_behind test m members found.one; apart = λ same. found.apart (one_before found.one.place q same) }

-- another that sits there
sits_another : (q g : ℕ) (members : List Member) → IsMetApart q (sits g) members → (sat : Sits g members) × (sat.place ≡ q → ⊥)
sits_another q g members found = by found.one.member.seat refl found.one.passes
  where
    by : (o : Option Seat) → found.one.member.seat ≡ o → sits_in g o ≡ true → (sat : Sits g members) × (sat.place ≡ q → ⊥)
    by None at e = absurd cc
    by (Some t) at e = (record { place = found.one.place; member = found.one.member; seat = t; is = found.one.is; at = at; there = eqb-true t.sub g e }, found.apart)

-- ---- lists of subgroups

-- what is at a place of a list with one more at its end
pub new-at : (xs : List (Option Subgroup)) (y : Option Subgroup) (x : Subgroup) (k : ℕ) → slice_get (xs ++ y ∷ []) k ≡ Some (Some x) → (slice_get xs k ≡ Some (Some x)) ⊎ (k ≡ length xs)
new-at [] y x zero is = inr refl
new-at [] y x (suc k) is = absurd cc
new-at (z ∷ xs) y x zero is = inl is
new-at (z ∷ xs) y x (suc k) is = elim (new-at xs y x k is) [ inl old ↦ inl old | inr new ↦ inr (ap suc new) ]

-- who is there after a change was there
pub there-changed : (change : Subgroup → Subgroup) (g k : ℕ) (xs : List (Option Subgroup)) (x : Subgroup) → slice_get (change_at (option_map change) g xs) k ≡ Some (Some x) → (y : Subgroup) × (slice_get xs k ≡ Some (Some y))
there-changed change g k [] x is = absurd cc
there-changed change zero zero (None ∷ xs) x is = absurd cc
there-changed change zero zero (Some y ∷ xs) x is = (y, refl)
there-changed change zero (suc k) (y ∷ xs) x is = (x, is)
there-changed change (suc g) zero (y ∷ xs) x is = (x, is)
there-changed change (suc g) (suc k) (y ∷ xs) x is = there-changed change g k xs x is

pub none-there : (g : ℕ) (xs : List (Option Subgroup)) (x : Subgroup) → slice_get (change_at (λ (y : Option Subgroup). None) g xs) g ≡ Some (Some x) → ⊥
none-there g xs x is = by (slice_get xs g) (sym (changed-here (λ (y : Option Subgroup). None) g xs) ∙ is)
  where
    by : (o : Option (Option Subgroup)) → option_map (λ (y : Option Subgroup). None) o ≡ Some (Some x) → ⊥
    by None e = absurd cc
    by (Some y) e = absurd cc

-- ---- changes of seats

-- where seats change alike
pub sits-as : (change : Seat → Seat) (g h : ℕ) (members : List Member) → ((t : Seat) → t.sub ≡ g → (change t).sub ≡ h) → Sits g members → Sits h (map (reseated change) members)
sits-as change g h members moves sat = record {
  place = sat.place;
  member = reseated change sat.member;
  seat = change sat.seat;
  is = slice_get-map (reseated change) members sat.place ∙ ap (option_map (reseated change)) sat.is;
  at = ap (option_map change) sat.at;
  there = moves sat.seat sat.there;
}

pub sits-apart : (q : ℕ) (seat : Option Seat) (g : ℕ) (members : List Member) (sat : Sits g members) → (sat.place ≡ q → ⊥) → Sits g (change_at (with_seat seat) q members)
sits-apart q seat g members sat other = record {
  place = sat.place;
  member = sat.member;
  seat = sat.seat;
  is = changed-there (with_seat seat) q sat.place members other ∙ sat.is;
  at = sat.at;
  there = sat.there;
}

pub sits-now : (q : ℕ) (t : Seat) (members : List Member) (m : Member) → slice_get members q ≡ Some m → Sits t.sub (change_at (with_seat (Some t)) q members)
sits-now q t members m is = record {
  place = q;
  member = with_seat (Some t) m;
  seat = t;
  is = changed-here (with_seat (Some t)) q members ∙ ap (option_map (with_seat (Some t))) is;
  at = refl;
  there = refl;
}

module _ (q : ℕ) (s : System) (m : Member) (is : slice_get s.members q ≡ Some m) (held : AreHeld s) where
  -- who sits at this place is this member
  pub here-sits : (g : ℕ) (sat : Sits g s.members) → sat.place ≡ q → m.seat ≡ Some sat.seat
  here-sits g sat same =
      let both : Some m ≡ Some sat.member = sym is ∙ ap (slice_get s.members) (sym same) ∙ sat.is in
      let one : m ≡ sat.member = cc in
      ap (λ (n : Member). n.seat) one ∙ sat.at

  -- ---- a peer leaves

  module _ (t : Seat) (at : m.seat ≡ Some t) where
    abbrev gone : System
    gone = seated q None s

    -- another subgroup keeps its member
    still : (g : ℕ) (x : Subgroup) → slice_get s.subgroups g ≡ Some (Some x) → (g ≡ t.sub → ⊥) → Sits g gone.members
    still g x there other =
        let sat = held g x there in
        sits-apart q None g s.members sat
        (λ same.
        let both : Some t ≡ Some sat.seat = sym at ∙ here-sits g sat same in
        let one : t ≡ sat.seat = cc in
        other (sym sat.there ∙ ap (λ (u : Seat). u.sub) (sym one)))

    held_unless : (b : Bool) → has_members t.sub gone.members ≡ b → AreHeld (if b then gone else without_subgroup t.sub gone)
    held_unless true e = λ g x there. elim (cases_eq g t.sub) [
      | inl same ↦ subst (λ (k : ℕ). Sits k gone.members) (sym same) (found_member t.sub gone.members e)
      | inr other ↦ still g x there other
    ]
    held_unless false e = λ g x there. elim (cases_eq g t.sub) [
      | inl same ↦ absurd (none-there t.sub s.subgroups x (subst (λ (k : ℕ). slice_get (change_at (λ (y : Option Subgroup). None) t.sub s.subgroups) k ≡ Some (Some x)) same there))
      | inr other ↦ still g x (sym (changed-there (λ (y : Option Subgroup). None) t.sub g s.subgroups other) ∙ there) other
    ]

    pub held-leaves : AreHeld (leave q (Some t) s)
    held-leaves = held_unless (has_members t.sub gone.members) refl

    -- ---- a peer is split off

    pub held-split : (b : Bool) → has_company t.sub s.members ≡ b → AreHeld (split_by b q t s)
    held-split false e = held
    held-split true e = λ k x there. elim (new-at s.subgroups (option_map unstuck (subgroup_at t.sub s)) x k there) [
      | inl old ↦ by k x old (held k x old)
      | inr new ↦ subst (λ (j : ℕ). Sits j (change_at (with_seat (Some (record t { sub = length s.subgroups }))) q s.members)) (sym new) (sits-now q (record t { sub = length s.subgroups }) s.members m is)
    ]
      where
        other : (sat : Sits t.sub s.members) × (sat.place ≡ q → ⊥)
        other =
            let so : nat_lt 1 (count_by (sits t.sub) s.members) ≡ true = e in
            let two : 2 ≤ count_by (sits t.sub) s.members = grind (arith, nat_tests) in
            sits_another q t.sub s.members (company q (sits t.sub) s.members two)

        by : (k : ℕ) (x : Subgroup) → slice_get s.subgroups k ≡ Some (Some x) → (sat : Sits k s.members) → Sits k (change_at (with_seat (Some (record t { sub = length s.subgroups }))) q s.members)
        by k x old sat = elim (cases_eq sat.place q) [
          | inl same ↦
              let both : Some t ≡ Some sat.seat = sym at ∙ here-sits k sat same in
              let one : t ≡ sat.seat = cc in
              let number : t.sub ≡ k = ap (λ (u : Seat). u.sub) one ∙ sat.there in
              subst (λ (j : ℕ). Sits j (change_at (with_seat (Some (record t { sub = length s.subgroups }))) q s.members)) number
              (sits-apart q (Some (record t { sub = length s.subgroups })) t.sub s.members other.0 other.1)
          | inr elsewhere ↦ sits-apart q (Some (record t { sub = length s.subgroups })) k s.members sat elsewhere
        ]
