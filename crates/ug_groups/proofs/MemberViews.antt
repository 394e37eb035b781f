-- The members of a machine, as those of its definitions.
use Rattle.std.proofs.Common.{◌≡◌, ℕ, zero, suc, ◌+◌, inl, inr, List, [], ◌∷◌, map, slice_get, Option, Some, None, refl, sym, ap, subst, ◌∙◌, arith}
use Rattle.std.specs.Option.{option_map}
use Rattle.std.proofs.lemmas.Bool.{cases_eq}
use Rattle.std.proofs.lemmas.Option.{slice_get-map}
use Rattle.ug_speaker.specs.Places.{change_at}
use Rattle.ug_speaker.proofs.Places.{changed-here, changed-there}
use Rattle.ug_group_rules.specs.Machine as machine
use Rattle.ug_group_rules.specs.Machine.{Seat}
use Rattle.ug_groups.specs.Rows.{Rows, row_at}
use Rattle.ug_groups.specs.declared.member.Member.{Member}
use Rattle.ug_groups.specs.Members.{rest_in, seat_in, member_of, members_from, sub_in, sub_at}
use Rattle.ug_groups.proofs.ListFacts.{same-lists}

members-get : (rows : Rows) (k p : ℕ) (members : List Member) → slice_get (members_from rows k members) p ≡ option_map (member_of rows (k + p)) (slice_get members p)
members-get rows k p [] = refl
members-get rows k zero (m ∷ members) = let e : k ≡ k + 0 = omega arith in ap (λ (n : ℕ). Some (member_of rows n m)) e
members-get rows k (suc p) (m ∷ members) =
    let e : k + 1 + p ≡ k + suc p = omega arith in
    members-get rows (k + 1) p members ∙ ap (λ (n : ℕ). option_map (member_of rows n) (slice_get members p)) e

pub member-get : (rows : Rows) (p : ℕ) (members : List Member) → slice_get (members_from rows 0 members) p ≡ option_map (member_of rows p) (slice_get members p)
member-get rows p members = let e : 0 + p ≡ p = omega arith in members-get rows 0 p members ∙ ap (λ (n : ℕ). option_map (member_of rows n) (slice_get members p)) e

-- where rests are the same, so are seats
pub same-seat : (rows new : Rows) (p : ℕ) (o : Option ℕ) → ((g : ℕ) → o ≡ Some g → rest_in p (row_at g new) ≡ rest_in p (row_at g rows)) → option_map (seat_in new p) o ≡ option_map (seat_in rows p) o
same-seat rows new p None h = refl
same-seat rows new p (Some g) h = ap (λ l. Some (record { sub = g; rest = l })) (h g refl)

pub same-member : (rows new : Rows) (p : ℕ) (m : Member) → ((g : ℕ) → m.sub ≡ Some g → rest_in p (row_at g new) ≡ rest_in p (row_at g rows)) → member_of new p m ≡ member_of rows p m
same-member rows new p m h = ap (λ (seat : Option Seat). record { begun = m.begun; unlost = m.unlost.items; handed = m.handed; seat = seat }) (same-seat rows new p m.sub h)

module _ (F : machine.Member → machine.Member) (rows new : Rows) where
  same-option : (p : ℕ) (members : List Member) (o : Option Member) → slice_get members p ≡ o → ((m : Member) → slice_get members p ≡ Some m → member_of new p m ≡ member_of rows p m)
      → option_map (member_of new p) o ≡ option_map (member_of rows p) o
  same-option p members None is h = refl
  same-option p members (Some m) is h = ap Some (h m is)

  -- one member is another, and the rests of all others are as before
  pub one-changed : (p : ℕ) (members : List Member) (m m' : Member) → slice_get members p ≡ Some m → member_of new p m' ≡ F (member_of rows p m)
      → ((q : ℕ) (n : Member) → (q ≡ p → ⊥) → slice_get members q ≡ Some n → member_of new q n ≡ member_of rows q n)
      → members_from new 0 (change_at (λ (x : Member). m') p members) ≡ change_at F p (members_from rows 0 members)
  one-changed p members m m' is here others =
      same-lists (members_from new 0 (change_at (λ (x : Member). m') p members)) (change_at F p (members_from rows 0 members)) at
    where
      at : (q : ℕ) → slice_get (members_from new 0 (change_at (λ (x : Member). m') p members)) q ≡ slice_get (change_at F p (members_from rows 0 members)) q
      at q =
          elim (cases_eq q p) [
            | inl same ↦
                subst (λ (k : ℕ). slice_get (members_from new 0 (change_at (λ (x : Member). m') p members)) k ≡ slice_get (change_at F p (members_from rows 0 members)) k) (sym same)
                (member-get new p (change_at (λ (x : Member). m') p members)
                ∙ ap (option_map (member_of new p)) (changed-here (λ (x : Member). m') p members ∙ ap (option_map (λ (x : Member). m')) is)
                ∙ ap Some here
                ∙ sym (changed-here F p (members_from rows 0 members) ∙ ap (option_map F) (member-get rows p members ∙ ap (option_map (member_of rows p)) is)))
            | inr apart ↦
                member-get new q (change_at (λ (x : Member). m') p members)
                ∙ ap (option_map (member_of new q)) (changed-there (λ (x : Member). m') p q members apart)
                ∙ same-option q members (slice_get members q) refl (λ n at_q. others q n apart at_q)
                ∙ sym (changed-there F p q (members_from rows 0 members) apart ∙ member-get rows q members)
          ]

  each-option : (q : ℕ) (f : Member → Member) (members : List Member) (o : Option Member) → slice_get members q ≡ o → ((m : Member) → slice_get members q ≡ Some m → member_of new q (f m) ≡ F (member_of rows q m))
      → option_map (member_of new q) (option_map f o) ≡ option_map F (option_map (member_of rows q) o)
  each-option q f members None is h = refl
  each-option q f members (Some m) is h = ap Some (h m is)

  -- each member is changed
  pub each-changed : (f : ℕ → Member → Member) (members members' : List Member) → ((q : ℕ) → slice_get members' q ≡ option_map (f q) (slice_get members q))
      → ((q : ℕ) (m : Member) → slice_get members q ≡ Some m → member_of new q (f q m) ≡ F (member_of rows q m))
      → members_from new 0 members' ≡ map F (members_from rows 0 members)
  each-changed f members members' at is =
      same-lists (members_from new 0 members') (map F (members_from rows 0 members))
      (λ q. member-get new q members' ∙ ap (option_map (member_of new q)) (at q) ∙ each-option q (f q) members (slice_get members q) refl (is q)
      ∙ sym (slice_get-map F (members_from rows 0 members) q ∙ ap (option_map F) (member-get rows q members)))

-- all rests are as before
pub none-changed : (rows new : Rows) (members : List Member) → ((q : ℕ) (m : Member) → slice_get members q ≡ Some m → member_of new q m ≡ member_of rows q m) → members_from new 0 members ≡ members_from rows 0 members
none-changed rows new members h =
    same-lists (members_from new 0 members) (members_from rows 0 members)
    (λ q. member-get new q members ∙ by q (slice_get members q) refl ∙ sym (member-get rows q members))
  where
    by : (q : ℕ) (o : Option Member) → slice_get members q ≡ o → option_map (member_of new q) o ≡ option_map (member_of rows q) o
    by q None is = refl
    by q (Some m) is = ap Some (h q m is)

-- ---- the subgroups of members, where one of them is another

pub sub-here : (p : ℕ) (members : List Member) (m m' : Member) → slice_get members p ≡ Some m → sub_at p (change_at (λ (x : Member). m') p members) ≡ m'.sub
sub-here p members m m' is = ap sub_in (changed-here (λ (x : Member). m') p members ∙ ap (option_map (λ (x : Member). m')) is)

pub sub-there : (p q : ℕ) (members : List Member) (m' : Member) → (q ≡ p → ⊥) → sub_at q (change_at (λ (x : Member). m') p members) ≡ sub_at q members
sub-there p q members m' apart = ap sub_in (changed-there (λ (x : Member). m') p q members apart)

pub sub-kept : (p q : ℕ) (members : List Member) (m m' : Member) → slice_get members p ≡ Some m → m'.sub ≡ m.sub → sub_at q (change_at (λ (x : Member). m') p members) ≡ sub_at q members
sub-kept p q members m m' is same =
    elim (cases_eq q p) [
      | inl here ↦
          subst (λ (k : ℕ). sub_at k (change_at (λ (x : Member). m') p members) ≡ sub_at k members) (sym here)
          (sub-here p members m m' is ∙ same ∙ ap sub_in (sym is))
      | inr apart ↦ sub-there p q members m' apart
    ]

pub sub-is : (p : ℕ) (members : List Member) (m : Member) → slice_get members p ≡ Some m → sub_at p members ≡ m.sub
sub-is p members m is = ap sub_in is

pub sub-some : (p g : ℕ) (members : List Member) → sub_at p members ≡ Some g → (m : Member) × (slice_get members p ≡ Some m) × (m.sub ≡ Some g)
sub-some p g members e = by (slice_get members p) refl e
  where
    by : (o : Option Member) → slice_get members p ≡ o → sub_in o ≡ Some g → (m : Member) × (slice_get members p ≡ Some m) × (m.sub ≡ Some g)
    by None is e = absurd cc
    by (Some m) is e = (m, is, e)
