-- A peer leaves: the view, and what is kept.
use Rattle.std.proofs.Common.{◌≡◌, ℕ, zero, suc, ◌<◌, inl, inr, Bool, true, false, List, [], ◌∷◌, length, slice_get, Option, Some, None, is_some, refl, sym, ap, subst, ◌∙◌, arith}
use Rattle.std.specs.Prelude.{nat_lt, ◌||◌, if◌then◌else◌}
use Rattle.std.specs.List.{list_any}
use Rattle.std.specs.Option.{option_map}
use Rattle.std.proofs.lemmas.Bool.{cases_eq, eq-eqb}
use Rattle.std.proofs.lemmas.Bool.Decides.{nat_tests}
use Rattle.ug_world.specs.World.{World}
use Rattle.ug_speaker.specs.Places.{change_at}
use Rattle.ug_speaker.proofs.Places.{changed-there}
use Rattle.std.specs.Map.{lookup}
use Rattle.ug_queue.specs.Queues.{is_member}
use Rattle.ug_group_rules.specs.Machine as machine
use Rattle.ug_group_rules.specs.Machine.{Seat, System, sits, sits_in, has_members, seat_at, seat_of, seated, with_seat, unless_empty, without_subgroup}
use Rattle.ug_groups.specs.Rows.{Row, Rows, row_at, any_at, subs_of, with_row, without_row, left_row}
use Rattle.ug_groups.specs.declared.member.Member.{Member}
use Rattle.ug_groups.specs.Members.{rest_in, seat_in, member_of, members_from, system, sub_in, sub_at, is_sub, is_queued, stands}
use Rattle.ug_groups.specs.Kept.{AreSeated, AreInhabited, AreTabled, IsOwn, AreOwn, AreRows}
use Rattle.ug_groups.specs.Changes.{with_sub, has_places, unless_left}
use Rattle.ug_groups.proofs.RowsAt.{row-here, row-there, gone-here, gone-there, gone-cases, changed-cases, any-some, subs-same, subs-gone}
use Rattle.ug_groups.proofs.MemberViews.{member-get, same-member, one-changed, none-changed, sub-is, sub-some}
use Rattle.ug_groups.proofs.Queued.{apart-test, left-some, left-none, left-rest, first-queued}
use Rattle.ug_groups.proofs.Keeping.{IsAlike, AreOwnBut, stands-with, tabled-with, rest-with, change-as, sub-moved, sub-beside}

-- ---- whether a subgroup has members

pub seat-sub : (rows : Rows) (p g : ℕ) (o : Option ℕ) → sits_in g (option_map (seat_in rows p) o) ≡ is_sub g o
seat-sub rows p g None = refl
seat-sub rows p g (Some h) = refl

pub none_any : {T : Type 0} (test : T → Bool) (xs : List T) → ((p : ℕ) (x : T) → slice_get xs p ≡ Some x → test x ≡ false) → list_any test xs ≡ false
none_any test [] h = refl
none_any test (x ∷ xs) h = ap (λ (b : Bool). b || list_any test xs) (h 0 x refl) ∙ none_any test xs (λ p y is. h (suc p) y is)

pub one_any : {T : Type 0} (test : T → Bool) (xs : List T) (p : ℕ) (x : T) → slice_get xs p ≡ Some x → test x ≡ true → list_any test xs ≡ true
one_any test [] p x is e = absurd cc
one_any test (y ∷ xs) zero x is e = let same : y ≡ x = cc in ap (λ (b : Bool). b || list_any test xs) (ap test same ∙ e)
one_any test (y ∷ xs) (suc p) x is e = or_true (test y) (list_any test xs) (one_any test xs p x is e)
  where
    or_true : (a b : Bool) → b ≡ true → (a || b) ≡ true
    or_true true b e = refl
    or_true false b e = e

pub view-some : (rows : Rows) (members : List Member) (p : ℕ) (x : machine.Member) → slice_get (members_from rows 0 members) p ≡ Some x → (m : Member) × (slice_get members p ≡ Some m) × (x ≡ member_of rows p m)
view-some rows members p x is = by (slice_get members p) refl (sym (member-get rows p members) ∙ is)
  where
    by : (o : Option Member) → slice_get members p ≡ o → option_map (member_of rows p) o ≡ Some x → (m : Member) × (slice_get members p ≡ Some m) × (x ≡ member_of rows p m)
    by None at e = absurd cc
    by (Some m) at e = (m, at, sym (one (member_of rows p m) x e))
      where
        one : (a b : machine.Member) → Some a ≡ Some b → a ≡ b
        one a b e = cc

pub sits-is : (rows : Rows) (members : List Member) (p g : ℕ) (m : Member) → slice_get members p ≡ Some m → AreSeated rows members → sits g (member_of rows p m) ≡ stands p g rows
sits-is rows members p g m at seats = seat-sub rows p g m.sub ∙ ap (is_sub g) (sym (sub-is p members m at)) ∙ sym (seats p g)

-- it has as soon as its queue has
pub has-members-is : (rows : Rows) (members : List Member) (g : ℕ) (r : Row) → AreSeated rows members → row_at g rows ≡ Some r → has_members g (members_from rows 0 members) ≡ has_places r
has-members-is rows members g r seats is = by r.queue.places refl
  where
    queued : (p : ℕ) → stands p g rows ≡ is_queued p r
    queued p = ap (any_at (is_queued p)) is

    by : (es : List (ℕ × ℕ)) → r.queue.places ≡ es → has_members g (members_from rows 0 members) ≡ nat_lt 0 (length r.queue.places)
    by [] e =
        none_any (sits g) (members_from rows 0 members)
        (λ p x at. let found = view-some rows members p x at in
        ap (sits g) found.2 ∙ sits-is rows members p g found.0 found.1 seats ∙ queued p ∙ ap (λ (l : List (ℕ × ℕ)). is_some (lookup (is_member p) l)) e)
        ∙ ap (λ (l : List (ℕ × ℕ)). nat_lt 0 (length l)) (sym e)
    by (x ∷ es) e =
        let there_is : is_sub g (sub_at x.0 members) ≡ true = sym (seats x.0 g) ∙ queued x.0 ∙ ap (λ (l : List (ℕ × ℕ)). is_some (lookup (is_member x.0) l)) e ∙ first-queued x es in
        let found = sub-of x.0 (slice_get members x.0) refl there_is in
        one_any (sits g) (members_from rows 0 members) x.0 (member_of rows x.0 found.0) (member-get rows x.0 members ∙ ap (option_map (member_of rows x.0)) found.1)
        (seat-sub rows x.0 g found.0.sub ∙ ap (is_sub g) (sym (sub-is x.0 members found.0 found.1)) ∙ there_is)
        ∙ sym (ap (λ (l : List (ℕ × ℕ)). nat_lt 0 (length l)) e ∙ some_length es)
      where
        sub-of : (p : ℕ) (o : Option Member) → slice_get members p ≡ o → is_sub g (sub_in o) ≡ true → (m : Member) × (slice_get members p ≡ Some m)
        sub-of p None at e = absurd cc
        sub-of p (Some m) at e = (m, at)

        some_length : (l : List (ℕ × ℕ)) → nat_lt 0 (suc (length l)) ≡ true
        some_length l = grind (arith, nat_tests)

-- ---- one that leaves

pub unseated : (p : ℕ) (members : List Member) → sub_at p members ≡ None → change_at (with_sub None) p members ≡ members
unseated p [] none = refl
unseated zero (m ∷ members) none = ap (λ (o : Option ℕ). record m { sub = o } ∷ members) (sym none)
unseated (suc p) (m ∷ members) none = ap (λ (l : List Member). m ∷ l) (unseated p members none)

no_queued : (q : ℕ) (o : Option Row) → any_at has_places o ≡ false → any_at (is_queued q) o ≡ false
no_queued q None e = refl
no_queued q (Some r) e = by r.queue.places e
  where
    by : (es : List (ℕ × ℕ)) → nat_lt 0 (length es) ≡ false → is_some (lookup (is_member q) es) ≡ false
    by [] e = refl
    by (x ∷ es) e = absurd (let some = some_length es in cc)
      where
        some_length : (l : List (ℕ × ℕ)) → nat_lt 0 (suc (length l)) ≡ true
        some_length l = grind (arith, nat_tests)

left-alike : (p : ℕ) (r : Row) → IsAlike r (left_row p r)
left-alike p r = record { key = refl; desired = refl; limit = refl }

is-place : (o : Option Row) (r : Row) → o ≡ Some r → any_at has_places o ≡ true → 0 < length r.queue.places
is-place o r is e = by (sym (ap (any_at has_places) is) ∙ e)
  where
    by : nat_lt 0 (length r.queue.places) ≡ true → 0 < length r.queue.places
    by e = grind (arith, nat_tests)

module _ (p : ℕ) (rows : Rows) (members : List Member) (seats : AreSeated rows members) (each : AreRows rows) (g : ℕ) (sub : sub_at p members ≡ Some g) where
  abbrev found : (m : Member) × (slice_get members p ≡ Some m) × (m.sub ≡ Some g)
  found = sub-some p g members sub

  abbrev left : Rows
  left = with_row g (left_row p) rows

  abbrev now : List Member
  now = change_at (with_sub None) p members

  gone_sub : sub_at p now ≡ None
  gone_sub = sub-moved p None members found.0 found.1

  here_not : (h : ℕ) → stands p h left ≡ false
  here_not h =
      elim (cases_eq h g) [
        | inl same ↦
            subst (λ (k : ℕ). stands p k left ≡ false) (sym same)
            (ap (any_at (is_queued p)) (row-here g (left_row p) rows) ∙ by (row_at g rows) refl)
        | inr apart ↦
            ap (any_at (is_queued p)) (row-there g h (left_row p) rows apart) ∙ seats p h ∙ ap (is_sub h) sub ∙ apart-test g h (λ e. apart (sym e))
      ]
    where
      by : (o : Option Row) → row_at g rows ≡ o → any_at (is_queued p) (option_map (left_row p) o) ≡ false
      by None is = refl
      by (Some r) is = left-none r.queue p (each g r is).sorted

  seated-part : AreSeated left now
  seated-part q h =
      elim (cases_eq q p) [
        | inl same ↦ subst (λ (k : ℕ). stands k h left ≡ is_sub h (sub_at k now)) (sym same) (here_not h ∙ ap (is_sub h) (sym gone_sub))
        | inr apart ↦
            stands-with g (left_row p) rows q h (λ r is. left-some r.queue p q apart) ∙ seats q h ∙ ap (is_sub h) (sym (sub-beside p None members q apart))
      ]

  rests-part : (q : ℕ) (n : Member) → (q ≡ p → ⊥) → slice_get members q ≡ Some n → member_of left q n ≡ member_of rows q n
  rests-part q n apart at = same-member rows left q n (λ k k_sub. rest-with g (left_row p) rows q k (λ r is. left-rest r.queue p q apart))

  pub left-seated : AreSeated (unless_left g left) now
  left-seated = by (any_at has_places (row_at g left)) refl
    where
      by : (b : Bool) → any_at has_places (row_at g left) ≡ b → AreSeated (if b then left else without_row g left) now
      by true e = seated-part
      by false e = λ q h.
          elim (cases_eq h g) [
            | inl same ↦
                subst (λ (k : ℕ). stands q k (without_row g left) ≡ is_sub k (sub_at q now)) (sym same)
                (ap (any_at (is_queued q)) (gone-here g left) ∙ sym (no_queued q (row_at g left) e) ∙ seated-part q g)
            | inr apart ↦ ap (any_at (is_queued q)) (gone-there g h left apart) ∙ seated-part q h
          ]

  pub left-inhabited : AreInhabited rows → AreInhabited (unless_left g left)
  left-inhabited all = by (any_at has_places (row_at g left)) refl
    where
      others : (h : ℕ) (r : Row) → (h ≡ g → ⊥) → row_at h left ≡ Some r → 0 < length r.queue.places
      others h r apart is = all h r (sym (row-there g h (left_row p) rows apart) ∙ is)

      by : (b : Bool) → any_at has_places (row_at g left) ≡ b → AreInhabited (if b then left else without_row g left)
      by true e = λ h r is.
          elim (cases_eq h g) [
            | inl same ↦ is-place (row_at g left) r (subst (λ (k : ℕ). row_at k left ≡ Some r) same is) e
            | inr apart ↦ others h r apart is
          ]
      by false e = λ h r is. let it = gone-cases g h left r is in others h r it.apart it.there_is

  pub left-tabled : (w : World) → AreTabled w rows → AreTabled w (unless_left g left)
  left-tabled w all = by (any_at has_places (row_at g left))
    where
      part : AreTabled w left
      part = tabled-with g (left_row p) rows w (λ r is. left-alike p r) all

      by : (b : Bool) → AreTabled w (if b then left else without_row g left)
      by true = part
      by false = λ h r is. part h r (gone-cases g h left r is).there_is

  pub left-own : (w : World) → AreOwnBut p w rows members → AreOwn w (unless_left g left) now
  left-own w all = by (any_at has_places (row_at g left))
    where
      part : AreOwn w left now
      part q h s r peer sits is =
          elim (cases_eq q p) [
            | inl same ↦ absurd (let none = sym (subst (λ (k : ℕ). sub_at k now ≡ Some h) same sits) ∙ gone_sub in cc)
            | inr apart ↦
                let at = sym (sub-beside p None members q apart) ∙ sits in
                elim (changed-cases g h (left_row p) rows r is) [
                  | inl it ↦
                      subst (IsOwn w s) (sym it.changed)
                      (let was = all q g s it.old apart peer (subst (λ (k : ℕ). sub_at q members ≡ Some k) it.number at) it.there_is in record { up = was.up; key = was.key })
                  | inr it ↦ all q h s r apart peer at it.there_is
                ]
          ]

      by : (b : Bool) → AreOwn w (if b then left else without_row g left) now
      by true = part
      by false = λ q h s r peer sits is. part q h s r peer sits (gone-cases g h left r is).there_is

  -- the rests of others, also where the subgroup is gone
  gone-rests : any_at has_places (row_at g left) ≡ false → (q : ℕ) (n : Member) → slice_get now q ≡ Some n → member_of (without_row g left) q n ≡ member_of left q n
  gone-rests e q n at =
      same-member left (without_row g left) q n
      (λ k sits.
      elim (cases_eq k g) [
        | inl same ↦
            absurd
            (let stays : stands q g left ≡ true = seated-part q g ∙ ap (is_sub g) (sub-is q now n at ∙ sits) ∙ eq-eqb k g same in
            let gone = sym (no_queued q (row_at g left) e) ∙ stays in cc)
        | inr apart ↦ ap (rest_in q) (gone-there g k left apart)
      ])

  pub left-rests : (q : ℕ) (n : Member) → (q ≡ p → ⊥) → slice_get members q ≡ Some n → member_of (unless_left g left) q n ≡ member_of rows q n
  left-rests q n apart at = by (any_at has_places (row_at g left)) refl
    where
      by : (b : Bool) → any_at has_places (row_at g left) ≡ b → member_of (if b then left else without_row g left) q n ≡ member_of rows q n
      by true e = rests-part q n apart at
      by false e = gone-rests e q n (changed-there (with_sub None) p q members apart ∙ at) ∙ rests-part q n apart at

  module _ (w : World) (closed : Bool) (made : ℕ) where
    abbrev s : System
    s = system w closed made rows members

    seat_is : seat_at p s ≡ Some (seat_in rows p g)
    seat_is = ap seat_of (member-get rows p members ∙ ap (option_map (member_of rows p)) found.1) ∙ ap (option_map (seat_in rows p)) found.2

    unseated-view : members_from left 0 now ≡ change_at (with_seat None) p (members_from rows 0 members)
    unseated-view =
        ap (λ (l : List Member). members_from left 0 l) (change-as p members found.0 (with_sub None) found.1)
        ∙ one-changed (with_seat None) rows left p members found.0 (with_sub None found.0) found.1 refl rests-part

    part-view : system w closed made left now ≡ seated p None s
    part-view =
        ap (λ (l : List (Option machine.Subgroup)). record { world = w; closed = closed; made = made; subgroups = l; members = members_from left 0 now }) (subs-same g (left_row p) rows (λ x. refl))
        ∙ ap (λ (l : List machine.Member). record s { members = l }) unseated-view

    there_left : (r : Row) × (row_at g left ≡ Some r)
    there_left =
        let row = any-some (is_queued p) (row_at g rows) (seats p g ∙ ap (is_sub g) sub ∙ eq-eqb g g refl) in
        (left_row p row.0, row-here g (left_row p) rows ∙ ap (option_map (left_row p)) row.1)

    has : has_members g (members_from left 0 now) ≡ any_at has_places (row_at g left)
    has = has-members-is left now g there_left.0 seated-part there_left.1 ∙ sym (ap (any_at has_places) there_left.1)

    gone-view : any_at has_places (row_at g left) ≡ false → system w closed made (without_row g left) now ≡ without_subgroup g (system w closed made left now)
    gone-view e =
        ap (λ (l : List (Option machine.Subgroup)). record { world = w; closed = closed; made = made; subgroups = l; members = members_from (without_row g left) 0 now }) (subs-gone g left)
        ∙ ap (λ (l : List machine.Member). record { world = w; closed = closed; made = made; subgroups = change_at (λ (x : Option machine.Subgroup). None) g (subs_of left); members = l })
        (none-changed left (without_row g left) now (gone-rests e))

    pub left-view : system w closed made (unless_left g left) now ≡ machine.leave p (seat_at p s) s
    left-view =
        by (any_at has_places (row_at g left)) refl
        ∙ ap (unless_empty g) part-view
        ∙ sym (ap (λ (o : Option Seat). machine.leave p o s) seat_is)
      where
        by : (b : Bool) → any_at has_places (row_at g left) ≡ b → system w closed made (if b then left else without_row g left) now ≡ unless_empty g (system w closed made left now)
        by true e = sym (ap (λ (b : Bool). if b then system w closed made left now else without_subgroup g (system w closed made left now)) (has ∙ e))
        by false e = gone-view e ∙ sym (ap (λ (b : Bool). if b then system w closed made left now else without_subgroup g (system w closed made left now)) (has ∙ e))
