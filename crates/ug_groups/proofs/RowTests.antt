-- The tests of the machine's definitions are tests of rows.
use Rattle.std.proofs.Common.{◌≡◌, ℕ, zero, suc, ◌+◌, ◌-◌, ◌<◌, ◌≤◌, inl, inr, Bool, true, false, List, [], ◌∷◌, length, drop, slice_get, Option, Some, None, is_some, refl, sym, ap, subst, ◌∙◌, arith, length-drop}
use Rattle.std.specs.Prelude.{nat_lt, cond, IfSome, ◌==◌, ◌&&◌, ◌||◌, not, if◌then◌else◌}
use Rattle.std.specs.List.{list_any}
use Rattle.std.specs.Map.{keys_of, values_of}
use Rattle.std.specs.Option.{option_map}
use Rattle.std.specs.Ordering.{nat_cmp}
use Rattle.std.specs.Cmp.{eq_by_cmp_equiv}
use Rattle.std.proofs.lemmas.Bool.{cases_eq, eq-eqb, eqb-true}
use Rattle.std.proofs.lemmas.Bool.Decides.{nat_tests}
use Rattle.std.proofs.lemmas.Cmp.{nat_cmp_total}
use Rattle.std.proofs.lemmas.List.Sums.{sum_by-cons}
use Rattle.std.proofs.lemmas.Map.Keys.{IsDistinct-from_sorted}
use Rattle.std.proofs.lemmas.Map.Entries.{lookup_from_place, place_from_lookup}
use Rattle.ug_queue.specs.Queues.{Queued, is_member, place_of, from_place, rest_of, standing}
use Rattle.ug_queue.proofs.Rests.{rests}
use Rattle.ug_group_rules.specs.Packets.{Packet}
use Rattle.ug_group_rules.specs.Machine as machine
use Rattle.ug_group_rules.specs.Machine.{Seat, sits, left_in, queued, stands_first, stands_behind}
use Rattle.ug_groups.specs.Rows.{Row, Rows, row_at, any_at, is_parted_row, IsRow}
use Rattle.ug_groups.specs.declared.member.Member.{Member}
use Rattle.ug_groups.specs.Members.{rest_in, seat_in, member_of, members_from, sub_at, is_sub, is_queued}
use Rattle.ug_groups.specs.Kept.{AreSeated}
use Rattle.ug_groups.proofs.MemberViews.{member-get, sub-is, sub-some}
use Rattle.ug_groups.proofs.Queued.{apart-test}
use Rattle.ug_groups.proofs.Left.{view-some, one_any}

pub any_some : {T : Type 0} (test : T → Bool) (xs : List T) → list_any test xs ≡ true → (p : ℕ) × (x : T) × (slice_get xs p ≡ Some x) × (test x ≡ true)
any_some test [] e = absurd cc
any_some {T} test (x ∷ xs) e = by (test x) refl e (any_some test xs)
  where
    by : (b : Bool) → test x ≡ b → (b || list_any test xs) ≡ true → (list_any test xs ≡ true → (p : ℕ) × (y : T) × (slice_get xs p ≡ Some y) × (test y ≡ true)) → (p : ℕ) × (y : T) × (slice_get (x ∷ xs) p ≡ Some y) × (test y ≡ true)
    by true is e later = (0, x, refl, is)
    by false is e later = let found = later e in (suc found.0, found.1, found.2, found.3)

same_any : {T : Type 0} (one other : T → Bool) (xs : List T) → ((x : T) → one x ≡ other x) → list_any one xs ≡ list_any other xs
same_any one other [] h = refl
same_any one other (x ∷ xs) h = ap (λ (b : Bool). b || list_any one xs) (h x) ∙ ap (λ (b : Bool). other x || b) (same_any one other xs h)

-- ---- how many stand at the front

abbrev front_one : ℕ → ℕ
front_one p = cond (p == 0) 1 0

standing-cons : (x : ℕ × ℕ) (es : List (ℕ × ℕ)) → standing (x ∷ es) 0 ≡ front_one x.1 + standing es 0
standing-cons x es = sum_by-cons front_one x.1 (values_of es)

standing-most : (es : List (ℕ × ℕ)) → standing es 0 ≤ length es
standing-most [] = omega arith
standing-most (x ∷ es) = let rest = standing-most es in let e = standing-cons x es in let one = by (x.1 == 0) in omega (arith, rest, e, one)
  where
    by : (b : Bool) → cond b 1 0 ≤ 1
    by true = omega arith
    by false = omega arith

pub standing-first : (es : List (ℕ × ℕ)) → nat_lt 0 (standing es 0) ≡ list_any (λ (e : ℕ × ℕ). e.1 == 0) es
standing-first [] = refl
standing-first (x ∷ es) = ap (nat_lt 0) (standing-cons x es) ∙ by (x.1 == 0) (standing es 0) (standing-first es)
  where
    by : (b : Bool) (n : ℕ) → nat_lt 0 n ≡ list_any (λ (e : ℕ × ℕ). e.1 == 0) es → nat_lt 0 (cond b 1 0 + n) ≡ (b || list_any (λ (e : ℕ × ℕ). e.1 == 0) es)
    by true n e = some n
      where
        some : (n : ℕ) → nat_lt 0 (1 + n) ≡ true
        some n = grind (arith, nat_tests)
    by false n e = let none : 0 + n ≡ n = omega arith in ap (nat_lt 0) none ∙ e

pub standing-behind : (es : List (ℕ × ℕ)) → nat_lt (standing es 0) (length es) ≡ list_any (λ (e : ℕ × ℕ). not (e.1 == 0)) es
standing-behind [] = refl
standing-behind (x ∷ es) = ap (λ (n : ℕ). nat_lt n (suc (length es))) (standing-cons x es) ∙ by (x.1 == 0) (standing es 0) (length es) (standing-most es) (standing-behind es)
  where
    by : (b : Bool) (n k : ℕ) → n ≤ k → nat_lt n k ≡ list_any (λ (e : ℕ × ℕ). not (e.1 == 0)) es → nat_lt (cond b 1 0 + n) (suc k) ≡ (not b || list_any (λ (e : ℕ × ℕ). not (e.1 == 0)) es)
    by true n k le e = same n k ∙ e
      where
        same : (n k : ℕ) → nat_lt (1 + n) (suc k) ≡ nat_lt n k
        same n k = grind (arith, nat_tests)
    by false n k le e = less n k le
      where
        less : (n k : ℕ) → n ≤ k → nat_lt (0 + n) (suc k) ≡ true
        less n k le = grind (arith, nat_tests)

-- ---- the queue is the longest of the rests

queued-most : (g n : ℕ) (ms : List machine.Member) → ((p : ℕ) (x : machine.Member) → slice_get ms p ≡ Some x → left_in g x.seat ≤ n) → queued g ms ≤ n
queued-most g n [] h = omega arith
queued-most g n (m ∷ ms) h = let here = h 0 m refl in let rest = queued-most g n ms (λ p x is. h (suc p) x is) in omega (arith, here, rest)

queued-least : (g : ℕ) (ms : List machine.Member) (p : ℕ) (x : machine.Member) → slice_get ms p ≡ Some x → left_in g x.seat ≤ queued g ms
queued-least g [] p x is = absurd cc
queued-least g (m ∷ ms) zero x is = let same : m ≡ x = cc in let here : left_in g x.seat ≡ left_in g m.seat = ap (λ (y : machine.Member). left_in g y.seat) (sym same) in omega (arith, here)
queued-least g (m ∷ ms) (suc p) x is = let rest = queued-least g ms p x is in omega (arith, rest)

pub rest-most : (q : Queued Packet) (p : ℕ) → length (rest_of q p) ≤ length q.packets
rest-most q p = by (place_of q p)
  where
    by : (o : Option ℕ) → length (from_place q.packets o) ≤ length q.packets
    by None = omega arith
    by (Some place) = let e = length-drop place q.packets in omega (arith, e)

pub sub-eq : (g : ℕ) (o : Option ℕ) → is_sub g o ≡ true → o ≡ Some g
sub-eq g None e = absurd cc
sub-eq g (Some h) e = ap Some (eqb-true h g e)

member-some : (q : Queued Packet) (p : ℕ) → 0 < length (rest_of q p) → is_some (place_of q p) ≡ true
member-some q p some = by (place_of q p) some
  where
    by : (o : Option ℕ) → 0 < length (from_place q.packets o) → is_some o ≡ true
    by None e = absurd (omega (arith, e))
    by (Some place) e = refl

module _ (rows : Rows) (members : List Member) (seats : AreSeated rows members) (g : ℕ) (r : Row) (row : row_at g rows ≡ Some r) (it : IsRow r) where
  abbrev views : List machine.Member
  views = members_from rows 0 members

  stands-row : (p : ℕ) → is_queued p r ≡ is_sub g (sub_at p members)
  stands-row p = sym (ap (any_at (is_queued p)) row) ∙ seats p g

  -- what a member has left in it
  left-is : (p : ℕ) (o : Option ℕ) → left_in g (option_map (seat_in rows p) o) ≡ (if is_sub g o then length (rest_of r.queue p) else 0)
  left-is p None = refl
  left-is p (Some h) = by (h == g) refl
    where
      by : (b : Bool) → (h == g) ≡ b → (if b then length (rest_in p (row_at h rows)) else 0) ≡ (if b then length (rest_of r.queue p) else 0)
      by true e = ap (λ (k : ℕ). length (rest_in p (row_at k rows))) (eqb-true h g e) ∙ ap (λ (o : Option Row). length (rest_in p o)) row
      by false e = refl

  left-most : (p : ℕ) (x : machine.Member) → slice_get views p ≡ Some x → left_in g x.seat ≤ length r.queue.packets
  left-most p x at =
      let found = view-some rows members p x at in
      let same : left_in g x.seat ≡ (if is_sub g found.0.sub then length (rest_of r.queue p) else 0) = ap (λ (y : machine.Member). left_in g y.seat) found.2 ∙ left-is p found.0.sub in
      let most = by (is_sub g found.0.sub) in omega (arith, same, most)
    where
      by : (b : Bool) → (if b then length (rest_of r.queue p) else 0) ≤ length r.queue.packets
      by true = rest-most r.queue p
      by false = omega arith

  seated-view : (p : ℕ) → is_queued p r ≡ true → (m : Member) × (slice_get members p ≡ Some m) × (m.sub ≡ Some g)
  seated-view p e = sub-some p g members (sub-eq g (sub_at p members) (sym (stands-row p) ∙ e))

  pub queued-is : queued g views ≡ length r.queue.packets
  queued-is =
      let most = queued-most g (length r.queue.packets) views left-most in
      elim (cases_eq (length r.queue.packets) 0) [
        | inl none ↦ omega (arith, most, none)
        | inr some ↦
            let longest = rests.longest r.queue it.sorted it.needed (omega (arith, some)) in
            let whole : length (rest_of r.queue longest.0) ≡ length r.queue.packets = ap (λ (l : List Packet). length l) longest.1 in
            let there_is = seated-view longest.0 (member-some r.queue longest.0 (omega (arith, whole, some))) in
            let least = queued-least g views longest.0 (member_of rows longest.0 there_is.0) (member-get rows longest.0 members ∙ ap (option_map (member_of rows longest.0)) there_is.1) in
            let here : left_in g (member_of rows longest.0 there_is.0).seat ≡ length (rest_of r.queue longest.0) =
            ap (λ (o : Option ℕ). left_in g (option_map (seat_in rows longest.0) o)) there_is.2 ∙ left-is longest.0 (Some g) ∙ ap (λ (b : Bool). if b then length (rest_of r.queue longest.0) else 0) (eq-eqb g g refl) in
            omega (arith, most, least, here, whole)
      ]

  -- ---- who stands at the front, and who behind it

  abbrev at_front : ℕ → Bool
  at_front place = place == 0

  abbrev behind : ℕ → Bool
  behind place = not (place == 0)

  pub front-length : (place : ℕ) → place ≤ length r.queue.packets → (length (drop place r.queue.packets) == length r.queue.packets) ≡ (place == 0)
  front-length place le = by (length (drop place r.queue.packets)) (length r.queue.packets) (length-drop place r.queue.packets) le
    where
      by : (a n : ℕ) → a ≡ n - place → place ≤ n → (a == n) ≡ (place == 0)
      by a n e le =
          elim (cases_eq place 0) [
            | inl z ↦ eq-eqb a n (omega (arith, e, z)) ∙ sym (eq-eqb place 0 z)
            | inr nz ↦ apart-test a n (λ same. absurd (omega (arith, same, e, nz, le))) ∙ sym (apart-test place 0 nz)
          ]

  -- the length of a member's rest tells its place
  rest-front : (p place : ℕ) → place_of r.queue p ≡ Some place → (length (rest_of r.queue p) == length r.queue.packets) ≡ (place == 0)
  rest-front p place at =
      ap (λ (o : Option ℕ). length (from_place r.queue.packets o) == length r.queue.packets) at
      ∙ front-length place (subst (λ (o : Option ℕ). IfSome o (λ k. k ≤ length r.queue.packets)) at (it.inside p))

  place-some : (p : ℕ) → is_queued p r ≡ true → (place : ℕ) × (place_of r.queue p ≡ Some place)
  place-some p e = by (place_of r.queue p) refl e
    where
      by : (o : Option ℕ) → place_of r.queue p ≡ o → is_some o ≡ true → (place : ℕ) × (place_of r.queue p ≡ Some place)
      by None at e = absurd cc
      by (Some place) at e = (place, at)

  -- a test of how much is left of one that sits there
  module _ (test : Bool → Bool) where
    abbrev seat_test : Option Seat → Bool
    seat_test None = false
    seat_test (Some t) = (t.sub == g) && test (length t.rest == length r.queue.packets)

    abbrev entry_test : ℕ × ℕ → Bool
    entry_test e = test (e.1 == 0)

    seat-passes : (p : ℕ) (o : Option ℕ) → seat_test (option_map (seat_in rows p) o) ≡ true → (o ≡ Some g) × (test (length (rest_of r.queue p) == length r.queue.packets) ≡ true)
    seat-passes p None e = absurd cc
    seat-passes p (Some h) e = by (h == g) refl e
      where
        by : (b : Bool) → (h == g) ≡ b → (b && test (length (rest_in p (row_at h rows)) == length r.queue.packets)) ≡ true → (Some h ≡ Some g) × (test (length (rest_of r.queue p) == length r.queue.packets) ≡ true)
        by true is e =
            let same = eqb-true h g is in
            (ap Some same, sym (ap (λ (k : ℕ). test (length (rest_in p (row_at k rows)) == length r.queue.packets)) same ∙ ap (λ (o : Option Row). test (length (rest_in p o) == length r.queue.packets)) row) ∙ e)
        by false is e = absurd cc

    passes-seat : (p : ℕ) → test (length (rest_of r.queue p) == length r.queue.packets) ≡ true → seat_test (option_map (seat_in rows p) (Some g)) ≡ true
    passes-seat p e =
        ap (λ (b : Bool). b && test (length (rest_in p (row_at g rows)) == length r.queue.packets)) (eq-eqb g g refl)
        ∙ ap (λ (o : Option Row). test (length (rest_in p o) == length r.queue.packets)) row ∙ e

    any-seat : list_any (λ (m : machine.Member). seat_test m.seat) views ≡ list_any entry_test r.queue.places
    any-seat = both (list_any (λ (m : machine.Member). seat_test m.seat) views) (list_any entry_test r.queue.places) forth back
      where
        both : (a b : Bool) → (a ≡ true → b ≡ true) → (b ≡ true → a ≡ true) → a ≡ b
        both true b f g = sym (f refl)
        both false true f g = g refl
        both false false f g = refl

        forth : list_any (λ (m : machine.Member). seat_test m.seat) views ≡ true → list_any entry_test r.queue.places ≡ true
        forth e =
            let some = any_some (λ (m : machine.Member). seat_test m.seat) views e in
            let p = some.0 in
            let found = view-some rows members p some.1 some.2 in
            let passes = seat-passes p found.0.sub (sym (ap (λ (m : machine.Member). seat_test m.seat) found.2) ∙ some.3) in
            let place = place-some p (stands-row p ∙ ap (is_sub g) (sub-is p members found.0 found.1 ∙ passes.0) ∙ eq-eqb g g refl) in
            let entry = place_from_lookup (is_member p) r.queue.places place.0 place.1 in
            one_any entry_test r.queue.places entry.0 (entry.1, place.0) entry.2 (sym (ap test (rest-front p place.0 place.1)) ∙ passes.1)

        back : list_any entry_test r.queue.places ≡ true → list_any (λ (m : machine.Member). seat_test m.seat) views ≡ true
        back e =
            let some = any_some entry_test r.queue.places e in
            let p = some.1.0 in
            let at : place_of r.queue p ≡ Some some.1.1 = lookup_from_place (eq_by_cmp_equiv nat_cmp_total) r.queue.places some.0 p some.1.1 (IsDistinct-from_sorted nat_cmp (keys_of r.queue.places) it.sorted) some.2 in
            let there_is = seated-view p (ap is_some at) in
            one_any (λ (m : machine.Member). seat_test m.seat) views p (member_of rows p there_is.0) (member-get rows p members ∙ ap (option_map (member_of rows p)) there_is.1)
            (ap (λ (o : Option ℕ). seat_test (option_map (seat_in rows p) o)) there_is.2 ∙ passes-seat p (ap test (rest-front p some.1.1 at) ∙ some.3))

  -- how many stand at the front
  pub parted-is : is_parted_row r ≡ (list_any (λ (m : machine.Member). stands_first g (queued g views) m.seat) views && list_any (λ (m : machine.Member). stands_behind g (queued g views) m.seat) views)
  parted-is =
      ap (λ (b : Bool). b && nat_lt (standing r.queue.places 0) (length r.queue.places)) (standing-first r.queue.places)
      ∙ ap (λ (b : Bool). list_any (λ (e : ℕ × ℕ). e.1 == 0) r.queue.places && b) (standing-behind r.queue.places)
      ∙ sym (ap (λ (n : ℕ). list_any (λ (m : machine.Member). stands_first g n m.seat) views && list_any (λ (m : machine.Member). stands_behind g n m.seat) views) queued-is
      ∙ ap (λ (b : Bool). b && list_any (λ (m : machine.Member). stands_behind g (length r.queue.packets) m.seat) views) (first-seat ∙ any-seat (λ b. b))
      ∙ ap (λ (b : Bool). list_any (λ (e : ℕ × ℕ). e.1 == 0) r.queue.places && b) (behind-seat ∙ any-seat not))
    where
      first-one : (o : Option Seat) → stands_first g (length r.queue.packets) o ≡ seat_test (λ b. b) o
      first-one None = refl
      first-one (Some t) = refl

      first-seat : list_any (λ (m : machine.Member). stands_first g (length r.queue.packets) m.seat) views ≡ list_any (λ (m : machine.Member). seat_test (λ b. b) m.seat) views
      first-seat = same_any (λ (m : machine.Member). stands_first g (length r.queue.packets) m.seat) (λ (m : machine.Member). seat_test (λ b. b) m.seat) views (λ m. first-one m.seat)

      behind-one : (o : Option Seat) → stands_behind g (length r.queue.packets) o ≡ seat_test not o
      behind-one None = refl
      behind-one (Some t) = refl

      behind-seat : list_any (λ (m : machine.Member). stands_behind g (length r.queue.packets) m.seat) views ≡ list_any (λ (m : machine.Member). seat_test not m.seat) views
      behind-seat = same_any (λ (m : machine.Member). stands_behind g (length r.queue.packets) m.seat) (λ (m : machine.Member). seat_test not m.seat) views (λ m. behind-one m.seat)
