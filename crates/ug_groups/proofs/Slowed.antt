-- Those at the front of a full queue leave it: who they are, the view, and what is kept.
use Rattle.std.proofs.Common.{◌≡◌, ℕ, ◌+◌, ◌<◌, ◌≤◌, ◌⊎◌, inl, inr, Bool, true, false, List, [], ◌∷◌, ◌++◌, length, get_or, slice_get, Option, Some, None, is_some, refl, sym, ap, subst, ◌∙◌, arith}
use Rattle.ug_group_rules.specs.Packets.{wanted_rows}
use Rattle.std.specs.Prelude.{IfSome, nat_lt, nat_le, ◌==◌, ◌&&◌, ◌||◌, not, if◌then◌else◌}
use Rattle.std.specs.List.{AllByRecursion}
use Rattle.std.specs.Map.{lookup, keys_of}
use Rattle.std.specs.Option.{option_map}
use Rattle.std.specs.Ordering.{nat_cmp}
use Rattle.std.specs.Cmp.{eq_by_cmp_equiv}
use Rattle.std.proofs.lemmas.Bool.{cases_eq, eq-eqb, eqb-true}
use Rattle.std.proofs.lemmas.Bool.Decides.{nat_tests}
use Rattle.std.proofs.lemmas.Cmp.{nat_cmp_total}
use Rattle.std.proofs.lemmas.Map.Keys.{IsDistinct-from_sorted}
use Rattle.std.proofs.lemmas.Map.Entries.{lookup_from_place}
use Rattle.ug_world.specs.declared.peer_state.PeerState.{PeerState}
use Rattle.ug_world.specs.World.{World}
use Rattle.ug_speaker.specs.Places.{change_at}
use Rattle.ug_speaker.specs.Counts.{has, sessions_at}
use Rattle.ug_speaker.proofs.Places.{changed-here, changed-there}
use Rattle.ug_queue.specs.Queues.{Queued, is_member, place_of, from_place, rest_of, seat_all, standing}
use Rattle.ug_group_rules.specs.Packets.{Packet}
use Rattle.ug_group_rules.specs.Machine as machine
use Rattle.ug_group_rules.specs.Machine.{System, Subgroup, Seat, queued, stands_first, parted, reseated, with_seats, with_subgroup, with_new, unstuck, slow_of, subgroup_at, is_pending}
use Rattle.ug_group_rules.specs.Rules.{rest_due}
use Rattle.ug_groups.specs.Subgroups.{StandTogether}
use Rattle.ug_groups.proofs.Together.{no_front, still_front, more_front, front_together}
use Rattle.ug_groups.specs.Rows.{Row, Rows, row_at, any_at, subs_of, with_row, with_next, with_sub as with_subgroup_of, rest_row, part_row, is_full_row, is_parted_row, must_part_row}
use Rattle.ug_groups.specs.declared.member.Member.{Member}
use Rattle.ug_groups.specs.Members.{rest_in, seat_in, member_of, members_from, system, sub_in, sub_at, is_sub, is_queued, stands}
use Rattle.ug_groups.specs.Kept.{AreSeated, IsTabled, IsOwn, HasRoom, IsKept, AreRows}
use Rattle.ug_groups.specs.Changes.{with_sub, seat_listed}
use Rattle.ug_groups.specs.Fronts.{is_first, AreCollected}
use Rattle.ug_groups.specs.Done.{IsAt}
use Rattle.ug_groups.proofs.ListFacts.{some-same, length-changed, get_none}
use Rattle.ug_groups.proofs.Seats.{first-of, second-of}
use Rattle.ug_groups.proofs.RowsAt.{row-here, row-there, next-here, next-there, none-past, any-some, subs-same, subs-changed, subs-next, subs-length, sub-at}
use Rattle.ug_groups.proofs.MemberViews.{each-changed, sub-is, sub-some}
use Rattle.ug_groups.proofs.Queued.{apart-test, some-places}
use Rattle.ug_groups.proofs.QueuedMany.{gone-limit, gone-none, gone-others, gone-rest, seated-none, seated-here}
use Rattle.ug_groups.proofs.Keeping.{IsAlike}
use Rattle.ug_groups.proofs.RowTests.{any_some, standing-first, standing-behind, sub-eq, queued-is, front-length}

-- ---- collecting

pub none-collected : (q : Queued Packet) → AreCollected q 0 []
none-collected q = record { front = no_front q 0; whole = λ p less e. absurd (omega (arith, less)) }

below-next : (p up : ℕ) → p < up + 1 → (p ≡ up) ⊎ (p < up)
below-next p up less = elim (cases_eq p up) [ inl same ↦ inl same | inr apart ↦ inr (omega (arith, less, apart)) ]

pub other-collected : (q : Queued Packet) (up : ℕ) (ms : List ℕ) → is_first (place_of q up) ≡ false → AreCollected q up ms → AreCollected q (up + 1) ms
other-collected q up ms none so = record {
  front = still_front q up ms so.front;
  whole = λ p less e.
      elim (below-next p up less) [
        | inl same ↦ absurd (let no = sym none ∙ subst (λ (k : ℕ). is_first (place_of q k) ≡ true) same e in cc)
        | inr below ↦ so.whole p below e
      ];
}

first-place : (o : Option ℕ) → is_first o ≡ true → o ≡ Some 0
first-place None e = absurd cc
first-place (Some place) e = ap Some (eqb-true place 0 e)

has-end : (ms : List ℕ) (m p : ℕ) → has (ms ++ m ∷ []) p ≡ (has ms p || (m == p))
has-end [] m p = by (m == p)
  where
    by : (b : Bool) → (b || false) ≡ b
    by true = refl
    by false = refl
has-end (a ∷ ms) m p = ap (λ (b : Bool). (a == p) || b) (has-end ms m p) ∙ by (a == p)
  where
    by : (b : Bool) → (b || (has ms p || (m == p))) ≡ ((b || has ms p) || (m == p))
    by true = refl
    by false = refl

or-right : (a b : Bool) → b ≡ true → (a || b) ≡ true
or-right true b e = refl
or-right false b e = e

or-left : (a b : Bool) → a ≡ true → (a || b) ≡ true
or-left true b e = refl
or-left false b e = absurd cc

pub first-collected : (q : Queued Packet) (up : ℕ) (ms : List ℕ) → is_first (place_of q up) ≡ true → AreCollected q up ms → AreCollected q (up + 1) (ms ++ up ∷ [])
first-collected q up ms here so = record {
  front = more_front q up ms so.front (first-place (place_of q up) here);
  whole = λ p less e.
      has-end ms up p
      ∙ elim (below-next p up less) [
        | inl same ↦ or-right (has ms p) (up == p) (eq-eqb up p (sym same))
        | inr below ↦ or-left (has ms p) (up == p) (so.whole p below e)
      ];
}

-- ---- those listed

listed-place : (q : Queued Packet) (ms : List ℕ) (p : ℕ) → AllByRecursion (λ m. place_of q m ≡ Some 0) ms → has ms p ≡ true → place_of q p ≡ Some 0
listed-place q [] p all e = absurd cc
listed-place q (m ∷ ms) p all e =
    elim (cases_eq m p) [
      | inl same ↦ subst (λ (k : ℕ). place_of q k ≡ Some 0) same all.0
      | inr apart ↦ listed-place q ms p all.1 (sym (ap (λ (b : Bool). b || has ms p) (apart-test m p apart)) ∙ e)
    ]

some-listed : (ms : List ℕ) (p : ℕ) → has ms p ≡ true → 0 < length ms
some-listed [] p e = absurd cc
some-listed (m ∷ ms) p e = omega arith

abbrev listed : ℕ → List ℕ → ℕ → Member → Member
listed n ms p m = if has ms p then with_sub (Some n) m else m

pub listed-get : (n : ℕ) (ms : List ℕ) (members : List Member) (p : ℕ) → slice_get (seat_listed n ms members) p ≡ option_map (listed n ms p) (slice_get members p)
listed-get n [] members p = by (slice_get members p)
  where
    by : (o : Option Member) → o ≡ option_map (λ (m : Member). m) o
    by None = refl
    by (Some m) = refl
listed-get n (x ∷ ms) members p =
    elim (cases_eq p x) [
      | inl same ↦
          listed-get n ms (change_at (with_sub (Some n)) x members) p
          ∙ ap (option_map (listed n ms p)) (subst (λ (k : ℕ). slice_get (change_at (with_sub (Some n)) k members) p ≡ option_map (with_sub (Some n)) (slice_get members p)) same (changed-here (with_sub (Some n)) p members))
          ∙ twice (slice_get members p)
          ∙ sym (ap (λ (b : Bool). option_map (λ (m : Member). if b || has ms p then with_sub (Some n) m else m) (slice_get members p)) (eq-eqb x p (sym same)))
      | inr apart ↦
          listed-get n ms (change_at (with_sub (Some n)) x members) p
          ∙ ap (option_map (listed n ms p)) (changed-there (with_sub (Some n)) x p members apart)
          ∙ sym (ap (λ (b : Bool). option_map (λ (m : Member). if b || has ms p then with_sub (Some n) m else m) (slice_get members p)) (apart-test x p (λ e. apart (sym e))))
    ]
  where
    again : (b : Bool) (m : Member) → (if b then with_sub (Some n) (with_sub (Some n) m) else with_sub (Some n) m) ≡ with_sub (Some n) m
    again true m = refl
    again false m = refl

    twice : (o : Option Member) → option_map (listed n ms p) (option_map (with_sub (Some n)) o) ≡ option_map (with_sub (Some n)) o
    twice None = refl
    twice (Some m) = ap Some (again (has ms p) m)

pub listed-length : (n : ℕ) (ms : List ℕ) (members : List Member) → length (seat_listed n ms members) ≡ length members
listed-length n [] members = refl
listed-length n (x ∷ ms) members = listed-length n ms (change_at (with_sub (Some n)) x members) ∙ length-changed (with_sub (Some n)) x members

-- ---- that somebody stands at the front, and somebody behind it

pub record AreParting (after g : ℕ) (rows : Rows) : Type 0 where
  pub row : Row
  pub row_is : row_at g rows ≡ Some row
  pub first : ℕ × ℕ
  pub first_at : ℕ
  pub first_is : slice_get row.queue.places first_at ≡ Some first
  pub at_front : first.1 ≡ 0
  pub later : ℕ × ℕ
  pub later_at : ℕ
  pub later_is : slice_get row.queue.places later_at ≡ Some later
  pub behind : (later.1 == 0) ≡ false

not-true : (b : Bool) → not b ≡ true → b ≡ false
not-true true e = absurd cc
not-true false e = refl

pub parting : (after g : ℕ) (rows : Rows) → any_at (must_part_row after) (row_at g rows) ≡ true → AreParting after g rows
parting after g rows e =
    let row = any-some (must_part_row after) (row_at g rows) e in
    let r = row.0 in
    let es = r.queue.places in
    let both = second-of (is_full_row r) (is_parted_row r) (second-of (is_pending r.sub && nat_le after r.sub.stuck) (is_full_row r && is_parted_row r) row.2) in
    let one = any_some (λ (x : ℕ × ℕ). x.1 == 0) es (sym (standing-first es) ∙ first-of (nat_lt 0 (standing es 0)) (nat_lt (standing es 0) (length es)) both) in
    let two = any_some (λ (x : ℕ × ℕ). not (x.1 == 0)) es (sym (standing-behind es) ∙ second-of (nat_lt 0 (standing es 0)) (nat_lt (standing es 0) (length es)) both) in
    record {
      row = r;
      row_is = row.1;
      first = one.1;
      first_at = one.0;
      first_is = one.2;
      at_front = eqb-true one.1.1 0 one.3;
      later = two.1;
      later_at = two.0;
      later_is = two.2;
      behind = not-true (two.1.1 == 0) two.3;
    }

module _ (w : World) (made g : ℕ) (rows : Rows) (members : List Member) (kept : IsKept w false made rows members) (each : AreRows rows) (them : AreParting w.local.slow_after g rows) (ms : List ℕ) (collected : AreCollected them.row.queue (length w.peers) ms) where
  abbrev s : System
  s = system w false made rows members

  abbrev r : Row
  r = them.row

  abbrev n : ℕ
  n = length rows

  entry-place : (i : ℕ) (x : ℕ × ℕ) → slice_get r.queue.places i ≡ Some x → place_of r.queue x.0 ≡ Some x.1
  entry-place i x is = lookup_from_place (eq_by_cmp_equiv nat_cmp_total) r.queue.places i x.0 x.1 (IsDistinct-from_sorted nat_cmp (keys_of r.queue.places) (each g r them.row_is).sorted) is

  in_row : (p : ℕ) → is_queued p r ≡ is_sub g (sub_at p members)
  in_row p = sym (ap (any_at (is_queued p)) them.row_is) ∙ kept.seated p g

  member-of : (p : ℕ) → is_queued p r ≡ true → (m : Member) × (slice_get members p ≡ Some m) × (m.sub ≡ Some g)
  member-of p e = sub-some p g members (sub-eq g (sub_at p members) (sym (in_row p) ∙ e))

  inside : (p : ℕ) (m : Member) → slice_get members p ≡ Some m → p < length w.peers
  inside p m at = by (nat_lt p (length members)) refl
    where
      by : (b : Bool) → nat_lt p (length members) ≡ b → p < length w.peers
      by true e = let le = kept.within in less e le
        where
          less : nat_lt p (length members) ≡ true → length members ≤ length w.peers → p < length w.peers
          less e le = grind (arith, nat_tests)
      by false e = absurd (let none = get_none members p (past e) in cc)
        where
          past : nat_lt p (length members) ≡ false → length members ≤ p
          past e = grind (arith, nat_tests)

  -- who is listed stands at the front, and the other way round
  listed-first : (p : ℕ) → has ms p ≡ true → place_of r.queue p ≡ Some 0
  listed-first p e = listed-place r.queue ms p collected.front.front e

  first-listed : (p : ℕ) → place_of r.queue p ≡ Some 0 → has ms p ≡ true
  first-listed p e =
      let m = member-of p (ap is_some e) in collected.whole p (inside p m.0 m.1) (ap is_first e)

  one_listed : has ms them.first.0 ≡ true
  one_listed = first-listed them.first.0 (entry-place them.first_at them.first them.first_is ∙ ap (λ (k : ℕ). Some k) them.at_front)

  later_not : has ms them.later.0 ≡ false
  later_not = by (has ms them.later.0) refl
    where
      by : (b : Bool) → has ms them.later.0 ≡ b → b ≡ false
      by true e =
          let zero_place : them.later.1 ≡ 0 = some-same them.later.1 0 (sym (entry-place them.later_at them.later them.later_is) ∙ listed-first them.later.0 e) in
          absurd (let no = sym (eq-eqb them.later.1 0 zero_place) ∙ them.behind in cc)
      by false e = refl

  pub together : StandTogether r.queue ms
  together = front_together r.queue (length w.peers) ms collected.front (some-listed ms them.first.0 one_listed)

  -- ---- rows and members then

  abbrev calm : Rows
  calm = with_row g (with_subgroup_of unstuck) rows

  abbrev pub calm_row : Row
  calm_row = with_subgroup_of unstuck r

  abbrev left : Rows
  left = with_row g (rest_row ms) calm

  abbrev new : Rows
  new = with_next (part_row ms calm_row) left

  abbrev now : List Member
  now = seat_listed n ms members

  pub calm-is : row_at g calm ≡ Some calm_row
  calm-is = row-here g (with_subgroup_of unstuck) rows ∙ ap (option_map (with_subgroup_of unstuck)) them.row_is

  pub calm-length : length calm ≡ n
  calm-length = length-changed (option_map (with_subgroup_of unstuck)) g rows

  left-length : length left ≡ n
  left-length = length-changed (option_map (rest_row ms)) g calm ∙ calm-length

  not_n : g ≡ n → ⊥
  not_n e = absurd (let none = sym (subst (λ (k : ℕ). row_at k rows ≡ Some r) e them.row_is) ∙ none-past rows in cc)

  -- row n is the part, row g is what is left, and all others are as before
  part_is : row_at n new ≡ Some (part_row ms calm_row)
  part_is = subst (λ (k : ℕ). row_at k new ≡ Some (part_row ms calm_row)) left-length (next-here (part_row ms calm_row) left)

  rest_is : row_at g new ≡ Some (rest_row ms calm_row)
  rest_is =
      next-there (part_row ms calm_row) left g (λ e. not_n (e ∙ left-length))
      ∙ row-here g (rest_row ms) calm ∙ ap (option_map (rest_row ms)) calm-is

  others_are : (k : ℕ) → (k ≡ n → ⊥) → (k ≡ g → ⊥) → row_at k new ≡ row_at k rows
  others_are k apart other =
      next-there (part_row ms calm_row) left k (λ e. apart (e ∙ left-length))
      ∙ row-there g k (rest_row ms) calm other ∙ row-there g k (with_subgroup_of unstuck) rows other

  -- ---- who sits where

  now_sub : (p : ℕ) → sub_at p now ≡ sub_in (option_map (listed n ms p) (slice_get members p))
  now_sub p = ap sub_in (listed-get n ms members p)

  sub-listed : (p : ℕ) → has ms p ≡ true → sub_at p now ≡ Some n
  sub-listed p e =
      let m = member-of p (ap is_some (listed-first p e)) in
      now_sub p ∙ ap (λ (o : Option Member). sub_in (option_map (listed n ms p) o)) m.1 ∙ ap (λ (b : Bool). (if b then with_sub (Some n) m.0 else m.0).sub) e

  sub-unlisted : (p : ℕ) → has ms p ≡ false → sub_at p now ≡ sub_at p members
  sub-unlisted p e = now_sub p ∙ by (slice_get members p)
    where
      by : (o : Option Member) → sub_in (option_map (listed n ms p) o) ≡ sub_in o
      by None = refl
      by (Some m) = ap (λ (b : Bool). (if b then with_sub (Some n) m else m).sub) e

  sub-before : (p : ℕ) → has ms p ≡ true → sub_at p members ≡ Some g
  sub-before p e = let m = member-of p (ap is_some (listed-first p e)) in sub-is p members m.0 m.1 ∙ m.2

  none_at_n : (p : ℕ) → is_sub n (sub_at p members) ≡ false
  none_at_n p = sym (kept.seated p n) ∙ ap (any_at (is_queued p)) (none-past rows)

  seated-now : AreSeated new now
  seated-now p k =
      elim (cases_eq k n) [
        | inl is_n ↦
            subst (λ (j : ℕ). stands p j new ≡ is_sub j (sub_at p now)) (sym is_n) (ap (any_at (is_queued p)) part_is ∙ at_n (has ms p) refl)
        | inr not_at_n ↦
            elim (cases_eq k g) [
              | inl is_g ↦ subst (λ (j : ℕ). stands p j new ≡ is_sub j (sub_at p now)) (sym is_g) (ap (any_at (is_queued p)) rest_is ∙ at_g (has ms p) refl)
              | inr not_g ↦ ap (any_at (is_queued p)) (others_are k not_at_n not_g) ∙ kept.seated p k ∙ elsewhere k not_at_n not_g (has ms p) refl
            ]
      ]
    where
      at_n : (b : Bool) → has ms p ≡ b → is_some (lookup (is_member p) (seat_all [] ms)) ≡ is_sub n (sub_at p now)
      at_n true e = ap is_some (seated-here ms p e) ∙ sym (ap (is_sub n) (sub-listed p e) ∙ eq-eqb n n refl)
      at_n false e = ap is_some (seated-none ms p e) ∙ sym (ap (is_sub n) (sub-unlisted p e) ∙ none_at_n p)

      at_g : (b : Bool) → has ms p ≡ b → is_queued p (rest_row ms calm_row) ≡ is_sub g (sub_at p now)
      at_g true e = gone-none r.queue ms p (each g r them.row_is).sorted collected.front.once e ∙ sym (ap (is_sub g) (sub-listed p e) ∙ apart-test n g (λ x. not_n (sym x)))
      at_g false e = gone-others r.queue ms p e ∙ in_row p ∙ sym (ap (is_sub g) (sub-unlisted p e))

      elsewhere : (k : ℕ) → (k ≡ n → ⊥) → (k ≡ g → ⊥) → (b : Bool) → has ms p ≡ b → is_sub k (sub_at p members) ≡ is_sub k (sub_at p now)
      elsewhere k not_at_n not_g true e = ap (is_sub k) (sub-before p e) ∙ apart-test g k (λ x. not_g (sym x)) ∙ sym (ap (is_sub k) (sub-listed p e) ∙ apart-test n k (λ x. not_at_n (sym x)))
      elsewhere k not_at_n not_g false e = sym (ap (is_sub k) (sub-unlisted p e))

  -- ---- rests

  first-rest : (p : ℕ) → place_of r.queue p ≡ Some 0 → rest_of r.queue p ≡ r.queue.packets
  first-rest p e = ap (from_place r.queue.packets) e

  part-rest : (p : ℕ) → has ms p ≡ true → rest_in p (row_at n new) ≡ rest_of r.queue p
  part-rest p e =
      ap (rest_in p) part_is
      ∙ ap (λ (o : Option ℕ). from_place (rest_of r.queue (get_or ms 0 0)) o) (seated-here ms p e)
      ∙ first-rest (get_or ms 0 0) (front_first ms collected.front.front (some-listed ms p e))
      ∙ sym (first-rest p (listed-first p e))
    where
      front_first : (l : List ℕ) → AllByRecursion (λ m. place_of r.queue m ≡ Some 0) l → 0 < length l → place_of r.queue (get_or l 0 0) ≡ Some 0
      front_first [] all some = absurd (omega (arith, some))
      front_first (m ∷ l) all some = all.0

  left-rest : (p : ℕ) → has ms p ≡ false → rest_in p (row_at g new) ≡ rest_of r.queue p
  left-rest p e = ap (rest_in p) rest_is ∙ gone-rest r.queue ms p e

  abbrev front_count : ℕ
  front_count = queued g s.members

  count_is : front_count ≡ length r.queue.packets
  count_is = queued-is rows members kept.seated g r them.row_is (each g r them.row_is)

  -- how a seat is told from others
  is_part : (p j : ℕ) → stands_first g front_count (Some (seat_in rows p j)) ≡ ((j == g) && (length (rest_in p (row_at j rows)) == length r.queue.packets))
  is_part p j = ap (λ (k : ℕ). (j == g) && (length (rest_in p (row_at j rows)) == k)) count_is

  at-front : (p : ℕ) (place : ℕ) → place_of r.queue p ≡ Some place → (length (rest_of r.queue p) == length r.queue.packets) ≡ (place == 0)
  at-front p place e =
      ap (λ (o : Option ℕ). length (from_place r.queue.packets o) == length r.queue.packets) e
      ∙ front-length rows members kept.seated g r them.row_is (each g r them.row_is) place (subst (λ (o : Option ℕ). IfSome o (λ k. k ≤ length r.queue.packets)) e ((each g r them.row_is).inside p))

  place-some : (o : Option ℕ) → is_some o ≡ true → (place : ℕ) × (o ≡ Some place)
  place-some None e = absurd cc
  place-some (Some place) e = (place, refl)

  seat-parted : (p : ℕ) (m : Member) → slice_get members p ≡ Some m → (b : Bool) → has ms p ≡ b → (o : Option ℕ) → m.sub ≡ o
      → option_map (seat_in new p) (if b then Some n else o) ≡ option_map (parted g front_count n) (option_map (seat_in rows p) o)
  seat-parted p m at true e None sub =
      absurd (let no = sym (sub-before p e) ∙ sub-is p members m at ∙ sub in cc)
  seat-parted p m at true e (Some j) sub =
      let same : j ≡ g = some-same j g (sym (sub-is p members m at ∙ sub) ∙ sub-before p e) in
      let row = ap (λ (k : ℕ). row_at k rows) same ∙ them.row_is in
      let first : stands_first g front_count (Some (seat_in rows p j)) ≡ true =
      is_part p j ∙ ap (λ (b : Bool). b && (length (rest_in p (row_at j rows)) == length r.queue.packets)) (eq-eqb j g same)
      ∙ ap (λ (o : Option Row). length (rest_in p o) == length r.queue.packets) row ∙ at-front p 0 (listed-first p e) in
      ap (λ l. Some (record { sub = n; rest = l })) (part-rest p e ∙ sym (ap (rest_in p) row))
      ∙ sym (ap (λ (b : Bool). Some (if b then record (seat_in rows p j) { sub = n } else seat_in rows p j)) first)
  seat-parted p m at false e None sub = refl
  seat-parted p m at false e (Some j) sub =
      elim (cases_eq j g) [
        | inl same ↦
            let row = ap (λ (k : ℕ). row_at k rows) same ∙ them.row_is in
            let place = place-some (place_of r.queue p) (in_row p ∙ ap (is_sub g) (sub-is p members m at ∙ sub) ∙ eq-eqb j g same) in
            let not_first : stands_first g front_count (Some (seat_in rows p j)) ≡ false =
            is_part p j ∙ ap (λ (b : Bool). b && (length (rest_in p (row_at j rows)) == length r.queue.packets)) (eq-eqb j g same)
            ∙ ap (λ (o : Option Row). length (rest_in p o) == length r.queue.packets) row ∙ at-front p place.0 place.1
            ∙ apart-test place.0 0 (λ z. absurd (let some = first-listed p (place.1 ∙ ap (λ (k : ℕ). Some k) z) in let no = sym e ∙ some in cc)) in
            ap (λ l. Some (record { sub = j; rest = l })) (ap (λ (k : ℕ). rest_in p (row_at k new)) same ∙ left-rest p e ∙ sym (ap (rest_in p) row))
            ∙ sym (ap (λ (b : Bool). Some (if b then record (seat_in rows p j) { sub = n } else seat_in rows p j)) not_first)
        | inr apart ↦
            let not_first : stands_first g front_count (Some (seat_in rows p j)) ≡ false =
            is_part p j ∙ ap (λ (b : Bool). b && (length (rest_in p (row_at j rows)) == length r.queue.packets)) (apart-test j g apart) in
            let not_at_n : (j ≡ n → ⊥) = λ x. absurd (let no = sym (none_at_n p) ∙ ap (is_sub n) (sub-is p members m at ∙ sub) ∙ eq-eqb j n x in cc) in
            ap (λ l. Some (record { sub = j; rest = l })) (ap (rest_in p) (others_are j not_at_n apart))
            ∙ sym (ap (λ (b : Bool). Some (if b then record (seat_in rows p j) { sub = n } else seat_in rows p j)) not_first)
      ]

  member-parted : (p : ℕ) (m : Member) → slice_get members p ≡ Some m → member_of new p (listed n ms p m) ≡ reseated (parted g front_count n) (member_of rows p m)
  member-parted p m at =
      parts (has ms p) ∙ ap (λ (o : Option Seat). record { begun = m.begun; unlost = m.unlost.items; handed = m.handed; seat = o }) (seat-parted p m at (has ms p) refl m.sub refl)
    where
      parts : (b : Bool) → member_of new p (if b then with_sub (Some n) m else m) ≡ record { begun = m.begun; unlost = m.unlost.items; handed = m.handed; seat = option_map (seat_in new p) (if b then Some n else m.sub) }
      parts true = refl
      parts false = refl

  slowed-view : system w false made new now ≡ slow_of g (subgroup_at g s) s
  slowed-view =
      ap (λ (l : List (Option Subgroup)). record { world = w; closed = false; made = made; subgroups = l; members = members_from new 0 now })
      (subs-next (part_row ms calm_row) left ∙ ap (λ (l : List (Option Subgroup)). l ++ Some (unstuck r.sub) ∷ []) (subs-same g (rest_row ms) calm (λ x. refl) ∙ subs-changed g (with_subgroup_of unstuck) unstuck rows (λ x. refl)))
      ∙ ap (λ (l : List machine.Member). record { world = w; closed = false; made = made; subgroups = change_at (option_map unstuck) g (subs_of rows) ++ Some (unstuck r.sub) ∷ []; members = l })
      (each-changed (reseated (parted g front_count n)) rows new (listed n ms) members now (listed-get n ms members) member-parted)
      ∙ ap (λ (k : ℕ). with_new (Some (unstuck r.sub)) (with_subgroup g unstuck (with_seats (parted g front_count k) s))) (sym (subs-length rows))
      ∙ sym (ap (λ (o : Option Subgroup). slow_of g o s) (sub-at g rows ∙ ap (option_map (λ (x : Row). x.sub)) them.row_is))

  -- ---- what is kept

  row-alike : (k : ℕ) (x : Row) → row_at k new ≡ Some x → (k ≡ n) ⊎ ((k ≡ n → ⊥) × (old : Row) × (row_at k rows ≡ Some old) × IsAlike old x)
  row-alike k x is =
      elim (cases_eq k n) [
        | inl at_n ↦ inl at_n
        | inr not_at_n ↦
            elim (cases_eq k g) [
              | inl same ↦
                  let what : x ≡ rest_row ms calm_row = some-same x (rest_row ms calm_row) (sym (subst (λ (j : ℕ). row_at j new ≡ Some x) same is) ∙ rest_is) in
                  inr (not_at_n, r, ap (λ (j : ℕ). row_at j rows) same ∙ them.row_is, subst (IsAlike r) (sym what) (record { key = refl; desired = refl; limit = gone-limit r.queue ms }))
              | inr other ↦ inr (not_at_n, x, sym (others_are k not_at_n other) ∙ is, record { key = refl; desired = refl; limit = refl })
            ]
      ]

  part-alike : IsAlike r (part_row ms calm_row)
  part-alike = record { key = refl; desired = refl; limit = refl }

  part-only : (x : Row) → row_at n new ≡ Some x → x ≡ part_row ms calm_row
  part-only x is = some-same x (part_row ms calm_row) (sym is ∙ part_is)

  inhabited-now : (k : ℕ) (x : Row) → row_at k new ≡ Some x → 0 < length x.queue.places
  inhabited-now k x is =
      elim (cases_eq k n) [
        | inl at_n ↦
            let what = part-only x (subst (λ (j : ℕ). row_at j new ≡ Some x) at_n is) in
            subst (λ (y : Row). 0 < length y.queue.places) (sym what) (some-places them.first.0 (seat_all [] ms) (ap is_some (seated-here ms them.first.0 one_listed)))
        | inr not_at_n ↦
            elim (cases_eq k g) [
              | inl same ↦
                  let what : x ≡ rest_row ms calm_row = some-same x (rest_row ms calm_row) (sym (subst (λ (j : ℕ). row_at j new ≡ Some x) same is) ∙ rest_is) in
                  subst (λ (y : Row). 0 < length y.queue.places) (sym what)
                  (some-places them.later.0 (rest_row ms calm_row).queue.places (gone-others r.queue ms them.later.0 later_not ∙ ap is_some (entry-place them.later_at them.later them.later_is)))
              | inr other ↦ kept.inhabited k x (sym (others_are k not_at_n other) ∙ is)
            ]
      ]

  tabled-by : (old x : Row) → IsAlike old x → IsTabled w old → IsTabled w x
  tabled-by old x alike was = record { desires = alike.desired ∙ was.desires ∙ ap (λ k. wanted_rows k w) (sym alike.key); limit = alike.limit ∙ was.limit }

  tabled-now : (k : ℕ) (x : Row) → row_at k new ≡ Some x → IsTabled w x
  tabled-now k x is =
      elim (row-alike k x is) [
        | inl at_n ↦ subst (IsTabled w) (sym (part-only x (subst (λ (j : ℕ). row_at j new ≡ Some x) at_n is))) (tabled-by r (part_row ms calm_row) part-alike (kept.tabled g r them.row_is))
        | inr it ↦ tabled-by it.1 x it.3 (kept.tabled k it.1 it.2)
      ]

  own-now : (p k : ℕ) (peer : PeerState) (x : Row) → slice_get w.peers p ≡ Some peer → sub_at p now ≡ Some k → row_at k new ≡ Some x → IsOwn w peer x
  own-now p k peer x at sits is = by (has ms p) refl
    where
      by : (b : Bool) → has ms p ≡ b → IsOwn w peer x
      by true e =
          let at_n : k ≡ n = some-same k n (sym sits ∙ sub-listed p e) in
          let what = part-only x (subst (λ (j : ℕ). row_at j new ≡ Some x) at_n is) in
          let was = kept.own p g peer r at (sub-before p e) them.row_is in
          record { up = was.up; key = ap (λ (y : Row). y.sub.key) what ∙ was.key }
      by false e =
          let before = sym (sub-unlisted p e) ∙ sits in
          elim (row-alike k x is) [
            | inl at_n ↦ absurd (let no = sym (none_at_n p) ∙ ap (is_sub n) before ∙ eq-eqb k n at_n in cc)
            | inr it ↦ let was = kept.own p k peer it.1 at before it.2 in record { up = was.up; key = it.3.key ∙ was.key }
          ]

  member-was : (p : ℕ) (x : Member) → slice_get now p ≡ Some x → (m : Member) × (slice_get members p ≡ Some m) × (x ≡ listed n ms p m)
  member-was p x at = by (slice_get members p) refl (sym (listed-get n ms members p) ∙ at)
    where
      by : (o : Option Member) → slice_get members p ≡ o → option_map (listed n ms p) o ≡ Some x → (m : Member) × (slice_get members p ≡ Some m) × (x ≡ listed n ms p m)
      by None is e = absurd cc
      by (Some m) is e = (m, is, sym (some-same (listed n ms p m) x e))

  slowed-kept : IsKept w false made new now
  slowed-kept = record {
    good = kept.good;
    peers = kept.peers;
    all = λ open_. listed-length n ms members ∙ kept.all open_;
    within = let same = listed-length n ms members in let le = kept.within in omega arith;
    seated = seated-now;
    inhabited = inhabited-now;
    tabled = tabled-now;
    own = own-now;
    room = λ p x at. let was = member-was p x at in subst (λ (y : Member). HasRoom (sessions_at p w) y) (sym was.2) (room p was.0 (has ms p) (kept.room p was.0 was.1));
    counted = λ p x at.
        let was = member-was p x at in
        let most = kept.counted p was.0 was.1 in
        let same = ap (λ (y : machine.Member). rest_due y.seat) (member-parted p was.0 was.1) ∙ same-rest (member_of rows p was.0).seat in
        let handed = same-handed p was.0 (has ms p) in
        subst (λ (y : Member). y.handed + rest_due (member_of new p y).seat ≤ made) (sym was.2) (omega (arith, most, same, handed));
  }
    where
      room : (p : ℕ) (m : Member) (b : Bool) → HasRoom (sessions_at p w) m → HasRoom (sessions_at p w) (if b then with_sub (Some n) m else m)
      room p m true was = record { spare = was.spare; few = was.few }
      room p m false was = was

      same-handed : (p : ℕ) (m : Member) (b : Bool) → (if b then with_sub (Some n) m else m).handed ≡ m.handed
      same-handed p m true = refl
      same-handed p m false = refl

      same-rest : (o : Option Seat) → rest_due (option_map (parted g front_count n) o) ≡ rest_due o
      same-rest None = refl
      same-rest (Some t) = one (stands_first g front_count (Some t))
        where
          one : (b : Bool) → length (if b then record t { sub = n } else t).rest ≡ length t.rest
          one true = refl
          one false = refl

  pub slowed-done : IsAt (slow_of g (subgroup_at g s) s) w false made new now
  slowed-done = record { state = slowed-view; kept = slowed-kept }

  -- of what the calls made
  pub slowed-number : (then_rows : Rows) (number : ℕ) → then_rows ≡ calm → number ≡ length then_rows → number ≡ n
  slowed-number then_rows number same is = is ∙ ap (λ (l : Rows). length l) same ∙ calm-length

  pub slowed-by : (then_rows last : Rows) (number : ℕ) (then_members : List Member) (l : List ℕ) → then_rows ≡ calm → last ≡ with_next (part_row ms calm_row) (with_row g (rest_row ms) then_rows) → number ≡ length then_rows
      → l ≡ ms → then_members ≡ seat_listed number l members → IsAt (slow_of g (subgroup_at g s) s) w false made last then_members
  slowed-by then_rows last number then_members l same rows_are is listed_is members_are =
      let rows_now : last ≡ new = rows_are ∙ ap (λ (c : Rows). with_next (part_row ms calm_row) (with_row g (rest_row ms) c)) same in
      let members_now : then_members ≡ now = members_are ∙ ap (λ (k : ℕ). seat_listed k l members) (slowed-number then_rows number same is) ∙ ap (λ (x : List ℕ). seat_listed n x members) listed_is in
      subst (λ (x : Rows). IsAt (slow_of g (subgroup_at g s) s) w false made x then_members) (sym rows_now)
      (subst (λ (x : List Member). IsAt (slow_of g (subgroup_at g s) s) w false made new x) (sym members_now) slowed-done)

-- ---- one peer of them

no-place : (o : Option ℕ) → is_some o ≡ false → false ≡ is_first o
no-place None e = refl
no-place (Some place) e = absurd cc

-- who sits elsewhere is not there
pub not-first : (rows : Rows) (members : List Member) (p g : ℕ) (r : Row) → AreSeated rows members → row_at g rows ≡ Some r → is_sub g (sub_at p members) ≡ false → false ≡ is_first (place_of r.queue p)
not-first rows members p g r seats row none = no-place (place_of r.queue p) (sym (ap (any_at (is_queued p)) row) ∙ seats p g ∙ none)
