-- Two subgroups merge: what is asked, the view, and what is kept.
use Rattle.std.proofs.Common.{◌≡◌, ℕ, zero, suc, ◌+◌, ◌≤◌, inl, inr, Bool, true, false, List, [], ◌∷◌, length, map, slice_get, Option, Some, None, is_some, refl, sym, ap, subst, ◌∙◌, arith}
use Rattle.std.specs.Prelude.{◌==◌, ◌&&◌, if◌then◌else◌}
use Rattle.std.specs.Map.{keys_of}
use Rattle.std.specs.Option.{option_map}
use Rattle.std.proofs.lemmas.Bool.{cases_eq, eq-eqb, eqb-true}
use Rattle.std.proofs.lemmas.Option.{slice_get-map}
use Rattle.ug_world.specs.declared.peer_state.PeerState.{PeerState}
use Rattle.ug_world.specs.World.{World}
use Rattle.ug_speaker.specs.Places.{change_at}
use Rattle.ug_speaker.specs.Counts.{sessions_at}
use Rattle.ug_queue.specs.Queues.{place_of, from_place, rest_of, IsMember}
use Rattle.ug_group_rules.specs.Packets.{Packet, same_group}
use Rattle.ug_group_rules.specs.Machine as machine
use Rattle.ug_group_rules.specs.Machine.{System, Subgroup, Seat, is_level, moved, reseated, without_subgroup, merge}
use Rattle.ug_group_rules.specs.Rules.{rest_due}
use Rattle.ug_group_rules.proofs.Groups.{group-same}
use Rattle.ug_groups.specs.Rows.{Row, Rows, row_at, any_at, with_row, without_row, absorbing_row, may_merge_rows}
use Rattle.ug_groups.specs.declared.member.Member.{Member}
use Rattle.ug_groups.specs.Members.{rest_in, seat_in, member_of, members_from, system, sub_in, sub_at, is_sub, is_queued, stands}
use Rattle.ug_groups.specs.Kept.{AreSeated, IsOwn, HasRoom, IsKept, AreRows}
use Rattle.ug_groups.specs.Changes.{moved_sub, moved_member}
use Rattle.ug_groups.specs.Done.{IsAt}
use Rattle.ug_groups.proofs.ListFacts.{some-same, length-mapped}
use Rattle.ug_groups.proofs.RowsAt.{row-here, row-there, gone-here, gone-there, gone-cases, changed-cases, any-some, subs-same, subs-gone}
use Rattle.ug_groups.proofs.MemberViews.{each-changed, sub-is}
use Rattle.ug_groups.proofs.Queued.{apart-test}
use Rattle.ug_groups.proofs.QueuedMany.{come-limit, come-others, come-here, come-rest, come-rest-others, come-places}
use Rattle.ug_groups.proofs.Keeping.{IsAlike, inhabited-with, tabled-with}
use Rattle.ug_groups.proofs.RowTests.{sub-eq}

-- ---- which rows they are

pub record AreMerging (g h : ℕ) (rows : Rows) : Type 0 where
  pub one : Row
  pub one_is : row_at g rows ≡ Some one
  pub other : Row
  pub other_is : row_at h rows ≡ Some other
  pub may : may_merge_rows one other ≡ true

pub merging : (g h : ℕ) (rows : Rows) → any_at (λ (r : Row). any_at (λ (x : Row). may_merge_rows r x) (row_at h rows)) (row_at g rows) ≡ true → AreMerging g h rows
merging g h rows e =
    let one = any-some (λ (r : Row). any_at (λ (x : Row). may_merge_rows r x) (row_at h rows)) (row_at g rows) e in
    let two = any-some (λ (x : Row). may_merge_rows one.0 x) (row_at h rows) one.2 in
    record { one = one.0; one_is = one.1; other = two.0; other_is = two.1; may = two.2 }

split_may : (a b c d : Bool) → (a && (b && c) && d) ≡ true → (c ≡ true) × (d ≡ true)
split_may true true true d e = (refl, e)
split_may true true false d e = absurd cc
split_may true false c d e = absurd cc
split_may false b c d e = absurd cc

none-left : {T : Type 0} (xs : List T) → (length xs == 0) ≡ true → xs ≡ []
none-left [] e = refl
none-left (x ∷ xs) e = absurd (let z = eqb-true (length (x ∷ xs)) 0 e in omega (arith, z))

module _ (w : World) (made g h : ℕ) (rows : Rows) (members : List Member) (kept : IsKept w false made rows members) (each : AreRows rows) (apart : (g == h) ≡ false) (them : AreMerging g h rows) where
  abbrev s : System
  s = system w false made rows members

  abbrev other : Row
  other = them.other

  abbrev one : Row
  one = them.one

  abbrev grown : Rows
  grown = with_row g (absorbing_row other) rows

  abbrev new : Rows
  new = without_row h grown

  abbrev now : List Member
  now = map (moved_member h g) members

  differ : g ≡ h → ⊥
  differ e = absurd (let so = sym apart ∙ eq-eqb g h e in cc)

  same_key : one.sub.key ≡ other.sub.key
  same_key = group-same one.sub.key other.sub.key (split_may (is_level one.sub) (is_level other.sub) (same_group one.sub.key other.sub.key) (length other.queue.packets == 0) them.may).0

  no_packets : other.queue.packets ≡ []
  no_packets = none-left other.queue.packets (split_may (is_level one.sub) (is_level other.sub) (same_group one.sub.key other.sub.key) (length other.queue.packets == 0) them.may).1

  in_one : (p : ℕ) → is_queued p one ≡ is_sub g (sub_at p members)
  in_one p = sym (ap (any_at (is_queued p)) them.one_is) ∙ kept.seated p g

  in_other : (p : ℕ) → is_queued p other ≡ is_sub h (sub_at p members)
  in_other p = sym (ap (any_at (is_queued p)) them.other_is) ∙ kept.seated p h

  -- nobody sits in both
  pub apart_members : (p : ℕ) → IsMember other.queue p → (r : Row) → row_at g rows ≡ Some r → place_of r.queue p ≡ None
  apart_members p member r is =
      let same : r ≡ one = some-same r one (sym is ∙ them.one_is) in
      let sits = sub-eq h (sub_at p members) (sym (in_other p) ∙ member) in
      let none : is_queued p one ≡ false = in_one p ∙ ap (is_sub g) sits ∙ apart-test h g (λ e. differ (sym e)) in
      not_some (place_of r.queue p) (ap (is_queued p) same ∙ none)
    where
      not_some : (o : Option ℕ) → is_some o ≡ false → o ≡ None
      not_some None e = refl
      not_some (Some x) e = absurd cc

  one_now : row_at g new ≡ Some (absorbing_row other one)
  one_now = gone-there h g grown differ ∙ row-here g (absorbing_row other) rows ∙ ap (option_map (absorbing_row other)) them.one_is

  -- ---- who sits where

  now_sub : (p : ℕ) → sub_at p now ≡ option_map (moved_sub h g) (sub_at p members)
  now_sub p = ap sub_in (slice_get-map (moved_member h g) members p) ∙ by (slice_get members p)
    where
      by : (o : Option Member) → sub_in (option_map (moved_member h g) o) ≡ option_map (moved_sub h g) (sub_in o)
      by None = refl
      by (Some m) = refl

  moved-here : moved_sub h g h ≡ g
  moved-here = ap (λ (b : Bool). if b then g else h) (eq-eqb h h refl)

  moved-there : (k : ℕ) → (k ≡ h → ⊥) → moved_sub h g k ≡ k
  moved-there k away = ap (λ (b : Bool). if b then g else k) (apart-test k h away)

  queued-now : (p : ℕ) → is_queued p (absorbing_row other one) ≡ is_sub g (sub_at p now)
  queued-now p = by (is_queued p other) refl
    where
      by : (b : Bool) → is_queued p other ≡ b → is_queued p (absorbing_row other one) ≡ is_sub g (sub_at p now)
      by true e =
          let sits = sub-eq h (sub_at p members) (sym (in_other p) ∙ e) in
          ap is_some (come-here one.queue other.queue.places p e)
          ∙ sym (ap (is_sub g) (now_sub p ∙ ap (option_map (moved_sub h g)) sits ∙ ap (λ (k : ℕ). Some k) moved-here) ∙ eq-eqb g g refl)
      by false e =
          ap is_some (come-others one.queue other.queue.places p e) ∙ in_one p
          ∙ sym (ap (is_sub g) (now_sub p) ∙ last (sub_at p members) (sym (in_other p) ∙ e))
        where
          last : (o : Option ℕ) → is_sub h o ≡ false → is_sub g (option_map (moved_sub h g) o) ≡ is_sub g o
          last None e = refl
          last (Some k) e = ap (λ (b : Bool). (if b then g else k) == g) e

  not-moved : (o : Option ℕ) → is_sub h (option_map (moved_sub h g) o) ≡ false
  not-moved None = refl
  not-moved (Some k) =
      elim (cases_eq k h) [
        | inl e ↦ ap (λ (n : ℕ). n == h) (ap (moved_sub h g) e ∙ moved-here) ∙ apart
        | inr away ↦ ap (λ (n : ℕ). n == h) (moved-there k away) ∙ apart-test k h away
      ]

  moved-other : (k : ℕ) → (k ≡ g → ⊥) → (k ≡ h → ⊥) → (o : Option ℕ) → is_sub k (option_map (moved_sub h g) o) ≡ is_sub k o
  moved-other k not_g not_h None = refl
  moved-other k not_g not_h (Some j) =
      elim (cases_eq j h) [
        | inl e ↦ ap (λ (n : ℕ). n == k) (ap (moved_sub h g) e ∙ moved-here) ∙ apart-test g k (λ x. not_g (sym x)) ∙ sym (ap (λ (n : ℕ). n == k) e ∙ apart-test h k (λ x. not_h (sym x)))
        | inr away ↦ ap (λ (n : ℕ). n == k) (moved-there j away)
      ]

  seated-now : AreSeated new now
  seated-now p k =
      elim (cases_eq k h) [
        | inl is_h ↦
            subst (λ (n : ℕ). stands p n new ≡ is_sub n (sub_at p now)) (sym is_h)
            (ap (any_at (is_queued p)) (gone-here h grown) ∙ sym (ap (is_sub h) (now_sub p) ∙ not-moved (sub_at p members)))
        | inr not_h ↦
            elim (cases_eq k g) [
              | inl is_g ↦ subst (λ (n : ℕ). stands p n new ≡ is_sub n (sub_at p now)) (sym is_g) (ap (any_at (is_queued p)) one_now ∙ queued-now p)
              | inr not_g ↦
                  ap (any_at (is_queued p)) (gone-there h k grown not_h ∙ row-there g k (absorbing_row other) rows not_g)
                  ∙ kept.seated p k ∙ sym (ap (is_sub k) (now_sub p) ∙ moved-other k not_g not_h (sub_at p members))
            ]
      ]

  -- ---- rests

  rest-moved : (p : ℕ) → is_queued p other ≡ true → rest_in p (row_at g new) ≡ rest_in p (row_at h rows)
  rest-moved p e =
      ap (rest_in p) one_now ∙ come-rest one.queue other.queue.places p e
      ∙ sym (ap (rest_in p) them.other_is ∙ ap (λ (l : List Packet). rest_of (record other.queue { packets = l }) p) no_packets ∙ nothing (place_of other.queue p))
    where
      nothing : (o : Option ℕ) → from_place {P = Packet} [] o ≡ []
      nothing None = refl
      nothing (Some zero) = refl
      nothing (Some (suc n)) = refl

  rest-stays : (p : ℕ) → is_queued p other ≡ false → rest_in p (row_at g new) ≡ rest_in p (row_at g rows)
  rest-stays p e = ap (rest_in p) one_now ∙ come-rest-others one.queue other.queue.places p e ∙ sym (ap (rest_in p) them.one_is)

  seat-moved : (p : ℕ) (m : Member) → slice_get members p ≡ Some m → (o : Option ℕ) → m.sub ≡ o → option_map (seat_in new p) (option_map (moved_sub h g) o) ≡ option_map (moved h g) (option_map (seat_in rows p) o)
  seat-moved p m at None sub = refl
  seat-moved p m at (Some k) sub =
      elim (cases_eq k h) [
        | inl e ↦
            let here : is_queued p other ≡ true = in_other p ∙ ap (is_sub h) (sub-is p members m at ∙ sub) ∙ eq-eqb k h e in
            ap (λ (n : ℕ). Some (seat_in new p n)) (ap (moved_sub h g) e ∙ moved-here)
            ∙ ap (λ l. Some (record { sub = g; rest = l })) (rest-moved p here ∙ ap (λ (n : ℕ). rest_in p (row_at n rows)) (sym e))
            ∙ sym (ap (λ (b : Bool). Some (if b then record (seat_in rows p k) { sub = g } else seat_in rows p k)) (eq-eqb k h e))
        | inr away ↦
            ap (λ (n : ℕ). Some (seat_in new p n)) (moved-there k away)
            ∙ ap (λ l. Some (record { sub = k; rest = l })) (rest-other k away (ap (is_sub h) (sub-is p members m at ∙ sub) ∙ apart-test k h away))
            ∙ sym (ap (λ (b : Bool). Some (if b then record (seat_in rows p k) { sub = g } else seat_in rows p k)) (apart-test k h away))
      ]
    where
      rest-other : (k : ℕ) → (k ≡ h → ⊥) → is_sub h (sub_at p members) ≡ false → rest_in p (row_at k new) ≡ rest_in p (row_at k rows)
      rest-other k away not_there =
          elim (cases_eq k g) [
            | inl e ↦ subst (λ (n : ℕ). rest_in p (row_at n new) ≡ rest_in p (row_at n rows)) (sym e) (rest-stays p (in_other p ∙ not_there))
            | inr not_g ↦ ap (rest_in p) (gone-there h k grown away ∙ row-there g k (absorbing_row other) rows not_g)
          ]

  member-moved : (p : ℕ) (m : Member) → slice_get members p ≡ Some m → member_of new p (moved_member h g m) ≡ reseated (moved h g) (member_of rows p m)
  member-moved p m at = ap (λ (o : Option Seat). record { begun = m.begun; unlost = m.unlost.items; handed = m.handed; seat = o }) (seat-moved p m at m.sub refl)

  merged-view : system w false made new now ≡ merge g h s
  merged-view =
      ap (λ (l : List (Option Subgroup)). record { world = w; closed = false; made = made; subgroups = l; members = members_from new 0 now })
      (subs-gone h grown ∙ ap (λ (l : List (Option Subgroup)). change_at (λ (x : Option Subgroup). None) h l) (subs-same g (absorbing_row other) rows (λ x. refl)))
      ∙ ap (λ (l : List machine.Member). record (without_subgroup h s) { members = l })
      (each-changed (reseated (moved h g)) rows new (λ p m. moved_member h g m) members now (λ p. slice_get-map (moved_member h g) members p) member-moved)

  -- ---- what is kept

  grown-alike : (r : Row) → IsAlike r (absorbing_row other r)
  grown-alike r = record { key = refl; desired = refl; limit = come-limit r.queue (keys_of other.queue.places) }

  member-was : (p : ℕ) (n : Member) → slice_get now p ≡ Some n → (m : Member) × (slice_get members p ≡ Some m) × (n ≡ moved_member h g m)
  member-was p n at = by (slice_get members p) refl (sym (slice_get-map (moved_member h g) members p) ∙ at)
    where
      by : (o : Option Member) → slice_get members p ≡ o → option_map (moved_member h g) o ≡ Some n → (m : Member) × (slice_get members p ≡ Some m) × (n ≡ moved_member h g m)
      by None is e = absurd cc
      by (Some m) is e = (m, is, sym (some-same (moved_member h g m) n e))

  own-now : (p k : ℕ) (peer : PeerState) (r : Row) → slice_get w.peers p ≡ Some peer → sub_at p now ≡ Some k → row_at k new ≡ Some r → IsOwn w peer r
  own-now p k peer r at sits is = by (sub_at p members) refl
    where
      by : (o : Option ℕ) → sub_at p members ≡ o → IsOwn w peer r
      by None e = absurd (let none = sym sits ∙ now_sub p ∙ ap (option_map (moved_sub h g)) e in cc)
      by (Some j) e =
          elim (cases_eq j h) [
            | inl same ↦
                let was = kept.own p h peer other at (e ∙ ap (λ (n : ℕ). Some n) same) them.other_is in
                let there_g : k ≡ g = sym (some-same g k (sym (now_sub p ∙ ap (option_map (moved_sub h g)) e ∙ ap (λ (n : ℕ). Some n) (ap (moved_sub h g) same ∙ moved-here)) ∙ sits)) in
                let row : r ≡ absorbing_row other one = some-same r (absorbing_row other one) (sym (subst (λ (n : ℕ). row_at n new ≡ Some r) there_g is) ∙ one_now) in
                record { up = was.up; key = ap (λ (x : Row). x.sub.key) row ∙ same_key ∙ was.key }
            | inr away ↦
                let there_k : k ≡ j = sym (some-same j k (sym (now_sub p ∙ ap (option_map (moved_sub h g)) e ∙ ap (λ (n : ℕ). Some n) (moved-there j away)) ∙ sits)) in
                let it = gone-cases h k grown r is in
                elim (changed-cases g k (absorbing_row other) rows r it.there_is) [
                  | inl x ↦
                      let was = kept.own p g peer x.old at (e ∙ ap (λ (n : ℕ). Some n) (sym there_k ∙ x.number)) x.there_is in
                      record { up = was.up; key = ap (λ (y : Row). y.sub.key) x.changed ∙ was.key }
                  | inr x ↦ kept.own p k peer r at (e ∙ ap (λ (n : ℕ). Some n) (sym there_k)) x.there_is
                ]
          ]

  merged-kept : IsKept w false made new now
  merged-kept = record {
    good = kept.good;
    peers = kept.peers;
    all = λ open_. length-mapped (moved_member h g) members ∙ kept.all open_;
    within = let same = length-mapped (moved_member h g) members in let le = kept.within in omega arith;
    seated = seated-now;
    inhabited = λ k r is. inhabited-with g (absorbing_row other) rows (λ r is. come-places r.queue other.queue.places (kept.inhabited g r is)) kept.inhabited k r (gone-cases h k grown r is).there_is;
    tabled = λ k r is. tabled-with g (absorbing_row other) rows w (λ r is. grown-alike r) kept.tabled k r (gone-cases h k grown r is).there_is;
    own = own-now;
    room = λ p n at. let was = member-was p n at in let room = kept.room p was.0 was.1 in subst (λ (x : Member). HasRoom (sessions_at p w) x) (sym was.2) (record { spare = room.spare; few = room.few });
    counted = λ p n at.
        let was = member-was p n at in
        let most = kept.counted p was.0 was.1 in
        let same : rest_due (member_of new p (moved_member h g was.0)).seat ≡ rest_due (member_of rows p was.0).seat = ap (λ (x : machine.Member). rest_due x.seat) (member-moved p was.0 was.1) ∙ same-rest (member_of rows p was.0).seat in
        subst (λ (x : Member). x.handed + rest_due (member_of new p x).seat ≤ made) (sym was.2) (omega (arith, most, same));
  }
    where
      same-rest : (o : Option Seat) → rest_due (option_map (moved h g) o) ≡ rest_due o
      same-rest None = refl
      same-rest (Some t) = one (t.sub == h)
        where
          one : (b : Bool) → length (if b then record t { sub = g } else t).rest ≡ length t.rest
          one true = refl
          one false = refl

  pub merged-done : IsAt (merge g h s) w false made new now
  merged-done = record { state = merged-view; kept = merged-kept }
