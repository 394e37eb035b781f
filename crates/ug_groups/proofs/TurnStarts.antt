-- A session starts: the peer joins a subgroup, and what is kept.
use Rattle.std.proofs.Common.{◌≡◌, ℕ, zero, suc, ◌<◌, ◌≤◌, inl, inr, Bool, true, false, List, [], ◌∷◌, ◌++◌, length, slice_get, Option, Some, None, is_some, refl, sym, ap, subst, ◌∙◌, arith}
use Rattle.std.specs.Prelude.{if◌then◌else◌}
use Rattle.std.specs.Option.{option_map}
use Rattle.std.proofs.lemmas.Bool.{cases_eq, eq-eqb}
use Rattle.ug_outbound.specs.declared.key.GroupKey.{GroupKey}
use Rattle.ug_world.specs.declared.peer_state.PeerState.{PeerState}
use Rattle.ug_world.specs.World.{World}
use Rattle.ug_speaker.specs.Places.{change_at}
use Rattle.ug_queue.specs.Queues.{place_of}
use Rattle.ug_group_rules.specs.Machine as machine
use Rattle.ug_group_rules.specs.Machine.{Seat, Starts, join, first_joinable, at_end, fresh_subgroup, seat_at, seat_of, seated, with_seat, there}
use Rattle.ug_group_rules.specs.Rules.{rest_due}
use Rattle.ug_group_rules.specs.Evaluations.{has_key, all_heeded}
use Rattle.ug_group_rules.proofs.Keys.{live-met}
use Rattle.ug_groups.specs.Rows.{Row, Rows, row_at, any_at, HasRow, subs_of, sub_of, keys_in, with_row, with_next, joined_row}
use Rattle.ug_groups.specs.Entered.{asking, fresh_row}
use Rattle.ug_groups.specs.declared.member.Member.{Member}
use Rattle.ug_groups.specs.Members.{rest_in, seat_in, member_of, members_from, system, sub_at, is_sub, is_queued, stands}
use Rattle.ug_groups.specs.Kept.{AreSeated, AreInhabited, IsTabled, AreTabled, IsOwn, AreCounted}
use Rattle.ug_groups.specs.Changes.{with_sub}
use Rattle.ug_groups.specs.Turns.{IsBeside, IsTurned, opened_rows, opened_at}
use Rattle.ug_groups.proofs.ListFacts.{some-same, length-changed}
use Rattle.ug_groups.proofs.RowsAt.{row-here, row-there, next-here, next-there, next-cases, none-past, changed-cases, any-some, subs-same, subs-next, subs-length, sub-at}
use Rattle.ug_groups.proofs.MemberViews.{member-get, same-member, one-changed, sub-is}
use Rattle.ug_groups.proofs.Queued.{apart-test, joined-here, joined-some, joined-first, joined-rest, some-places}
use Rattle.ug_groups.proofs.Keeping.{IsAlike, stands-with, tabled-with, rest-with, change-as, sub-moved, sub-beside, room-moved, counted-moved}
use Rattle.ug_groups.proofs.EvaluatedTurns.{joinable-is}

-- ---- the subgroup that it joins

-- It is there, of this key, and all others are as before; so is who stands where.
pub record IsOpened (key : GroupKey) (w : World) (rows rows1 : Rows) (g : ℕ) : Type 0 where
  pub row : Row
  pub here : row_at g rows1 ≡ Some row
  pub key_is : row.sub.key ≡ key
  pub same : (r : Row) → row_at g rows ≡ Some r → r ≡ row
  pub others : (h : ℕ) (r : Row) → (h ≡ g → ⊥) → row_at h rows1 ≡ Some r → row_at h rows ≡ Some r
  pub queued : (q h : ℕ) → stands q h rows1 ≡ stands q h rows
  pub rests : (q h : ℕ) → rest_in q (row_at h rows1) ≡ rest_in q (row_at h rows)
  pub tabled : AreTabled w rows1

row-of : (rows : Rows) (g : ℕ) (x : machine.Subgroup) → slice_get (subs_of rows) g ≡ Some (Some x) → (r : Row) × (row_at g rows ≡ Some r) × (r.sub ≡ x)
row-of rows g x e = by (row_at g rows) refl (sym (sub-at g rows) ∙ ap (λ (o : Option (Option machine.Subgroup)). there o) e)
  where
    by : (o : Option Row) → row_at g rows ≡ o → option_map sub_of o ≡ Some x → (r : Row) × (row_at g rows ≡ Some r) × (r.sub ≡ x)
    by None is k = absurd cc
    by (Some r) is k = (r, is, (let same : sub_of r ≡ x = cc in same))

opened-found : (key : GroupKey) (w : World) (rows : Rows) (g : ℕ) → AreTabled w rows → first_joinable key 0 (subs_of rows) ≡ Some g → IsOpened key w rows rows g
opened-found key w rows g tabled e =
    let found = joinable-is key (subs_of rows) g e in
    let row = row-of rows g found.0 found.1 in
    record {
      row = row.0;
      here = row.1;
      key_is = ap (λ (x : machine.Subgroup). x.key) row.2 ∙ found.2;
      same = λ r is. some-same r row.0 (sym is ∙ row.1);
      others = λ h r apart is. is;
      queued = λ q h. refl;
      rests = λ q h. refl;
      tabled = tabled;
    }

opened-new : (key : GroupKey) (w : World) (rows : Rows) → AreTabled w rows → IsOpened key w rows (with_next (fresh_row key w) rows) (length rows)
opened-new key w rows tabled = record {
  row = fresh_row key w;
  here = next-here (fresh_row key w) rows;
  key_is = refl;
  same = λ r is. absurd (let none : None ≡ Some r = sym (none-past rows) ∙ is in cc);
  others = λ h r apart is. sym (next-there (fresh_row key w) rows h apart) ∙ is;
  queued = λ q h. elim (cases_eq h (length rows)) [
    | inl same ↦
        subst (λ (k : ℕ). stands q k (with_next (fresh_row key w) rows) ≡ stands q k rows) (sym same)
        (ap (any_at (is_queued q)) (next-here (fresh_row key w) rows) ∙ sym (ap (any_at (is_queued q)) (none-past rows)))
    | inr apart ↦ ap (any_at (is_queued q)) (next-there (fresh_row key w) rows h apart)
  ];
  rests = λ q h. elim (cases_eq h (length rows)) [
    | inl same ↦
        subst (λ (k : ℕ). rest_in q (row_at k (with_next (fresh_row key w) rows)) ≡ rest_in q (row_at k rows)) (sym same)
        (ap (rest_in q) (next-here (fresh_row key w) rows) ∙ sym (ap (rest_in q) (none-past rows)))
    | inr apart ↦ ap (rest_in q) (next-there (fresh_row key w) rows h apart)
  ];
  tabled = λ h r is. elim (next-cases h (fresh_row key w) rows r is) [
    | inl it ↦ subst (IsTabled w) (sym it.1) (record { desires = refl; limit = refl })
    | inr it ↦ tabled h r it.there_is
  ];
}

pub opened : (key : GroupKey) (w : World) (rows : Rows) → AreTabled w rows
    → IsOpened key w rows (opened_rows key w (first_joinable key 0 (subs_of rows)) rows) (opened_at (first_joinable key 0 (subs_of rows)) rows)
opened key w rows tabled = by (first_joinable key 0 (subs_of rows)) refl
  where
    by : (o : Option ℕ) → first_joinable key 0 (subs_of rows) ≡ o → IsOpened key w rows (opened_rows key w o rows) (opened_at o rows)
    by (Some g) e = opened-found key w rows g tabled e
    by None e = opened-new key w rows tabled

-- where there is one that it may share, the key isn't asked
pub asking-none : (key : GroupKey) (w : World) (rows : Rows) (g : ℕ) → first_joinable key 0 (subs_of rows) ≡ Some g → asking w rows key ≡ 0
asking-none key w rows g e =
    let found = joinable-is key (subs_of rows) g e in
    ap (λ (b : Bool). if b then 0 else all_heeded key.add_path w.routes)
    (subst (λ (k : GroupKey). has_key (keys_in rows) k ≡ true) found.2 (live-met (system w false 0 rows []) g found.0 found.1))

-- ---- the peer joins

joined-alike : (p : ℕ) (r : Row) → IsAlike r (joined_row p r)
joined-alike p r = record { key = refl; desired = refl; limit = refl }

module _ (p : ℕ) (key : GroupKey) (w : World) (rows : Rows) (members : List Member) (beside : IsBeside p w rows members) (inside : p < length w.peers) (free : sub_at p members ≡ None) where
  member-there : (m : Member) × (slice_get members p ≡ Some m)
  member-there = by (slice_get members p) refl
    where
      past : {T : Type 0} (xs : List T) (k : ℕ) → slice_get xs k ≡ None → length xs ≤ k
      past [] k e = omega arith
      past (x ∷ xs) zero e = absurd cc
      past (x ∷ xs) (suc k) e = let rest = past xs k e in omega arith

      by : (o : Option Member) → slice_get members p ≡ o → (m : Member) × (slice_get members p ≡ Some m)
      by None e = absurd (let le = past members p e in let same = beside.all in omega arith)
      by (Some m) e = (m, e)

  module _ (rows1 : Rows) (g : ℕ) (opens : IsOpened key w rows rows1 g) where
    abbrev now : Rows
    now = with_row g (joined_row p) rows1

    abbrev then_members : List Member
    then_members = change_at (with_sub (Some g)) p members

    sub_now : sub_at p then_members ≡ Some g
    sub_now = sub-moved p (Some g) members member-there.0 member-there.1

    here-is : row_at g now ≡ Some (joined_row p opens.row)
    here-is = row-here g (joined_row p) rows1 ∙ ap (option_map (joined_row p)) opens.here

    own_seat : (h : ℕ) → stands p h now ≡ is_sub h (Some g)
    own_seat h = elim (cases_eq h g) [
      | inl same ↦
          subst (λ (k : ℕ). stands p k now ≡ is_sub k (Some g)) (sym same)
          (ap (any_at (is_queued p)) here-is ∙ joined-here opens.row.queue p ∙ sym (eq-eqb g g refl))
      | inr apart ↦
          ap (any_at (is_queued p)) (row-there g h (joined_row p) rows1 apart) ∙ opens.queued p h ∙ beside.seated p h ∙ ap (is_sub h) free
          ∙ sym (apart-test g h (λ e. apart (sym e)))
    ]

    seated-now : AreSeated now then_members
    seated-now q h = elim (cases_eq q p) [
      | inl same ↦ subst (λ (k : ℕ). stands k h now ≡ is_sub h (sub_at k then_members)) (sym same) (own_seat h ∙ ap (is_sub h) (sym sub_now))
      | inr apart ↦
          stands-with g (joined_row p) rows1 q h (λ r is. joined-some r.queue p q apart) ∙ opens.queued q h ∙ beside.seated q h
          ∙ ap (is_sub h) (sym (sub-beside p (Some g) members q apart))
    ]

    inhabited-now : AreInhabited now
    inhabited-now h r is = elim (changed-cases g h (joined_row p) rows1 r is) [
      | inl it ↦ subst (λ (x : Row). 0 < length x.queue.places) (sym it.changed) (some-places p (joined_row p it.old).queue.places (joined-here it.old.queue p))
      | inr it ↦ beside.inhabited h r (opens.others h r it.apart it.there_is)
    ]

    -- who sat in it sat in the same one
    row-was : (q : ℕ) → sub_at q members ≡ Some g → row_at g rows ≡ Some opens.row
    row-was q sits =
        let found = any-some (is_queued q) (row_at g rows) (beside.seated q g ∙ ap (is_sub g) sits ∙ eq-eqb g g refl) in
        found.1 ∙ ap Some (opens.same found.0 found.1)

    own-now : (q h : ℕ) (s : PeerState) (r : Row) → (q ≡ p → ⊥) → slice_get w.peers q ≡ Some s → sub_at q then_members ≡ Some h → row_at h now ≡ Some r → IsOwn w s r
    own-now q h s r apart peer sits is =
        let at = sym (sub-beside p (Some g) members q apart) ∙ sits in
        elim (changed-cases g h (joined_row p) rows1 r is) [
          | inl it ↦
              let at_g : sub_at q members ≡ Some g = subst (λ (k : ℕ). sub_at q members ≡ Some k) it.number at in
              let old_is : it.old ≡ opens.row = some-same it.old opens.row (sym it.there_is ∙ opens.here) in
              let was = beside.own q g s opens.row apart peer at_g (row-was q at_g) in
              subst (IsOwn w s) (sym it.changed) (record { up = was.up; key = ap (λ (x : Row). x.sub.key) old_is ∙ was.key })
          | inr it ↦ beside.own q h s r apart peer at (opens.others h r it.apart it.there_is)
        ]

    rests-now : (q : ℕ) (n : Member) → (q ≡ p → ⊥) → slice_get members q ≡ Some n → member_of now q n ≡ member_of rows q n
    rests-now q n apart at =
        same-member rows now q n (λ k k_sub. rest-with g (joined_row p) rows1 q k (λ r is. joined-rest r.queue p q apart) ∙ opens.rests q k)

    rest-own : rest_in p (row_at g now) ≡ []
    rest-own = ap (rest_in p) here-is ∙ joined-first opens.row.queue p

    then-is : (m : Member) → member_of now p (with_sub (Some g) m) ≡ with_seat (at_end g) (member_of rows p m)
    then-is m = ap (λ l. record { begun = m.begun; unlost = m.unlost.items; handed = m.handed; seat = Some (record { sub = g; rest = l }) }) rest-own

    members-now : members_from now 0 then_members ≡ change_at (with_seat (at_end g)) p (members_from rows 0 members)
    members-now =
        ap (λ (l : List Member). members_from now 0 l) (change-as p members member-there.0 (with_sub (Some g)) member-there.1)
        ∙ one-changed (with_seat (at_end g)) rows now p members member-there.0 (with_sub (Some g) member-there.0) member-there.1 (then-is member-there.0) rests-now

    -- the subgroups then, and the seat
    joined-view : (closed : Bool) (made : ℕ) → system w closed made now then_members ≡ record { world = w; closed = closed; made = made; subgroups = subs_of rows1; members = change_at (with_seat (at_end g)) p (members_from rows 0 members) }
    joined-view closed made =
        ap (λ (l : List (Option machine.Subgroup)). record { world = w; closed = closed; made = made; subgroups = l; members = members_from now 0 then_members }) (subs-same g (joined_row p) rows1 (λ x. refl))
        ∙ ap (λ (l : List machine.Member). record { world = w; closed = closed; made = made; subgroups = subs_of rows1; members = l }) members-now

    beside-now : IsBeside p w now then_members
    beside-now = record {
      good = beside.good;
      peers = beside.peers;
      all = length-changed (with_sub (Some g)) p members ∙ beside.all;
      seated = seated-now;
      inhabited = inhabited-now;
      tabled = tabled-with g (joined_row p) rows1 w (λ r is. joined-alike p r) opens.tabled;
      own = own-now;
      room = room-moved p (Some g) members w beside.room;
    }

    key-now : (h : ℕ) (r : Row) → sub_at p then_members ≡ Some h → row_at h now ≡ Some r → r.sub.key ≡ key
    key-now h r sits is =
        let number : g ≡ h = some-same g h (sym sub_now ∙ sits) in
        let row : joined_row p opens.row ≡ r = some-same (joined_row p opens.row) r (sym here-is ∙ ap (λ (k : ℕ). row_at k now) number ∙ is) in
        ap (λ (x : Row). x.sub.key) (sym row) ∙ opens.key_is

    counted-now : (made : ℕ) → AreCounted made rows members → AreCounted made now then_members
    counted-now made all =
        counted-moved p (Some g) members made rows now
        (λ m is. let none : rest_due (member_of now p (with_sub (Some g) m)).seat ≡ 0 = ap (λ (x : machine.Member). rest_due x.seat) (then-is m) in omega (arith, none))
        rests-now all

  abbrev first : Option ℕ
  first = first_joinable key 0 (subs_of rows)

  state-is : (closed : Bool) (made : ℕ) (o : Option ℕ) (opens : IsOpened key w rows (opened_rows key w o rows) (opened_at o rows))
      → system w closed made (with_row (opened_at o rows) (joined_row p) (opened_rows key w o rows)) (change_at (with_sub (Some (opened_at o rows))) p members) ≡ join p key o (system w closed made rows members)
  state-is closed made (Some g) opens = joined-view rows g opens closed made
  state-is closed made None opens =
      joined-view (with_next (fresh_row key w) rows) (length rows) opens closed made
      ∙ ap (λ (l : List (Option machine.Subgroup)). record { world = w; closed = closed; made = made; subgroups = l; members = change_at (with_seat (at_end (length rows))) p (members_from rows 0 members) }) (subs-next (fresh_row key w) rows)
      ∙ ap (λ (n : ℕ). record { world = w; closed = closed; made = made; subgroups = subs_of rows ++ Some (fresh_subgroup key w) ∷ []; members = change_at (with_seat (at_end n)) p (members_from rows 0 members) }) (sym (subs-length rows))

  seat-none : (closed : Bool) (made : ℕ) → seat_at p (system w closed made rows members) ≡ None
  seat-none closed made =
      ap seat_of (member-get rows p members ∙ ap (option_map (member_of rows p)) member-there.1)
      ∙ ap (option_map (seat_in rows p)) (sym (sub-is p members member-there.0 member-there.1) ∙ free)

  -- it joined
  pub started : IsTurned Starts p key w rows members (with_row (opened_at first rows) (joined_row p) (opened_rows key w first rows)) (change_at (with_sub (Some (opened_at first rows))) p members)
  started =
      let opens = opened key w rows beside.tabled in
      let rows1 = opened_rows key w first rows in
      let g = opened_at first rows in
      record {
        state = λ closed made.
            state-is closed made first opens
            ∙ sym (ap (λ (o : Option Seat). let gone = machine.leave p o (system w closed made rows members) in join p key (first_joinable key 0 gone.subgroups) gone) (seat-none closed made));
        beside = beside-now rows1 g opens;
        own = key-now rows1 g opens;
        remains = λ h sits. tt;
        counted = counted-now rows1 g opens;
      }

  pub started-room : HasRow (opened_at first rows) (opened_rows key w first rows) (λ r. place_of r.queue p ≡ None)
  started-room =
      let opens = opened key w rows beside.tabled in
      (opens.row, opens.here, none (place_of opens.row.queue p) (ap (any_at (is_queued p)) (sym opens.here) ∙ opens.queued p (opened_at first rows) ∙ beside.seated p (opened_at first rows) ∙ ap (is_sub (opened_at first rows)) free))
    where
      none : (o : Option ℕ) → is_some o ≡ false → o ≡ None
      none None e = refl
      none (Some x) e = absurd cc

  -- as the steps of the code lead to it
  pub start-room : (g : ℕ) (rows1 : Rows) → g ≡ opened_at first rows → rows1 ≡ opened_rows key w first rows → HasRow g rows1 (λ r. place_of r.queue p ≡ None)
  start-room g rows1 number is =
      subst (λ (l : Rows). HasRow g l (λ r. place_of r.queue p ≡ None)) (sym is)
      (subst (λ (n : ℕ). HasRow n (opened_rows key w first rows) (λ r. place_of r.queue p ≡ None)) (sym number) started-room)

  pub start-done : (g : ℕ) (rows1 rows2 : Rows) (now : List Member) → g ≡ opened_at first rows → rows1 ≡ opened_rows key w first rows → rows2 ≡ with_row g (joined_row p) rows1 → now ≡ change_at (with_sub (Some g)) p members
      → IsTurned Starts p key w rows members rows2 now
  start-done g rows1 rows2 now number is joins seats =
      subst (λ (l : Rows). IsTurned Starts p key w rows members l now) (sym (joins ∙ (λ i. with_row (number i) (joined_row p) (is i))))
      (subst (λ (l : List Member). IsTurned Starts p key w rows members (with_row (opened_at first rows) (joined_row p) (opened_rows key w first rows)) l) (sym (seats ∙ ap (λ (n : ℕ). change_at (with_sub (Some n)) p members) number)) started)
