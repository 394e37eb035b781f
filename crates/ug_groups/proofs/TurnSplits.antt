-- A peer that has company in its subgroup is split off.
use Rattle.std.proofs.Common.{◌≡◌, ℕ, suc, ◌<◌, ◌≤◌, inl, inr, Bool, true, false, cond, List, [], ◌∷◌, ◌++◌, length, slice_get, Option, Some, None, is_some, refl, sym, ap, subst, ◌∙◌, arith}
use Rattle.std.specs.Prelude.{nat_lt, count_by}
use Rattle.std.specs.List.Sorted.{IsStrictlySortedBy}
use Rattle.std.specs.Map.{lookup, keys_of}
use Rattle.std.specs.Ordering.{nat_cmp, eq_by_cmp}
use Rattle.std.specs.Option.{option_map}
use Rattle.std.proofs.lemmas.Bool.{cases_eq, eq-eqb}
use Rattle.std.proofs.lemmas.Bool.Decides.{nat_tests}
use Rattle.std.proofs.lemmas.Map.Keys.{IsDistinct-head, IsDistinct-from_sorted}
use Rattle.ug_outbound.specs.declared.key.GroupKey.{GroupKey}
use Rattle.ug_world.specs.declared.peer_state.PeerState.{PeerState}
use Rattle.ug_world.specs.World.{World}
use Rattle.ug_speaker.specs.Places.{change_at}
use Rattle.ug_queue.specs.Queues.{is_member, place_of, rest_of, from_place}
use Rattle.ug_queue.proofs.Members.{is_same, itself, is_one, come_here, come_other}
use Rattle.ug_groups.specs.Subgroups.{StandTogether}
use Rattle.ug_group_rules.specs.Packets.{Packet}
use Rattle.ug_group_rules.specs.Machine as machine
use Rattle.ug_group_rules.specs.Machine.{Subgroup, Seat, sits, sits_in, has_company, apart, split, split_by, unstuck, with_new, with_seat, seated, subgroup_at, there}
use Rattle.ug_group_rules.specs.Rules.{rest_due}
use Rattle.ug_group_rules.specs.Evaluations.{has_key}
use Rattle.ug_group_rules.proofs.Company.{count-cons, one_if, alone}
use Rattle.ug_group_rules.proofs.Keys.{live-met, live-found}
use Rattle.ug_groups.specs.Rows.{Row, Rows, row_at, any_at, HasRow, subs_of, sub_of, keys_in, with_row, with_next, part_row, rest_row}
use Rattle.ug_groups.specs.declared.member.Member.{Member}
use Rattle.ug_groups.specs.Members.{rest_in, seat_in, member_of, members_from, system, sub_at, is_sub, is_queued, stands}
use Rattle.ug_groups.specs.Kept.{AreSeated, AreInhabited, IsTabled, AreTabled, IsOwn, AreRows}
use Rattle.ug_groups.specs.Changes.{with_sub}
use Rattle.ug_groups.specs.Turns.{IsBeside, IsSplit}
use Rattle.ug_groups.proofs.ListFacts.{some-same, length-changed}
use Rattle.ug_groups.proofs.RowsAt.{row-here, row-there, next-here, next-there, next-cases, none-past, changed-cases, subs-same, subs-next, subs-length, sub-at}
use Rattle.ug_groups.proofs.MemberViews.{member-get, same-member, one-changed, sub-is, sub-some}
use Rattle.ug_groups.proofs.Queued.{apart-test, left-some, left-none, left-rest, some-places, first-queued}
use Rattle.ug_groups.proofs.Keeping.{stands-with, tabled-with, rest-with, change-as, sub-moved, sub-beside, room-moved, counted-moved}
use Rattle.ug_groups.proofs.Left.{seat-sub}
use Rattle.ug_groups.proofs.Seats.{sits-sub}
use Rattle.ug_groups.proofs.TurnKept.{seat-view}

-- ---- counting

none_counted : (test : machine.Member → Bool) (ms : List machine.Member) → ((q : ℕ) (m : machine.Member) → slice_get ms q ≡ Some m → test m ≡ false) → count_by test ms ≡ 0
none_counted test [] none = refl
none_counted test (m ∷ ms) none =
    let here : one_if (test m) ≡ 0 = ap one_if (none 0 m refl) in
    let rest = none_counted test ms (λ q x is. none (suc q) x is) in
    let first = count-cons test m ms in omega (arith, here, rest, first)

-- where at most one passes
few_counted : (test : machine.Member → Bool) (ms : List machine.Member) → ((q r : ℕ) (m n : machine.Member) → slice_get ms q ≡ Some m → slice_get ms r ≡ Some n → test m ≡ true → test n ≡ true → q ≡ r) → count_by test ms ≤ 1
few_counted test [] same = omega arith
few_counted test (m ∷ ms) same = by (test m) refl (few_counted test ms (λ q r x y at_q at_r one two. minus q r (same (suc q) (suc r) x y at_q at_r one two)))
  where
    minus : (q r : ℕ) → suc q ≡ suc r → q ≡ r
    minus q r e = omega arith

    by : (b : Bool) → test m ≡ b → count_by test ms ≤ 1 → count_by test (m ∷ ms) ≤ 1
    by true e rest =
        let none = none_counted test ms (λ q x at. no (test x) (λ passes. same 0 (suc q) m x refl at e passes) refl) in
        let here : one_if (test m) ≡ 1 = ap one_if e in
        let first = count-cons test m ms in omega (arith, here, none, first)
      where
        no : {q : ℕ} (b : Bool) → (b ≡ true → 0 ≡ suc q) → b ≡ b → b ≡ false
        no {q} true so e = absurd (let clash = so refl in omega (arith, clash))
        no {q} false so e = refl
    by false e rest =
        let here : one_if (test m) ≡ 0 = ap one_if e in
        let first = count-cons test m ms in omega (arith, here, rest, first)

-- ---- a queue of one member, and of more

only-queued : (p q : ℕ) (es : List (ℕ × ℕ)) → length es ≤ 1 → is_some (lookup (is_member p) es) ≡ true → is_some (lookup (is_member q) es) ≡ true → q ≡ p
only-queued p q [] few one two = absurd cc
only-queued p q (x ∷ []) few one two = is-one q (is_member q x.0) refl two ∙ sym (is-one p (is_member p x.0) refl one)
  where
    is-one : (m : ℕ) (b : Bool) → is_member m x.0 ≡ b → is_some (cond b (Some x.1) None) ≡ true → m ≡ x.0
    is-one m true e some = is_one m x.0 e
    is-one m false e some = absurd cc
only-queued p q (x ∷ y ∷ es) few one two = absurd (omega arith)

other-queued : (p : ℕ) (es : List (ℕ × ℕ)) → 1 < length es → IsStrictlySortedBy nat_cmp (keys_of es) → (q : ℕ) × (q ≡ p → ⊥) × (is_some (lookup (is_member q) es) ≡ true)
other-queued p [] many sorted = absurd (omega arith)
other-queued p (x ∷ []) many sorted = absurd (omega arith)
other-queued p (x ∷ y ∷ es) many sorted = elim (cases_eq x.0 p) [
  | inr differs ↦ (x.0, differs, first-queued x (y ∷ es))
  | inl same ↦ (y.0, λ e. clash (e ∙ sym same), by (is_member y.0 x.0))
]
  where
    apart-is : is_member x.0 y.0 ≡ false
    apart-is = (IsDistinct-head (eq_by_cmp nat_cmp) x.0 (keys_of (y ∷ es)) (IsDistinct-from_sorted nat_cmp (keys_of (x ∷ y ∷ es)) sorted)).0

    clash : y.0 ≡ x.0 → ⊥
    clash e = let both : true ≡ false = sym (itself x.0) ∙ ap (is_member x.0) (sym e) ∙ apart-is in absurd cc

    by : (b : Bool) → is_some (cond b (Some x.1) (lookup (is_member y.0) (y ∷ es))) ≡ true
    by true = refl
    by false = first-queued y es

module _ (p g : ℕ) (rows : Rows) (members : List Member) (seats : AreSeated rows members) (sub : sub_at p members ≡ Some g) (r : Row) (there_is : row_at g rows ≡ Some r) where
  queued-is : (q : ℕ) → is_queued q r ≡ is_sub g (sub_at q members)
  queued-is q = ap (any_at (is_queued q)) (sym there_is) ∙ seats q g

  queued-own : is_queued p r ≡ true
  queued-own = queued-is p ∙ ap (is_sub g) sub ∙ eq-eqb g g refl

  queued-sub : (q : ℕ) → sub_at q members ≡ Some g → is_queued q r ≡ true
  queued-sub q at = queued-is q ∙ ap (is_sub g) at ∙ eq-eqb g g refl

  sub-queued : (q : ℕ) → is_queued q r ≡ true → sub_at q members ≡ Some g
  sub-queued q at = by (sub_at q members) (sym (queued-is q) ∙ at)
    where
      by : (o : Option ℕ) → is_sub g o ≡ true → o ≡ Some g
      by None e = absurd cc
      by (Some h) e = ap Some (same h g e)
        where
          same : (h g : ℕ) → machine.sits_in g (Some (record { sub = h; rest = [] })) ≡ true → h ≡ g
          same h g e = grind (arith, nat_tests)

  sits-queued : (q : ℕ) (m : machine.Member) → slice_get (members_from rows 0 members) q ≡ Some m → sits g m ≡ true → is_queued q r ≡ true
  sits-queued q m at e = by (slice_get members q) refl (sym (member-get rows q members) ∙ at)
    where
      by : (o : Option Member) → slice_get members q ≡ o → option_map (member_of rows q) o ≡ Some m → is_queued q r ≡ true
      by None is k = absurd cc
      by (Some n) is k =
          let same : member_of rows q n ≡ m = some-one (member_of rows q n) m k in
          queued-is q ∙ ap (is_sub g) (sub-is q members n is) ∙ sym (seat-sub rows q g n.sub) ∙ ap (sits g) same ∙ e
        where
          some-one : (a b : machine.Member) → Some a ≡ Some b → a ≡ b
          some-one a b k = cc

  -- one member has no company
  alone-none : length r.queue.places ≤ 1 → has_company g (members_from rows 0 members) ≡ false
  alone-none few = no-less (count_by (sits g) (members_from rows 0 members))
      (few_counted (sits g) (members_from rows 0 members)
      (λ q k m n at_q at_k one two.
      only-queued p q r.queue.places few queued-own (sits-queued q m at_q one) ∙ sym (only-queued p k r.queue.places few queued-own (sits-queued k n at_k two))))
    where
      no-less : (n : ℕ) → n ≤ 1 → nat_lt 1 n ≡ false
      no-less n le = grind (arith, nat_tests)

  -- and more have
  company-is : 1 < length r.queue.places → IsStrictlySortedBy nat_cmp (keys_of r.queue.places) → has_company g (members_from rows 0 members) ≡ true
  company-is many sorted = by (has_company g (members_from rows 0 members)) refl
    where
      other : (q : ℕ) × (q ≡ p → ⊥) × (is_queued q r ≡ true)
      other = other-queued p r.queue.places many sorted

      by : (b : Bool) → has_company g (members_from rows 0 members) ≡ b → b ≡ true
      by true e = refl
      by false e =
          let own = sub-some p g members sub in
          let one = sub-some other.0 g members (sub-queued other.0 other.2) in
          absurd
          (alone g (members_from rows 0 members) p other.0 (member_of rows p own.0) (member_of rows other.0 one.0) (seat_in rows p g) (seat_in rows other.0 g) e (λ k. other.1 (sym k))
          (member-get rows p members ∙ ap (option_map (member_of rows p)) own.1) (member-get rows other.0 members ∙ ap (option_map (member_of rows other.0)) one.1)
          (ap (option_map (seat_in rows p)) own.2) (ap (option_map (seat_in rows other.0)) one.2) refl refl)

  -- ---- it stays, where it is alone

  pub stays-alone : (w : World) → IsBeside p w rows members → length r.queue.places ≤ 1 → IsSplit p g g w rows members rows members
  stays-alone w beside few = record {
    state = λ closed made.
        let s = system w closed made rows members in
        sym (ap (λ (o : Option Seat). split p o s) (seat-view p w closed made rows members ∙ ap (option_map (seat_in rows p)) sub) ∙ ap (λ (b : Bool). split_by b p (seat_in rows p g) s) (alone-none few));
    beside = beside;
    alone = record { sits = sub; others = λ q at. only-queued p q r.queue.places few queued-own (queued-sub q at) };
    key = λ a b at_a at_b. ap (λ (x : Row). x.sub.key) (some-same b a (sym at_b ∙ at_a));
    keys = λ k. refl;
    counted = λ made all. all;
  }

  -- ---- else it leaves with a copy

  abbrev n : ℕ
  n = length rows

  abbrev rest_rows : Rows
  rest_rows = with_row g (rest_row (p ∷ [])) rows

  abbrev part : Row
  part = part_row (p ∷ []) r

  abbrev now : Rows
  now = with_next part rest_rows

  abbrev then_members : List Member
  then_members = change_at (with_sub (Some n)) p members

  rest-length : length rest_rows ≡ n
  rest-length = length-changed (option_map (rest_row (p ∷ []))) g rows

  part-own : is_queued p part ≡ true
  part-own = ap is_some (come_here p 0 [])

  part-none : (q : ℕ) → (q ≡ p → ⊥) → place_of part.queue q ≡ None
  part-none q differs = come_other q p 0 [] (is_same q p ∙ apart-test q p differs)

  part-others : (q : ℕ) → (q ≡ p → ⊥) → is_queued q part ≡ false
  part-others q differs = ap is_some (part-none q differs)

  part-rest : rest_of part.queue p ≡ rest_of r.queue p
  part-rest = ap (from_place (rest_of r.queue p)) (come_here p 0 [])

  part-here : row_at n now ≡ Some part
  part-here = subst (λ (k : ℕ). row_at k now ≡ Some part) rest-length (next-here part rest_rows)

  now-there : (h : ℕ) → (h ≡ n → ⊥) → row_at h now ≡ row_at h rest_rows
  now-there h differs = next-there part rest_rows h (λ e. differs (e ∙ rest-length))

  sub-now : sub_at p then_members ≡ Some n
  sub-now = let found = sub-some p g members sub in sub-moved p (Some n) members found.0 found.1

  -- nobody sat in the new one
  none-there : (q : ℕ) → stands q n rows ≡ false
  none-there q = ap (any_at (is_queued q)) (none-past rows)

  none-sub : (q : ℕ) → sub_at q members ≡ Some n → ⊥
  none-sub q at = let both : false ≡ true = sym (none-there q) ∙ seats q n ∙ ap (is_sub n) at ∙ eq-eqb n n refl in absurd cc

  module _ (each : AreRows rows) (many : 1 < length r.queue.places) where
    rest-own : (h : ℕ) → stands p h rest_rows ≡ false
    rest-own h = elim (cases_eq h g) [
      | inl same ↦
          subst (λ (k : ℕ). stands p k rest_rows ≡ false) (sym same)
          (ap (any_at (is_queued p)) (row-here g (rest_row (p ∷ [])) rows ∙ ap (option_map (rest_row (p ∷ []))) there_is) ∙ left-none r.queue p (each g r there_is).sorted)
      | inr differs ↦
          ap (any_at (is_queued p)) (row-there g h (rest_row (p ∷ [])) rows differs) ∙ seats p h ∙ ap (is_sub h) sub ∙ apart-test g h (λ e. differs (sym e))
    ]

    rest-others : (q h : ℕ) → (q ≡ p → ⊥) → stands q h rest_rows ≡ stands q h rows
    rest-others q h differs = stands-with g (rest_row (p ∷ [])) rows q h (λ x is. left-some x.queue p q differs)

    seated-own : (h : ℕ) → stands p h now ≡ is_sub h (Some n)
    seated-own h = elim (cases_eq h n) [
      | inl same ↦ subst (λ (k : ℕ). stands p k now ≡ is_sub k (Some n)) (sym same) (ap (any_at (is_queued p)) part-here ∙ part-own ∙ sym (eq-eqb n n refl))
      | inr differs ↦ ap (any_at (is_queued p)) (now-there h differs) ∙ rest-own h ∙ sym (apart-test n h (λ e. differs (sym e)))
    ]

    seated-other : (q h : ℕ) → (q ≡ p → ⊥) → stands q h now ≡ is_sub h (sub_at q members)
    seated-other q h differs = elim (cases_eq h n) [
      | inl same ↦
          subst (λ (k : ℕ). stands q k now ≡ is_sub k (sub_at q members)) (sym same)
          (ap (any_at (is_queued q)) part-here ∙ part-others q differs ∙ sym (none-there q) ∙ seats q n)
      | inr other ↦ ap (any_at (is_queued q)) (now-there h other) ∙ rest-others q h differs ∙ seats q h
    ]

    seated-now : AreSeated now then_members
    seated-now q h = elim (cases_eq q p) [
      | inl same ↦ subst (λ (k : ℕ). stands k h now ≡ is_sub h (sub_at k then_members)) (sym same) (seated-own h ∙ ap (is_sub h) (sym sub-now))
      | inr differs ↦ seated-other q h differs ∙ ap (is_sub h) (sym (sub-beside p (Some n) members q differs))
    ]

    rest-some : 0 < length (rest_row (p ∷ []) r).queue.places
    rest-some =
        let other = other-queued p r.queue.places many (each g r there_is).sorted in
        some-places other.0 (rest_row (p ∷ []) r).queue.places (left-some r.queue p other.0 other.1 ∙ other.2)

    -- a row is the new one, the one that was left, or another
    inhabited-now : AreInhabited rows → AreInhabited now
    inhabited-now all h x is = elim (next-cases h part rest_rows x is) [
      | inl it ↦ subst (λ (y : Row). 0 < length y.queue.places) (sym it.1) (some-places p part.queue.places part-own)
      | inr it ↦ elim (changed-cases g h (rest_row (p ∷ [])) rows x it.there_is) [
        | inl one ↦ subst (λ (y : Row). 0 < length y.queue.places) (sym (one.changed ∙ ap (rest_row (p ∷ [])) (some-same one.old r (sym one.there_is ∙ there_is)))) rest-some
        | inr one ↦ all h x one.there_is
      ]
    ]

    tabled-now : (w : World) → AreTabled w rows → AreTabled w now
    tabled-now w all h x is = elim (next-cases h part rest_rows x is) [
      | inl it ↦ subst (IsTabled w) (sym it.1) (let was = all g r there_is in record { desires = was.desires; limit = was.limit })
      | inr it ↦ tabled-with g (rest_row (p ∷ [])) rows w (λ y at. record { key = refl; desired = refl; limit = refl }) all h x it.there_is
    ]

    own-now : (w : World) → IsBeside p w rows members → (q h : ℕ) (s : PeerState) (x : Row) → (q ≡ p → ⊥) → slice_get w.peers q ≡ Some s → sub_at q then_members ≡ Some h → row_at h now ≡ Some x → IsOwn w s x
    own-now w beside q h s x differs peer at is =
        let at_q = sym (sub-beside p (Some n) members q differs) ∙ at in
        elim (next-cases h part rest_rows x is) [
          | inl it ↦ absurd (none-sub q (at_q ∙ ap Some (it.0 ∙ rest-length)))
          | inr it ↦ elim (changed-cases g h (rest_row (p ∷ [])) rows x it.there_is) [
            | inl one ↦
                let was = beside.own q g s one.old differs peer (subst (λ (k : ℕ). sub_at q members ≡ Some k) one.number at_q) one.there_is in
                subst (IsOwn w s) (sym one.changed) (record { up = was.up; key = was.key })
            | inr one ↦ beside.own q h s x differs peer at_q one.there_is
          ]
        ]

    rests-now : (q : ℕ) (m : Member) → (q ≡ p → ⊥) → slice_get members q ≡ Some m → member_of now q m ≡ member_of rows q m
    rests-now q m differs at = same-member rows now q m (λ k k_sub. elim (cases_eq k n) [
      | inl same ↦
          subst (λ (j : ℕ). rest_in q (row_at j now) ≡ rest_in q (row_at j rows)) (sym same)
          (ap (rest_in q) part-here ∙ ap (from_place part.queue.packets) (part-none q differs) ∙ sym (ap (rest_in q) (none-past rows)))
      | inr other ↦ ap (rest_in q) (now-there k other) ∙ rest-with g (rest_row (p ∷ [])) rows q k (λ x is. left-rest x.queue p q differs)
    ])

    rest-now : rest_in p (row_at n now) ≡ rest_in p (row_at g rows)
    rest-now = ap (rest_in p) part-here ∙ part-rest ∙ sym (ap (rest_in p) there_is)

    then-is : (m : Member) → member_of now p (with_sub (Some n) m) ≡ with_seat (Some (record { sub = n; rest = rest_in p (row_at g rows) })) (member_of rows p m)
    then-is m = ap (λ (l : List Packet). record { begun = m.begun; unlost = m.unlost.items; handed = m.handed; seat = Some (record { sub = n; rest = l }) }) rest-now

    -- the keys are those that were
    keys-now : (w : World) (k : GroupKey) → has_key (keys_in now) k ≡ has_key (keys_in rows) k
    keys-now w k = same-tests (has_key (keys_in now) k) (has_key (keys_in rows) k) there_then back
      where
        same-tests : (a b : Bool) → (a ≡ true → b ≡ true) → (b ≡ true → a ≡ true) → a ≡ b
        same-tests true b up down = sym (up refl)
        same-tests false true up down = absurd (let e = down refl in cc)
        same-tests false false up down = refl

        at-subs : (l : Rows) (h : ℕ) (x : Row) → row_at h l ≡ Some x → slice_get (subs_of l) h ≡ Some (Some x.sub)
        at-subs l h x is = by (slice_get (subs_of l) h) (sub-at h l ∙ ap (option_map sub_of) is)
          where
            by : (o : Option (Option Subgroup)) → there o ≡ Some x.sub → o ≡ Some (Some x.sub)
            by None e = absurd cc
            by (Some None) e = absurd cc
            by (Some (Some y)) e = cc

        at-rows : (l : Rows) (h : ℕ) (x : Subgroup) → slice_get (subs_of l) h ≡ Some (Some x) → (y : Row) × (row_at h l ≡ Some y) × (y.sub ≡ x)
        at-rows l h x is = by (row_at h l) refl (sym (sub-at h l) ∙ ap (λ (o : Option (Option Subgroup)). there o) is)
          where
            by : (o : Option Row) → row_at h l ≡ o → option_map sub_of o ≡ Some x → (y : Row) × (row_at h l ≡ Some y) × (y.sub ≡ x)
            by None e k = absurd cc
            by (Some y) e k = (y, e, (let same : sub_of y ≡ x = cc in same))

        met : (l : Rows) (h : ℕ) (x : Row) → row_at h l ≡ Some x → has_key (keys_in l) x.sub.key ≡ true
        met l h x is = live-met (system w false 0 l []) h x.sub (at-subs l h x is)

        there_then : has_key (keys_in now) k ≡ true → has_key (keys_in rows) k ≡ true
        there_then is =
            let found = live-found (system w false 0 now []) k is in
            let row = at-rows now found.place found.subgroup found.is in
            let key : row.0.sub.key ≡ k = ap (λ (x : Subgroup). x.key) row.2 ∙ found.same in
            subst (λ (j : GroupKey). has_key (keys_in rows) j ≡ true) key
            (elim (next-cases found.place part rest_rows row.0 row.1) [
              | inl it ↦ subst (λ (y : Row). has_key (keys_in rows) y.sub.key ≡ true) (sym it.1) (met rows g r there_is)
              | inr it ↦ elim (changed-cases g found.place (rest_row (p ∷ [])) rows row.0 it.there_is) [
                | inl one ↦ subst (λ (y : Row). has_key (keys_in rows) y.sub.key ≡ true) (sym one.changed) (met rows g one.old one.there_is)
                | inr one ↦ met rows found.place row.0 one.there_is
              ]
            ])

        back : has_key (keys_in rows) k ≡ true → has_key (keys_in now) k ≡ true
        back is =
            let found = live-found (system w false 0 rows []) k is in
            let row = at-rows rows found.place found.subgroup found.is in
            let key : row.0.sub.key ≡ k = ap (λ (x : Subgroup). x.key) row.2 ∙ found.same in
            subst (λ (j : GroupKey). has_key (keys_in now) j ≡ true) key
            (elim (cases_eq found.place g) [
              | inl same ↦
                  let is_r : row.0 ≡ r = some-same row.0 r (sym row.1 ∙ ap (λ (h : ℕ). row_at h rows) same ∙ there_is) in
                  subst (λ (y : Row). has_key (keys_in now) y.sub.key ≡ true) (sym is_r) (met now n part part-here)
              | inr other ↦
                  met now found.place row.0
                  (now-there found.place (λ e. none-row found.place row.0 row.1 e) ∙ row-there g found.place (rest_row (p ∷ [])) rows other ∙ row.1)
            ])
          where
            none-row : (h : ℕ) (x : Row) → row_at h rows ≡ Some x → h ≡ n → ⊥
            none-row h x at e = let both : None ≡ Some x = sym (none-past rows) ∙ ap (λ (j : ℕ). row_at j rows) (sym e) ∙ at in absurd cc

    state-now : (w : World) (closed : Bool) (made : ℕ) → system w closed made now then_members ≡ apart p (system w closed made rows members)
    state-now w closed made =
        let s = system w closed made rows members in
        let found = sub-some p g members sub in
        let t = seat_in rows p g in
        let subs : subs_of now ≡ subs_of rows ++ Some (unstuck r.sub) ∷ [] = subs-next part rest_rows ∙ ap (λ (l : List (Option Subgroup)). l ++ Some (unstuck r.sub) ∷ []) (subs-same g (rest_row (p ∷ [])) rows (λ x. refl)) in
        let copy : Some (unstuck r.sub) ≡ option_map unstuck (subgroup_at g s) = sym (ap (option_map unstuck) (sub-at g rows ∙ ap (option_map sub_of) there_is)) in
        let moved : members_from now 0 then_members ≡ change_at (with_seat (Some (record { sub = n; rest = rest_in p (row_at g rows) }))) p (members_from rows 0 members) =
        ap (λ (l : List Member). members_from now 0 l) (change-as p members found.0 (with_sub (Some n)) found.1)
        ∙ one-changed (with_seat (Some (record { sub = n; rest = rest_in p (row_at g rows) }))) rows now p members found.0 (with_sub (Some n) found.0) found.1 (then-is found.0) rests-now in
        (λ i. record { world = w; closed = closed; made = made; subgroups = subs i; members = moved i })
        ∙ ap (λ (o : Option Subgroup). record { world = w; closed = closed; made = made; subgroups = subs_of rows ++ o ∷ []; members = change_at (with_seat (Some (record { sub = n; rest = rest_in p (row_at g rows) }))) p (members_from rows 0 members) }) copy
        ∙ ap (λ (k : ℕ). with_new (option_map unstuck (subgroup_at g s)) (seated p (Some (record t { sub = k })) s)) (sym (subs-length rows))
        ∙ sym (ap (λ (o : Option Seat). split p o s) (seat-view p w closed made rows members ∙ ap (option_map (seat_in rows p)) sub)
        ∙ ap (λ (b : Bool). split_by b p t s) (company-is many (each g r there_is).sorted))

    pub splits : (w : World) → IsBeside p w rows members → IsSplit p g n w rows members now then_members
    splits w beside = record {
      state = state-now w;
      beside = record {
        good = beside.good;
        peers = beside.peers;
        all = length-changed (with_sub (Some n)) p members ∙ beside.all;
        seated = seated-now;
        inhabited = inhabited-now beside.inhabited;
        tabled = tabled-now w beside.tabled;
        own = own-now w beside;
        room = room-moved p (Some n) members w beside.room;
      };
      alone = record { sits = sub-now; others = λ q at. elim (cases_eq q p) [ inl same ↦ same | inr differs ↦ absurd (none-sub q (sym (sub-beside p (Some n) members q differs) ∙ at)) ] };
      key = λ a b at_a at_b.
          ap (λ (x : Row). x.sub.key) (some-same b part (sym at_b ∙ part-here)) ∙ ap (λ (x : Row). x.sub.key) (some-same r a (sym there_is ∙ at_a));
      keys = keys-now w;
      counted = λ made all.
          counted-moved p (Some n) members made rows now
          (λ m is.
          let found = sub-some p g members sub in
          let one : found.0 ≡ m = some-same found.0 m (sym found.1 ∙ is) in
          let now_due : rest_due (member_of now p (with_sub (Some n) m)).seat ≡ length (rest_in p (row_at g rows)) = ap (λ (x : machine.Member). rest_due x.seat) (then-is m) in
          let was_due : rest_due (member_of rows p m).seat ≡ length (rest_in p (row_at g rows)) = ap (λ (o : Option ℕ). rest_due (option_map (seat_in rows p) o)) (ap (λ (x : Member). x.sub) (sym one) ∙ found.2) in
          omega (arith, now_due, was_due))
          rests-now all;
    }

  pub together : StandTogether r.queue (p ∷ [])
  together = record { some = omega arith; first = queued-own; beside = (refl, tt); once = (refl, tt) }

-- ---- as the steps of the code lead to it

only-one : (p : ℕ) (before l : List ℕ) → before ≡ [] → l ≡ before ++ p ∷ [] → l ≡ p ∷ []
only-one p before l none is = is ∙ ap (λ (x : List ℕ). x ++ p ∷ []) none

count-of : (o : Option Row) (r : Row) (count : ℕ) → o ≡ Some r → option_map (λ (x : Row). length x.queue.places) o ≡ Some count → length r.queue.places ≡ count
count-of o r count is e = some-number (length r.queue.places) count (ap (option_map (λ (x : Row). length x.queue.places)) (sym is) ∙ e)
  where
    some-number : (a b : ℕ) → Some a ≡ Some b → a ≡ b
    some-number a b e = cc

module _ (p g : ℕ) (rows : Rows) (members : List Member) (seats : AreSeated rows members) (sub : sub_at p members ≡ Some g) where
  abbrev found : HasRow g rows (λ r. is_queued p r ≡ true)
  found = let row = sits-sub rows members p g sub seats in (row.0, row.1, row.2)

  pub split-there : is_some (row_at g rows) ≡ true
  split-there = ap is_some found.1

  pub split-alone : (count : ℕ) → option_map (λ (x : Row). length x.queue.places) (row_at g rows) ≡ Some count → count ≤ 1 → (w : World) → IsBeside p w rows members → IsSplit p g g w rows members rows members
  split-alone count is few w beside = let many = count-of (row_at g rows) found.0 count found.1 is in stays-alone p g rows members seats sub found.0 found.1 w beside (omega (arith, many))

  pub split-together : (leaving before : List ℕ) → before ≡ [] → leaving ≡ before ++ p ∷ [] → HasRow g rows (λ r. StandTogether r.queue leaving)
  split-together leaving before none is =
      (found.0, found.1, subst (λ (l : List ℕ). StandTogether found.0.queue l) (sym (only-one p before leaving none is)) (together p g rows members seats sub found.0 found.1))

  pub split-done : AreRows rows → (count : ℕ) → option_map (λ (x : Row). length x.queue.places) (row_at g rows) ≡ Some count → 1 < count → (leaving before : List ℕ) → before ≡ [] → leaving ≡ before ++ p ∷ []
      → (own : ℕ) (rows1 : Rows) (members1 : List Member) → own ≡ length rows → ((r : Row) → row_at g rows ≡ Some r → rows1 ≡ with_next (part_row leaving r) (with_row g (rest_row leaving) rows)) → members1 ≡ change_at (with_sub (Some own)) p members
      → (w : World) → IsBeside p w rows members → IsSplit p g own w rows members rows1 members1
  split-done each count is many leaving before none items own rows1 members1 number rows_are members_are w beside =
      let places = count-of (row_at g rows) found.0 count found.1 is in
      let one = only-one p before leaving none items in
      subst (λ (k : ℕ). IsSplit p g k w rows members rows1 members1) (sym number)
      (subst (λ (l : Rows). IsSplit p g (length rows) w rows members l members1) (sym (rows_are found.0 found.1 ∙ ap (λ (l : List ℕ). with_next (part_row l found.0) (with_row g (rest_row l) rows)) one))
      (subst (λ (l : List Member). IsSplit p g (length rows) w rows members (with_next (part_row (p ∷ []) found.0) (with_row g (rest_row (p ∷ [])) rows)) l) (sym (members_are ∙ ap (λ (k : ℕ). change_at (with_sub (Some k)) p members) number))
      (splits p g rows members seats sub found.0 found.1 each (omega (arith, places)) w beside)))
