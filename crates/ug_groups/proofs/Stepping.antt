-- What is next for a peer, and what is kept when it is done.
use Rattle.std.proofs.Common.{◌≡◌, ℕ, zero, suc, ◌+◌, ◌<◌, ◌≤◌, inl, inr, Bool, true, false, List, [], ◌∷◌, ◌++◌, length, slice_get, drop, Option, Some, None, refl, sym, ap, subst, ◌∙◌, arith}
use Rattle.std.specs.Prelude.{nat_lt, if◌then◌else◌}
use Rattle.std.specs.Option.{option_map}
use Rattle.std.proofs.lemmas.Bool.{cases_eq, eq-eqb}
use Rattle.std.proofs.lemmas.Bool.Decides.{nat_tests}
use Rattle.ug_types.specs.declared.route.PeerEnds.{PeerEnds}
use Rattle.ug_board.specs.declared.steps.LaneStep.TheVariants.{Next}
use Rattle.ug_board.specs.declared.steps.LaneSaid.{LaneSaid}
use Rattle.ug_board.specs.declared.steps.LaneSaid.TheVariants.{Begun, Hand}
use Rattle.ug_board.specs.Rules.{LeavesHanded}
use Rattle.ug_outbound.specs.Keys.{ends_of}
use Rattle.ug_outbound.specs.declared.key.GroupKey.{GroupKey}
use Rattle.ug_world.specs.declared.peer_state.PeerState.{PeerState}
use Rattle.ug_world.specs.World.{World, key_in}
use Rattle.ug_speaker.specs.Places.{change_at}
use Rattle.ug_speaker.specs.Counts.{sessions_had, sessions_at}
use Rattle.ug_queue.specs.Queues.{rest_of, shed, past_next}
use Rattle.ug_group_rules.specs.Packets.{Packet}
use Rattle.ug_group_rules.specs.Machine as machine
use Rattle.ug_group_rules.specs.Machine.{System, Upshot, Begins, Hands, Rests, upshot, upshot_of, hands_by, first_left, after_upshot, with_session, with_handed, rest_behind}
use Rattle.ug_group_rules.specs.Rules.{group_rules, said_of, at_rest, text_for, rest_due}
use Rattle.ug_groups.specs.declared.handed.Handed.{Handed}
use Rattle.ug_groups.specs.Subgroups.{IsHanded, text_to}
use Rattle.ug_groups.specs.Rows.{Row, Rows, row_at, any_at, with_row, with_queue}
use Rattle.ug_groups.specs.declared.member.Member.{Member}
use Rattle.ug_groups.specs.Members.{rest_in, seat_in, member_of, members_from, system, is_queued, is_sub}
use Rattle.ug_groups.specs.Kept.{HasRoom, IsKept}
use Rattle.ug_groups.specs.Steps.{IsStepped}
use Rattle.ug_groups.proofs.ListFacts.{length-changed}
use Rattle.ug_groups.proofs.RowsAt.{row-here, row-there, subs-same}
use Rattle.ug_groups.proofs.MemberViews.{member-get, same-member, one-changed, sub-kept, sub-is}
use Rattle.ug_groups.proofs.Queued.{shed-some, shed-rest, next-some, next-limit, next-others, next-rest, some-places}
use Rattle.ug_groups.proofs.Keeping.{IsAlike, stands-with, inhabited-with, tabled-with, own-with, room-one, counted-one, own-one}

change-same : {T : Type 0} (f : T → T) (p : ℕ) (xs : List T) → ((x : T) → f x ≡ x) → change_at f p xs ≡ xs
change-same f p [] h = refl
change-same {T} f zero (x ∷ xs) h = ap (λ (y : T). y ∷ xs) (h x)
change-same {T} f (suc p) (x ∷ xs) h = ap (λ (l : List T). x ∷ l) (change-same f p xs h)

pub had : (o : Option PeerState) (n : ℕ) → option_map (λ (s : PeerState). s.sessions) o ≡ Some n → sessions_had o ≡ n
had None n e = absurd cc
had (Some s) n e = cc

pub peer-is : (o : Option PeerState) (n : ℕ) → option_map (λ (s : PeerState). s.sessions) o ≡ Some n → (s : PeerState) × (o ≡ Some s)
peer-is None n e = absurd cc
peer-is (Some s) n e = (s, refl)

module _ (w : World) (closed : Bool) (made p : ℕ) (rows : Rows) (members : List Member) where
  abbrev old : System
  old = system w closed made rows members

  rest_leaves : (said : LaneSaid) (buf : List ℕ) → said ≡ at_rest closed → LeavesHanded group_rules (Next p) said old buf
  rest_leaves said buf e = subst (λ (x : LaneSaid). LeavesHanded group_rules (Next p) x old buf) (sym e) (by closed)
    where
      by : (b : Bool) → LeavesHanded group_rules (Next p) (at_rest b) old buf
      by true = tt
      by false = tt

  rest_same : (m : machine.Member) → after_upshot Rests m ≡ m
  rest_same m = refl

  -- nothing is next
  pub rests-by : (said : LaneSaid) (buf : List ℕ) → IsKept w closed made rows members → upshot p old ≡ Rests → said ≡ at_rest closed → IsStepped w closed made p old said rows members buf
  rests-by said buf kept up is = record {
    said_is = is ∙ ap (said_of closed (slice_get w.peers p)) (sym up);
    state = ap (λ (l : List machine.Member). record old { members = l }) (sym (ap (λ (u : Upshot). change_at (after_upshot u) p (members_from rows 0 members)) up ∙ change-same (after_upshot Rests) p (members_from rows 0 members) rest_same));
    handed = rest_leaves said buf is;
    kept = kept;
  }

  -- no such peer
  pub rests-none : (said : LaneSaid) (buf : List ℕ) → IsKept w closed made rows members → slice_get members p ≡ None → said ≡ at_rest closed → IsStepped w closed made p old said rows members buf
  rests-none said buf kept none is =
      rests-by said buf kept (ap (upshot_of (sessions_at p w)) (member-get rows p members ∙ ap (option_map (member_of rows p)) none)) is

  module _ (m : Member) (here : slice_get members p ≡ Some m) where
    upshot-is : upshot p old ≡ upshot_of (sessions_at p w) (Some (member_of rows p m))
    upshot-is = ap (upshot_of (sessions_at p w)) (member-get rows p members ∙ ap (option_map (member_of rows p)) here)

    hands-now : (n : ℕ) → sessions_at p w ≡ n → n ≤ m.begun → upshot p old ≡ hands_by (member_of rows p m) (first_left (member_of rows p m).seat)
    hands-now n sessions le =
        upshot-is ∙ ap (λ (k : ℕ). upshot_of k (Some (member_of rows p m))) sessions
        ∙ ap (λ (b : Bool). if b then Begins (m.begun + 1) else hands_by (member_of rows p m) (first_left (member_of rows p m).seat)) less
      where
        less : nat_lt m.begun n ≡ false
        less = grind (arith, nat_tests)

    hands-first : 0 < m.begun → (packet : Packet) → hands_by (member_of rows p m) (Some packet) ≡ Hands m.begun packet
    hands-first some packet = ap (λ (b : Bool). if b then Hands m.begun packet else Rests) less
      where
        less : nat_lt 0 m.begun ≡ true
        less = grind (arith, nat_tests)

    none-begun : m.begun ≡ 0 → (o : Option Packet) → hands_by (member_of rows p m) o ≡ Rests
    none-begun none None = refl
    none-begun none (Some packet) = ap (λ (b : Bool). if b then Hands m.begun packet else Rests) less
      where
        less : nat_lt 0 m.begun ≡ false
        less = grind (arith, nat_tests)

    -- no session was begun
    pub rests-unbegun : (said : LaneSaid) (buf : List ℕ) (n : ℕ) → IsKept w closed made rows members → sessions_at p w ≡ n → n ≤ m.begun → m.begun ≡ 0 → said ≡ at_rest closed → IsStepped w closed made p old said rows members buf
    rests-unbegun said buf n kept sessions le none is =
        rests-by said buf kept (hands-now n sessions le ∙ none-begun none (first_left (member_of rows p m).seat)) is

    -- it sits nowhere, or has taken all
    pub rests-unseated : (said : LaneSaid) (buf : List ℕ) (n : ℕ) → IsKept w closed made rows members → sessions_at p w ≡ n → n ≤ m.begun → m.sub ≡ None → said ≡ at_rest closed → IsStepped w closed made p old said rows members buf
    rests-unseated said buf n kept sessions le none is =
        rests-by said buf kept
        (hands-now n sessions le ∙ ap (λ (o : Option ℕ). hands_by (member_of rows p m) (first_left (option_map (seat_in rows p) o))) none) is

    pub rests-taken : (said : LaneSaid) (buf : List ℕ) (n g : ℕ) (r : Row) → IsKept w closed made rows members → sessions_at p w ≡ n → n ≤ m.begun → m.sub ≡ Some g → row_at g rows ≡ Some r → rest_of r.queue p ≡ [] → said ≡ at_rest closed
        → IsStepped w closed made p old said rows members buf
    rests-taken said buf n g r kept sessions le sits there none is =
        rests-by said buf kept
        (hands-now n sessions le ∙ ap (λ (o : Option ℕ). hands_by (member_of rows p m) (first_left (option_map (seat_in rows p) o))) sits
        ∙ ap (λ (o : Option Row). hands_by (member_of rows p m) (slice_get (rest_in p o) 0)) there
        ∙ ap (λ (l : List Packet). hands_by (member_of rows p m) (slice_get l 0)) none) is

    -- a session begins
    pub begins-by : (buf : List ℕ) (n : ℕ) (m' : Member) → IsKept w closed made rows members → sessions_at p w ≡ n → m.begun < n
        → m'.begun ≡ m.begun + 1 → m'.unlost.items ≡ m.unlost.items ++ (m.begun + 1) ∷ [] → m'.handed ≡ 0 → m'.sub ≡ m.sub → HasRoom n m'
        → IsStepped w closed made p old (Begun m'.begun) rows (change_at (λ (x : Member). m') p members) buf
    begins-by buf n m' kept sessions less begun unlost handed sub room = record {
      said_is = sym (ap (said_of closed (slice_get w.peers p)) up ∙ ap Begun (sym begun));
      state = ap (λ (l : List machine.Member). record old { members = l }) (one-changed with_session rows rows p members m m' here then_is (λ q k apart at. refl) ∙ sym (ap (λ (u : Upshot). change_at (after_upshot u) p (members_from rows 0 members)) up));
      handed = tt;
      kept = record {
        good = kept.good;
        peers = kept.peers;
        all = λ open_. length-changed (λ (x : Member). m') p members ∙ kept.all open_;
        within = let same = length-changed (λ (x : Member). m') p members in let le = kept.within in omega arith;
        seated = λ q g. kept.seated q g ∙ ap (is_sub g) (sym (sub-kept p q members m m' here sub));
        inhabited = kept.inhabited;
        tabled = kept.tabled;
        own = own-one p members m m' here w rows (λ q. sub-kept p q members m m' here sub) kept.own;
        room = room-one p members m m' here w (subst (λ (k : ℕ). HasRoom k m') (sym sessions) room) kept.room;
        counted = counted-one p members m m' here made rows rows few (λ q k apart at. refl) kept.counted;
      };
    }
      where
        less_is : nat_lt m.begun n ≡ true
        less_is = grind (arith, nat_tests)

        up : upshot p old ≡ Begins (m.begun + 1)
        up = upshot-is ∙ ap (λ (k : ℕ). upshot_of k (Some (member_of rows p m))) sessions
            ∙ ap (λ (b : Bool). if b then Begins (m.begun + 1) else hands_by (member_of rows p m) (first_left (member_of rows p m).seat)) less_is

        then_is : member_of rows p m' ≡ with_session (member_of rows p m)
        then_is = λ i. record { begun = begun i; unlost = unlost i; handed = handed i; seat = option_map (seat_in rows p) (sub i) }

        few : m'.handed + rest_due (member_of rows p m').seat ≤ made
        few =
            let same : rest_due (member_of rows p m').seat ≡ rest_due (member_of rows p m).seat = ap (λ (o : Option ℕ). rest_due (option_map (seat_in rows p) o)) sub in
            let was = kept.counted p m here in omega (arith, same, was, handed)

-- ---- a packet is handed out

behind-is : (l : List Packet) → rest_behind l ≡ drop 1 l
behind-is [] = refl
behind-is (x ∷ l) = refl

pub some-left : (l : List Packet) (packet : Packet) → slice_get l 0 ≡ Some packet → 1 + length (drop 1 l) ≡ length l
some-left [] packet e = absurd cc
some-left (x ∷ l) packet e = omega arith

abbrev pub taken : ℕ → Row → Row
taken p r = with_queue (λ q. shed (past_next q p)) r

pub taken-alike : (p : ℕ) (r : Row) → IsAlike r (taken p r)
taken-alike p r = record { key = refl; desired = refl; limit = next-limit r.queue p }

pub taken-queued : (p q : ℕ) (r : Row) → is_queued q (taken p r) ≡ is_queued q r
taken-queued p q r = shed-some (past_next r.queue p) q ∙ next-some r.queue p q

taken-rest : (p q : ℕ) (r : Row) → (q ≡ p → ⊥) → rest_of (taken p r).queue q ≡ rest_of r.queue q
taken-rest p q r apart = shed-rest (past_next r.queue p) q ∙ next-others r.queue p q apart

taken-first : (p : ℕ) (r : Row) → rest_of (taken p r).queue p ≡ drop 1 (rest_of r.queue p)
taken-first p r = shed-rest (past_next r.queue p) p ∙ next-rest r.queue p

-- the rests of others are as before
taken-others : (p q g h : ℕ) (rows : Rows) → (q ≡ p → ⊥) → rest_in q (row_at h (with_row g (taken p) rows)) ≡ rest_in q (row_at h rows)
taken-others p q g h rows apart =
    elim (cases_eq h g) [
      | inl same ↦ subst (λ (k : ℕ). rest_in q (row_at k (with_row g (taken p) rows)) ≡ rest_in q (row_at k rows)) (sym same) (ap (rest_in q) (row-here g (taken p) rows) ∙ by (row_at g rows))
      | inr other ↦ ap (rest_in q) (row-there g h (taken p) rows other)
    ]
  where
    by : (o : Option Row) → rest_in q (option_map (taken p) o) ≡ rest_in q o
    by None = refl
    by (Some r) = taken-rest p q r apart

text-is : (w : World) (s : PeerState) (key : GroupKey) (packet : Packet) → key ≡ key_in w s → text_to key (ends_of s.peer) packet ≡ text_for (Some s) (Some packet)
text-is w s key packet is = ap (λ (k : GroupKey). text_to k (ends_of s.peer) packet) is

module _ (w : World) (closed : Bool) (made p : ℕ) (rows : Rows) (members : List Member) (kept : IsKept w closed made rows members) (m : Member) (here : slice_get members p ≡ Some m) (g : ℕ) (r : Row) (sits : m.sub ≡ Some g) (there_is : row_at g rows ≡ Some r) (s : PeerState) (peer : slice_get w.peers p ≡ Some s) where
  abbrev before : System
  before = system w closed made rows members

  own_key : r.sub.key ≡ key_in w s
  own_key = (kept.own p g s r peer (sub-is p members m here ∙ sits) there_is).key

  module _ (h : Handed) (buf : List ℕ) (ends : PeerEnds) (own_ends : ends ≡ ends_of s.peer) (handed : IsHanded r.sub.key ends (rest_of r.queue p) buf h) where
    abbrev m' : Member
    m' = record m { handed = m.handed + 1 }

    abbrev new_rows : Rows
    new_rows = with_row g (taken p) rows

    abbrev new_members : List Member
    new_members = change_at (λ (x : Member). m') p members

    same_text : text_to r.sub.key ends handed.packet ≡ text_for (slice_get w.peers p) (Some handed.packet)
    same_text =
        ap (λ (e : PeerEnds). text_to r.sub.key e handed.packet) own_ends ∙ text-is w s r.sub.key handed.packet own_key ∙ ap (λ (o : Option PeerState). text_for o (Some handed.packet)) (sym peer)

    first_is : first_left (member_of rows p m).seat ≡ Some handed.packet
    first_is = ap (λ (o : Option ℕ). first_left (option_map (seat_in rows p) o)) sits ∙ ap (λ (o : Option Row). slice_get (rest_in p o) 0) there_is ∙ handed.first

    seat_first : first_left (machine.seat_at p before) ≡ Some handed.packet
    seat_first = ap (λ (o : Option machine.Member). first_left (machine.seat_of o)) (member-get rows p members ∙ ap (option_map (member_of rows p)) here) ∙ first_is

    rest_now : rest_in p (row_at g new_rows) ≡ drop 1 (rest_in p (row_at g rows))
    rest_now = ap (rest_in p) (row-here g (taken p) rows ∙ ap (option_map (taken p)) there_is) ∙ taken-first p r ∙ sym (ap (λ (o : Option Row). drop 1 (rest_in p o)) there_is)

    then_is : member_of new_rows p m' ≡ with_handed (member_of rows p m)
    then_is = ap (λ (o : Option machine.Seat). record { begun = m.begun; unlost = m.unlost.items; handed = m.handed + 1; seat = o })
        (ap (option_map (seat_in new_rows p)) sits
        ∙ ap (λ l. Some (record { sub = g; rest = l })) (rest_now ∙ sym (behind-is (rest_in p (row_at g rows))))
        ∙ sym (ap (λ (o : Option ℕ). option_map (λ (t : machine.Seat). record t { rest = rest_behind t.rest }) (option_map (seat_in rows p) o)) sits))

    others : (q : ℕ) (n : Member) → (q ≡ p → ⊥) → slice_get members q ≡ Some n → member_of new_rows q n ≡ member_of rows q n
    others q n apart at = same-member rows new_rows q n (λ k sub. taken-others p q g k rows apart)

    one_less : rest_due (member_of new_rows p m').seat + 1 ≡ rest_due (member_of rows p m).seat
    one_less =
        let now : rest_due (member_of new_rows p m').seat ≡ length (drop 1 (rest_in p (row_at g rows))) = ap (λ (o : Option ℕ). rest_due (option_map (seat_in new_rows p) o)) sits ∙ ap (λ l. length l) rest_now in
        let was : rest_due (member_of rows p m).seat ≡ length (rest_in p (row_at g rows)) = ap (λ (o : Option ℕ). rest_due (option_map (seat_in rows p) o)) sits in
        let step = some-left (rest_in p (row_at g rows)) handed.packet (ap (λ (o : Option Row). slice_get (rest_in p o) 0) there_is ∙ handed.first) in
        omega (arith, now, was, step)

    -- the count has room
    pub handed-room : m.handed + 1 ≤ made
    handed-room = let was = kept.counted p m here in omega (arith, one_less, was)

    pub hands-by : (n : ℕ) → sessions_at p w ≡ n → n ≤ m.begun → 0 < m.begun → IsStepped w closed made p before (Hand m.begun h.made h.len) new_rows new_members buf
    hands-by n sessions le some = record {
      said_is =
          sym (ap (said_of closed (slice_get w.peers p)) up ∙ ap (λ (k : ℕ). Hand m.begun k (length (text_for (slice_get w.peers p) (Some handed.packet)))) (sym handed.made)
          ∙ ap (Hand m.begun h.made) (ap (λ l. length l) (sym same_text) ∙ sym handed.size));
      state =
          ap (λ (l : List (Option machine.Subgroup)). record { world = w; closed = closed; made = made; subgroups = l; members = members_from new_rows 0 new_members }) (subs-same g (taken p) rows (λ x. refl))
          ∙ ap (λ (l : List machine.Member). record before { members = l })
          (one-changed with_handed rows new_rows p members m m' here then_is others ∙ sym (ap (λ (u : Upshot). change_at (after_upshot u) p (members_from rows 0 members)) up));
      handed = handed.bytes ∙ same_text ∙ ap (text_for (slice_get w.peers p)) (sym seat_first);
      kept = record {
        good = kept.good;
        peers = kept.peers;
        all = λ open_. length-changed (λ (x : Member). m') p members ∙ kept.all open_;
        within = let same = length-changed (λ (x : Member). m') p members in let le = kept.within in omega arith;
        seated = λ q k. stands-with g (taken p) rows q k (λ x at. taken-queued p q x) ∙ kept.seated q k ∙ ap (is_sub k) (sym (sub-kept p q members m m' here refl));
        inhabited = inhabited-with g (taken p) rows some_place kept.inhabited;
        tabled = tabled-with g (taken p) rows w (λ x at. taken-alike p x) kept.tabled;
        own = own-with g (taken p) rows w new_members (λ x at. taken-alike p x) (own-one p members m m' here w rows (λ q. sub-kept p q members m m' here refl) kept.own);
        room = room-one p members m m' here w (let was = kept.room p m here in record { spare = was.spare; few = was.few }) kept.room;
        counted = counted-one p members m m' here made rows new_rows few others kept.counted;
      };
    }
      where
        up : upshot p before ≡ Hands m.begun handed.packet
        up = hands-now w closed made p rows members m here n sessions le ∙ ap (hands_by (member_of rows p m)) first_is ∙ hands-first w closed made p rows members m here some handed.packet

        few : m'.handed + rest_due (member_of new_rows p m').seat ≤ made
        few = let was = kept.counted p m here in omega (arith, one_less, was)

        some_place : (x : Row) → row_at g rows ≡ Some x → 0 < length (taken p x).queue.places
        some_place x at =
            let stands_there : is_queued p x ≡ true = ap (λ (o : Option Row). any_at (is_queued p) o) (sym at) ∙ kept.seated p g ∙ ap (is_sub g) (sub-is p members m here ∙ sits) ∙ eq-eqb g g refl in
            some-places p (taken p x).queue.places (taken-queued p p x ∙ stands_there)
