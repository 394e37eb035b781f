-- An event, as the steps of the code take it.
use Rattle.std.proofs.Common.{◌≡◌, ℕ, zero, suc, ◌+◌, ◌<◌, ◌≤◌, inl, inr, Bool, true, false, List, [], ◌∷◌, ◌++◌, take, drop, length, slice_get, Option, Some, None, refl, sym, ap, subst, ◌∙◌, arith}
use Rattle.std.specs.Option.{option_map}
use Rattle.std.proofs.lemmas.Bool.{cases_eq}
use Rattle.ug_types.specs.Bytes.{same_bytes}
use Rattle.ug_events.specs.Events.{Happening, ComesUp, IsEvent}
use Rattle.ug_world.specs.declared.peer_state.PeerState.{PeerState}
use Rattle.ug_world.specs.World.{World, key_in}
use Rattle.ug_world.specs.Kept.{IsPlaceOf}
use Rattle.ug_world.specs.Verdicts.{verdict}
use Rattle.ug_world.specs.After.{after}
use Rattle.ug_speaker.specs.Counts.{sessions_at, sessions_had}
use Rattle.ug_speaker.proofs.Peers.{IsNextOf, next-of, peer_after, peers-after}
use Rattle.ug_groups.specs.Sent.{session_of}
use Rattle.ug_group_rules.specs.Machine as machine
use Rattle.ug_group_rules.specs.Machine.{with_counts, take_event}
use Rattle.ug_group_rules.specs.Rules.{rest_due}
use Rattle.ug_group_rules.specs.Evaluations.{evaluations}
use Rattle.ug_groups.specs.Rows.{Row, Rows, row_at, each_row, counted_row}
use Rattle.ug_groups.specs.Entered.{entering, retabled_row}
use Rattle.ug_groups.specs.declared.member.Member.{Member}
use Rattle.ug_groups.specs.Members.{seat_in, member_of, members_from, system, sub_in, sub_at, is_sub}
use Rattle.ug_groups.specs.Kept.{HasRoom, HaveRoom, AreCounted, IsKept, AreRows}
use Rattle.ug_groups.specs.Turns.{named_by, turn_at, asked_by, IsBeside, IsTurned, shown, HasMoreRoom}
use Rattle.ug_groups.proofs.ListFacts.{same-lists, some-same}
use Rattle.ug_groups.proofs.RowsAt.{each-cases}
use Rattle.ug_groups.proofs.MemberViews.{member-get}
use Rattle.ug_groups.proofs.Seats.{sits-sub}
use Rattle.ug_groups.proofs.TakeNames.{then-all, then-there, then-here, peer_then, name-at}
use Rattle.ug_groups.proofs.TakeEntered.{entered-beside, counted-entered, count-after}
use Rattle.ug_groups.proofs.TakeCounted.{passed-view, passed-kept}
use Rattle.ug_groups.proofs.TakeTurned.{routes-taken, routes-evaluated, peer-taken, peer-evaluated, peer-kept, came}

-- the place behind all
past-end : {T : Type 0} (xs : List T) (q : ℕ) (x : T) → slice_get xs q ≡ Some x → q < length xs
past-end [] q x is = absurd cc
past-end (y ∷ xs) zero x is = omega arith
past-end (y ∷ xs) (suc q) x is = let rest = past-end xs q x is in omega arith

-- ---- an event that is about no peer

module _ (e : Happening) (w : World) (rows : Rows) (members : List Member) (made0 : ℕ) (kept : IsKept w false made0 rows members) (none : named_by e ≡ None) (form : IsEvent e) where
  abbrev w1 : World
  w1 = after w e

  abbrev rows1 : Rows
  rows1 = each_row (retabled_row w1) rows

  same-room : HaveRoom w1 members
  same-room q m at = subst (λ (o : Option PeerState). HasRoom (sessions_had o) m) (sym (then-all e w none q)) (kept.room q m at)

  beside : IsBeside (length w.peers) w1 rows1 members
  beside = entered-beside w1 rows members (length w.peers) e w made0 refl kept form (λ q differs. then-all e w none q) same-room

  routes-entered : (closed : Bool) (made : ℕ) → AreCounted made rows members → IsKept w1 closed made rows1 members
  routes-entered closed made counts = record {
    good = beside.good;
    peers = beside.peers;
    all = λ open_. beside.all;
    within = let all = beside.all in omega arith;
    seated = beside.seated;
    inhabited = beside.inhabited;
    tabled = beside.tabled;
    own = λ q g s r peer sits at. beside.own q g s r (λ e_is. let inside = past-end w1.peers q s peer in let count = count-after e w in absurd (omega (arith, inside, count, e_is))) peer sits at;
    room = beside.room;
    counted = counted-entered w1 rows members made counts;
  }

  module _ (w' : World) (rows' rows'' : Rows) (world_is : w' ≡ w1) (rows_are : rows' ≡ each_row (retabled_row (after w e)) rows) (each : AreRows rows') (passed : rows'' ≡ each_row counted_row rows') where
    now_are : rows'' ≡ each_row counted_row rows1
    now_are = passed ∙ ap (each_row counted_row) rows_are

    each1 : AreRows rows1
    each1 = subst AreRows rows_are each

    pub routes-state : (closed : Bool) (made : ℕ) → system w' closed made rows'' members ≡ take_event e (system w closed made rows members)
    routes-state closed made =
        (λ i. system (world_is i) closed made (now_are i) members)
        ∙ passed-view w1 rows1 members beside.seated beside.tabled each1 closed made
        ∙ sym (routes-taken e w rows members made0 kept none closed made)

    pub routes-kept : (closed : Bool) (made : ℕ) → IsKept w closed made rows members → IsKept w' closed made rows'' members
    routes-kept closed made was =
        subst (λ (v : World). IsKept v closed made rows'' members) (sym world_is)
        (subst (λ (l : Rows). IsKept w1 closed made l members) (sym now_are) (passed-kept w1 rows1 members closed made (routes-entered closed made was.counted)))

  pub routes-steps : (closed : Bool) (made : ℕ) → evaluations e (system w closed made rows members) ≡ entering e w rows
  routes-steps closed made = routes-evaluated e w rows members made0 kept none closed made

-- ---- room for one more session

module _ (p n : ℕ) (members members' : List Member) (more : HasMoreRoom p n members members') where
  was-there : (q : ℕ) (m' : Member) → slice_get members' q ≡ Some m' → (m : Member) × (slice_get members q ≡ Some m) × (shown m' ≡ shown m)
  was-there q m' at = by (slice_get members q) refl (sym (more.same q) ∙ ap (option_map shown) at)
    where
      by : (o : Option Member) → slice_get members q ≡ o → option_map shown o ≡ Some (shown m') → (m : Member) × (slice_get members q ≡ Some m) × (shown m' ≡ shown m)
      by None is k = absurd cc
      by (Some m) is k = (m, is, sym (some-same (shown m) (shown m') k))

  sub-more : (q : ℕ) → sub_at q members' ≡ sub_at q members
  sub-more q = sub-of (slice_get members' q) ∙ ap third (more.same q) ∙ sym (sub-of (slice_get members q))
    where
      third : Option (ℕ × List ℕ × ℕ × Option ℕ) → Option ℕ
      third None = None
      third (Some x) = x.3

      sub-of : (o : Option Member) → sub_in o ≡ third (option_map shown o)
      sub-of None = refl
      sub-of (Some m) = refl

  as-shown : (rows : Rows) (q : ℕ) (m m' : Member) → shown m' ≡ shown m → member_of rows q m' ≡ member_of rows q m
  as-shown rows q m m' e = λ i. record { begun = (e i).0; unlost = (e i).1; handed = (e i).2; seat = option_map (seat_in rows q) (e i).3 }

  pub more-view : (rows : Rows) → members_from rows 0 members' ≡ members_from rows 0 members
  more-view rows =
      same-lists (members_from rows 0 members') (members_from rows 0 members)
      (λ q. member-get rows q members' ∙ by q (slice_get members' q) refl ∙ sym (member-get rows q members))
    where
      by : (q : ℕ) (o : Option Member) → slice_get members' q ≡ o → option_map (member_of rows q) o ≡ option_map (member_of rows q) (slice_get members q)
      by q None at = none-was (slice_get members q) (sym (more.same q) ∙ ap (option_map shown) at)
        where
          none-was : (o : Option Member) → option_map shown o ≡ None → None ≡ option_map (member_of rows q) o
          none-was None k = refl
          none-was (Some m) k = absurd cc
      by q (Some m') at = let found = was-there q m' at in ap Some (as-shown rows q found.0 m' found.2) ∙ sym (ap (option_map (member_of rows q)) found.1)

  more-length : length members' ≡ length members
  more-length = lengths members' members (λ q. more.same q)
    where
      lengths : (xs ys : List Member) → ((q : ℕ) → option_map shown (slice_get xs q) ≡ option_map shown (slice_get ys q)) → length xs ≡ length ys
      lengths [] [] h = refl
      lengths [] (y ∷ ys) h = absurd (let k = h 0 in cc)
      lengths (x ∷ xs) [] h = absurd (let k = h 0 in cc)
      lengths (x ∷ xs) (y ∷ ys) h = ap suc (lengths xs ys (λ q. h (suc q)))

  module _ (w : World) (rows : Rows) where
    few-more : HaveRoom w members → (q : ℕ) (m' : Member) → slice_get members' q ≡ Some m' → length m'.unlost.items ≤ m'.begun
    few-more all q m' at =
        let found = was-there q m' at in
        let few = (all q found.0 found.1).few in
        let items : length m'.unlost.items ≡ length found.0.unlost.items = ap (λ (x : ℕ × List ℕ × ℕ × Option ℕ). length x.1) found.2 in
        let begun : m'.begun ≡ found.0.begun = ap (λ (x : ℕ × List ℕ × ℕ × Option ℕ). x.0) found.2 in
        omega (arith, few, items, begun)

    -- so much room serves the present sessions, and those of a world in which this peer has so many
    pub room-then : (v : World) → HaveRoom w members → sessions_at p v ≤ n → ((q : ℕ) → (q ≡ p → ⊥) → slice_get v.peers q ≡ slice_get w.peers q) → HaveRoom v members'
    room-then v all few others q m' at = elim (cases_eq q p) [
      | inl same ↦
          let room = more.room m' (ap (λ (k : ℕ). slice_get members' k) (sym same) ∙ at) in
          let number : sessions_at q v ≡ sessions_at p v = ap (λ (k : ℕ). sessions_at k v) same in
          record { spare = omega (arith, room, few, number); few = few-more all q m' at }
      | inr differs ↦
          subst (λ (o : Option PeerState). HasRoom (sessions_had o) m') (sym (others q differs)) (all q m' (sym (more.others q differs) ∙ at))
    ]

    pub more-kept : (closed : Bool) (made : ℕ) → sessions_at p w ≤ n → IsKept w closed made rows members → IsKept w closed made rows members'
    more-kept closed made few kept = record {
      good = kept.good;
      peers = kept.peers;
      all = λ open_. more-length ∙ kept.all open_;
      within = let same = more-length in let le = kept.within in omega (arith, same, le);
      seated = λ q g. kept.seated q g ∙ ap (is_sub g) (sym (sub-more q));
      inhabited = kept.inhabited;
      tabled = kept.tabled;
      own = λ q g s r peer sits at. kept.own q g s r peer (sym (sub-more q) ∙ sits) at;
      room = room-then w kept.room few (λ q differs. refl);
      counted = λ q m' at.
          let found = was-there q m' at in
          let was = kept.counted q found.0 found.1 in
          let handed : m'.handed ≡ found.0.handed = ap (λ (x : ℕ × List ℕ × ℕ × Option ℕ). x.2) found.2 in
          subst (λ (x : machine.Member). m'.handed + rest_due x.seat ≤ made) (sym (as-shown rows q found.0 m' found.2)) (omega (arith, was, handed));
    }

-- ---- an event about a peer

sessions-of : (o : Option PeerState) (n : ℕ) → option_map (λ (s : PeerState). s.sessions) o ≡ Some n → (s : PeerState) × (o ≡ Some s) × (s.sessions ≡ n)
sessions-of None n e = absurd cc
sessions-of (Some s) n e = (s, refl, (let same : s.sessions ≡ n = cc in same))

peer-at : (peers : List PeerState) (p : ℕ) → p < length peers → (s : PeerState) × (slice_get peers p ≡ Some s)
peer-at [] p inside = absurd (omega arith)
peer-at (s ∷ peers) zero inside = (s, refl)
peer-at (s ∷ peers) (suc p) inside = peer-at peers p (omega arith)

-- one session more at most
sessions-few : (s s' : PeerState) → IsNextOf s s' → s'.sessions ≤ s.sessions + 1
sessions-few s s' next =
    elim next.moved [
      | inl stays ↦ let same = stays.1 in omega arith
      | inr other ↦ elim other [ inl down ↦ let same = down.1 in omega arith | inr up ↦ let more = up.1 in omega arith ]
    ]

session-in : (v w : World) (s' s : PeerState) → IsNextOf s s' → session_of (key_in v s') ≡ session_of (key_in w s)
session-in v w s' s next = next.capabilities

pub open-kept : (w : World) (rows : Rows) (members : List Member) (k : (closed : Bool) × (made : ℕ) × (closed ≡ false) × IsKept w closed made rows members) → IsKept w false k.1 rows members
open-kept w rows members k = subst (λ (b : Bool). IsKept w b k.1 rows members) k.2 k.3

module _ (e : Happening) (name : List ℕ) (w : World) (p : ℕ) (rows : Rows) (members members1 : List Member) (made0 : ℕ) (kept : IsKept w false made0 rows members) (form : IsEvent e) (accepted : verdict w e ≡ None)
    (named : named_by e ≡ Some name) (place : IsPlaceOf w.peers name p) (more : (n : ℕ) → option_map (λ (s : PeerState). s.sessions) (slice_get w.peers p) ≡ Some n → HasMoreRoom p (n + 1) members members1) where
  abbrev after_it : World
  after_it = after w e

  abbrev then_rows : Rows
  then_rows = each_row (retabled_row after_it) rows

  there_is : (s : PeerState) × (slice_get w.peers p ≡ Some s)
  there_is = peer-at w.peers p place.inside

  same : same_bytes there_is.0.peer.name name ≡ true
  same = name-at w.peers name p there_is.0 place there_is.1

  abbrev now : PeerState
  now = peer_then e there_is.0

  own_more : HasMoreRoom p (there_is.0.sessions + 1) members members1
  own_more = more there_is.0.sessions (ap (option_map (λ (s : PeerState). s.sessions)) there_is.1)

  few-now : sessions_at p w ≤ there_is.0.sessions + 1
  few-now = let here : sessions_at p w ≡ there_is.0.sessions = ap (λ (o : Option PeerState). sessions_had o) there_is.1 in omega (arith, here)

  kept1 : IsKept w false made0 rows members1
  kept1 = more-kept p (there_is.0.sessions + 1) members members1 own_more w rows false made0 few-now kept

  now-there : slice_get after_it.peers p ≡ Some now
  now-there = then-here e name w p there_is.0 named kept.peers there_is.1 same

  few-then : sessions_at p after_it ≤ there_is.0.sessions + 1
  few-then =
      let here : sessions_at p after_it ≡ (peer_after e there_is.0).sessions = ap (λ (o : Option PeerState). sessions_had o) (peers-after e w p ∙ ap (option_map (peer_after e)) there_is.1) in
      let few = sessions-few there_is.0 (peer_after e there_is.0) (next-of e there_is.0) in
      omega (arith, here, few)

  others : (q : ℕ) → (q ≡ p → ⊥) → slice_get after_it.peers q ≡ slice_get w.peers q
  others q differs = then-there e name w p there_is.0 named kept.peers there_is.1 same q differs

  entered-now : IsBeside p after_it then_rows members1
  entered-now = entered-beside after_it rows members1 p e w made0 refl kept1 form others (room-then p (there_is.0.sessions + 1) members members1 own_more w rows after_it kept.room few-then others)

  view-same : (closed : Bool) (made : ℕ) → system w closed made rows members1 ≡ system w closed made rows members
  view-same closed made = ap (λ (l : List machine.Member). record (system w closed made rows members) { members = l }) (more-view p (there_is.0.sessions + 1) members members1 own_more rows)

  module _ (w' : World) (rows' : Rows) (world_is : w' ≡ after w e) (rows_are : rows' ≡ each_row (retabled_row (after w e)) rows) where
    -- what the turn asks
    pub turn-inside : p < length w'.peers
    turn-inside =
        let inside = place.inside in
        let count : length w'.peers ≡ length w.peers = ap (λ (v : World). length v.peers) world_is ∙ count-after e w in
        omega (arith, inside, count)

    pub turn-kept : IsBeside p w' rows' members1
    turn-kept = subst (λ (v : World). IsBeside p v rows' members1) (sym world_is) (subst (λ (l : Rows). IsBeside p after_it l members1) (sym rows_are) entered-now)

    pub turn-free : (n : List ℕ) → e ≡ ComesUp n → sub_at p members1 ≡ None
    turn-free n is = by (sub_at p members1) refl
      where
        down : there_is.0.up ≡ false
        down = came e w rows members1 made0 kept1 name p there_is.0 named accepted there_is.1 same n is

        by : (o : Option ℕ) → sub_at p members1 ≡ o → o ≡ None
        by None sits = refl
        by (Some g) sits =
            let row = sits-sub rows members1 p g sits kept1.seated in
            let up = (kept1.own p g there_is.0 row.0 there_is.1 sits row.1).up in
            absurd (let both_so : false ≡ true = sym down ∙ up in cc)

    pub turn-session : (s' : PeerState) (g : ℕ) (r : Row) → slice_get w'.peers p ≡ Some s' → sub_at p members1 ≡ Some g → row_at g rows' ≡ Some r → session_of (key_in w' s') ≡ session_of r.sub.key
    turn-session s' g r peer sits at =
        let peer_is : s' ≡ peer_after e there_is.0 = some-same s' (peer_after e there_is.0) (sym peer ∙ ap (λ (v : World). slice_get v.peers p) world_is ∙ peers-after e w p ∙ ap (option_map (peer_after e)) there_is.1) in
        let found = each-cases g (retabled_row after_it) rows r (sym (ap (λ (l : Rows). row_at g l) rows_are) ∙ at) in
        let was = (kept1.own p g there_is.0 found.0 there_is.1 sits found.1).key in
        ap (λ (x : PeerState). session_of (key_in w' x)) peer_is
        ∙ session-in w' w (peer_after e there_is.0) there_is.0 (next-of e there_is.0)
        ∙ ap session_of (sym was) ∙ ap (λ (x : Row). session_of x.sub.key) (sym found.2)

    now-then : slice_get w'.peers p ≡ Some now
    now-then = ap (λ (v : World). slice_get v.peers p) world_is ∙ now-there

    -- what it evaluates
    asked-is : (closed : Bool) (made : ℕ) → asked_by (turn_at e p (key_in w' now) rows' members1) w' rows' (key_in w' now) ≡ evaluations e (system w closed made rows members)
    asked-is closed made =
        (λ i. asked_by (turn_at e p (key_in (world_is i) now) (rows_are i) members1) (world_is i) (rows_are i) (key_in (world_is i) now))
        ∙ sym (peer-evaluated e w rows members1 made0 kept1 name p there_is.0 named accepted there_is.1 same closed made)
        ∙ ap (evaluations e) (view-same closed made)

    pub turn-steps : (n1 n2 : ℕ) → ((s' : PeerState) → slice_get w'.peers p ≡ Some s' → n2 ≡ n1 + asked_by (turn_at e p (key_in w' s') rows' members1) w' rows' (key_in w' s')) → (closed : Bool) (made : ℕ)
        → n2 ≡ n1 + evaluations e (system w closed made rows members)
    turn-steps n1 n2 steps closed made = steps now now-then ∙ ap (λ (k : ℕ). n1 + k) (asked-is closed made)

    pub turn-most : (n1 n2 : ℕ) → ((s' : PeerState) → slice_get w'.peers p ≡ Some s' → n2 ≤ n1 + asked_by (turn_at e p (key_in w' s') rows' members1) w' rows' (key_in w' s')) → (closed : Bool) (made : ℕ)
        → n2 ≤ n1 + evaluations e (system w closed made rows members)
    turn-most n1 n2 most closed made = let few = most now now-then in let same_count = asked-is closed made in omega (arith, few, same_count)

    module _ (rows2 rows3 : Rows) (members2 : List Member)
        (turned : (s' : PeerState) → slice_get w'.peers p ≡ Some s' → IsTurned (turn_at e p (key_in w' s') rows' members1) p (key_in w' s') w' rows' members1 rows2 members2)
        (each : AreRows rows2) (passed : rows3 ≡ each_row counted_row rows2) where
      done : IsTurned (turn_at e p (key_in after_it now) then_rows members1) p (key_in after_it now) after_it then_rows members1 rows2 members2
      done =
          subst (λ (l : Rows). IsTurned (turn_at e p (key_in after_it now) l members1) p (key_in after_it now) after_it l members1 rows2 members2) rows_are
          (subst (λ (v : World). IsTurned (turn_at e p (key_in v now) rows' members1) p (key_in v now) v rows' members1 rows2 members2) world_is (turned now now-then))

      pub turn-state : (closed : Bool) (made : ℕ) → system w' closed made rows3 members2 ≡ take_event e (system w closed made rows members)
      turn-state closed made =
          (λ i. system (world_is i) closed made (passed i) members2)
          ∙ passed-view after_it rows2 members2 done.beside.seated done.beside.tabled each closed made
          ∙ ap with_counts (done.state closed made)
          ∙ sym (peer-taken e w rows members1 made0 kept1 name p there_is.0 named accepted there_is.1 same closed made)
          ∙ ap (take_event e) (view-same closed made)

      pub turn-keeps : (closed : Bool) (made : ℕ) → IsKept w closed made rows members → IsKept w' closed made rows3 members2
      turn-keeps closed made was =
          subst (λ (v : World). IsKept v closed made rows3 members2) (sym world_is)
          (subst (λ (l : Rows). IsKept after_it closed made l members2) (sym passed)
          (passed-kept after_it rows2 members2 closed made
          (peer-kept e w rows members1 made0 kept1 name p there_is.0 named accepted there_is.1 same rows2 members2 done closed made
          (more-kept p (there_is.0.sessions + 1) members members1 own_more w rows closed made few-now was).counted)))

-- ---- the members of a vector, as a slice

pub whole-again : {T : Type 0} (len : ℕ) (new old : List T) → length new ≡ length old → length old ≡ len → take len (new ++ drop (length new) old) ≡ new
whole-again zero [] [] e f = refl
whole-again (suc len) [] [] e f = absurd (omega (arith, f))
whole-again len [] (y ∷ old) e f = absurd (omega (arith, e))
whole-again len (x ∷ new) [] e f = absurd (omega (arith, e))
whole-again zero (x ∷ new) (y ∷ old) e f = absurd (omega (arith, f))
whole-again {T} (suc len) (x ∷ new) (y ∷ old) e f = ap (λ (l : List T). x ∷ l) (whole-again len new old (omega (arith, e)) (omega (arith, f)))
