-- What each peer should have, after one event more, and after all.
use Rattle.std.proofs.Common.{◌≡◌, ℕ, zero, suc, ◌+◌, ◌<◌, ◌≤◌, ◌⊎◌, inl, inr, Bool, true, false, List, [], ◌∷◌, ◌++◌, length, map, slice_get, Option, Some, None, refl, sym, ◌∙◌, ap, subst, arith, append_assoc, length-append}
use Rattle.std.specs.Global.{Vec}
use Rattle.std.specs.Option.{option_map}
use Rattle.std.specs.Vec.{with_items}
use Rattle.std.proofs.Common as vectors
use Rattle.std.proofs.lemmas.List.{append-nil, length-map, with_items_is}
use Rattle.std.proofs.lemmas.Option.{slice_get-map}
use Rattle.ug_types.specs.declared.key.Key.{Key}
use Rattle.ug_message.specs.Tables.{Table}
use Rattle.ug_message.specs.Climbing.{values_at}
use Rattle.ug_hearing.specs.Pasts.{Value}
use Rattle.ug_hearing.specs.Courses.{changes_of}
use Rattle.ug_hearing.specs.Logs.{IsLog}
use Rattle.ug_types.specs.declared.route.PeerEnds.{PeerEnds}
use Rattle.ug_outbound.specs.declared.peer.Peer.{Peer}
use Rattle.ug_outbound.specs.Keys.{ends_of}
use Rattle.ug_events.specs.Events.{Happening, Saying}
use Rattle.ug_events.specs.Reads.{Reads}
use Rattle.ug_world.specs.declared.peer_state.PeerState.{PeerState}
use Rattle.ug_world.specs.World.{World}
use Rattle.ug_world.specs.Verdicts.{verdict}
use Rattle.ug_world.specs.After.{after}
use Rattle.ug_world.specs.Private.{private_table}
use Rattle.ug_world.specs.Worlds.{outcome, world_after, where_accepted, accepted_worlds, worlds, last_world}
use Rattle.ug_world.proofs.Keeping.{down}
use Rattle.ug_speaker.proofs.Peers.{peer_after, peers-after}
use Rattle.ug_audit_rules.specs.declared.group.Group.{Group}
use Rattle.ug_audit_rules.specs.declared.seat.Seat.{Seat}
use Rattle.ug_audit_rules.specs.declared.touched.Touched.{Touched}
use Rattle.ug_audit_rules.specs.declared.history.History.{History}
use Rattle.ug_audit_rules.specs.declared.timeline.Timeline.{Timeline}
use Rattle.ug_audit_rules.specs.declared.timelines.Timelines.{Timelines}
use Rattle.ug_audit_rules.specs.declared.since.Since.{Since}
use Rattle.ug_audit_rules.specs.Held.{held, last_held, IsRising}
use Rattle.ug_audit_rules.specs.GroupLogs.{Outs, Entries, changes_in}
use Rattle.ug_audit_rules.specs.Touched.{keys_touched}
use Rattle.ug_audit_rules.specs.Timelines.{IsFirst, IsSpan, end_of, IsTimeline, HasSessions}
use Rattle.ug_audit_rules.specs.Merges.{told_if, IsTold}
use Rattle.ug_audit_rules.specs.Seats.{IsNew, outs_in, outs_at, log_at, IsSharing, IsSeatOf, AreGroups}
use Rattle.ug_audit_rules.specs.Histories.{IsHistory, AreTimelines, AreNotedFor, IsTurnedIf, AreTurnedFrom, AreTurned, AreNew}
use Rattle.ug_audit_rules.proofs.Coming.{as-many, version-after, some_there}
use Rattle.ug_audit_rules.proofs.Replayed.{before, sessions_begin}
use Rattle.ug_audit_rules.proofs.GroupTables.{same-one, which-world, world-last, get-inside, Follows, Keeps, groups-go-on, groups-follow, longer-keeps, longer-groups, keeps-follow, keeps-on}
use Rattle.ug_audit_rules.proofs.MergedKeys.{log-there}
use Rattle.ug_audit_rules.proofs.SeatSteps.{seat-goes-on, seat-kept}

plus_zero : (p : ℕ) → p + 0 ≡ p
plus_zero p = omega arith

zero_plus : (p : ℕ) → 0 + p ≡ p
zero_plus p = omega arith

plus_suc : (p i : ℕ) → p + suc i ≡ p + 1 + i
plus_suc p i = omega arith

-- ---- all seats

module _ (e : Happening) (ws : List World) (w w' : World) (starts : List Group) (accepted : verdict w e ≡ None) (led : w' ≡ after w e) (version : w'.version ≡ length ws) (some : 0 < length ws)
    (last : slice_get (ws ++ w' ∷ []) (length ws) ≡ Some w') where
  record AreOn (p : ℕ) (groups groups' : List Group) (news : List Seat) : Type 0 where
    tells : AreGroups (ws ++ w' ∷ []) groups'
    keeps : Keeps groups groups'
    seats : (i : ℕ) (seat : Seat) → slice_get news i ≡ Some seat → IsSeatOf (p + i) (ws ++ w' ∷ []) w' groups' seat

  seats-go-on : (p : ℕ) (groups groups' : List Group) (olds news : List Seat) → AreTurnedFrom p w' e groups groups' olds news → AreGroups (ws ++ w' ∷ []) groups → Follows (length ws) starts groups
      → ((i : ℕ) (seat : Seat) → slice_get olds i ≡ Some seat → IsSeatOf (p + i) ws w starts seat) → AreOn p groups groups' news
  seats-go-on p groups groups' [] [] h tells follows each = record {
    tells = subst (λ (gs : List Group). AreGroups (ws ++ w' ∷ []) gs) (sym h) tells;
    keeps = λ g old is. ap (λ (gs : List Group). slice_get gs g) h ∙ is;
    seats = λ i seat is. absurd cc;
  }
  seats-go-on p groups groups' [] (new ∷ news) h tells follows each = absurd h
  seats-go-on p groups groups' (old ∷ olds) [] h tells follows each = absurd h
  seats-go-on p groups groups' (old ∷ olds) (new ∷ news) h tells follows each =
      let mid = h.0 in
      let keeps = longer-keeps w' groups mid h.1 in
      let now = longer-groups ws w' groups mid some version h.1 tells in
      let follow = keeps-follow (length ws) starts groups mid follows keeps in
      let was = subst (λ (k : ℕ). IsSeatOf k ws w starts old) (plus_zero p) (each 0 old refl) in
      let s' = peer_after e was.by.state in
      let later : slice_get w'.peers p ≡ Some s' = ap (λ (x : World). slice_get x.peers p) led ∙ (peers-after e w p ∙ ap (option_map (peer_after e)) was.by.there) in
      let turned = subst (λ (o : Option PeerState). IsTurnedIf w' e mid o old new) later h.2 in
      let first = seat-goes-on e p ws w w' s' starts mid old new accepted led version last later was follow now turned in
      let rest = seats-go-on (p + 1) mid groups' olds news h.3 now follow (λ i seat is. subst (λ (k : ℕ). IsSeatOf k ws w starts seat) (plus_suc p i) (each (suc i) seat is)) in
      record {
        tells = rest.tells;
        keeps = keeps-on groups mid groups' keeps rest.keeps;
        seats = at mid first rest;
      }
    where
      at : (mid : List Group) → IsSeatOf p (ws ++ w' ∷ []) w' mid new → AreOn (p + 1) mid groups' news → (i : ℕ) (seat : Seat) → slice_get (new ∷ news) i ≡ Some seat → IsSeatOf (p + i) (ws ++ w' ∷ []) w' groups' seat
      at mid first rest zero seat is =
          subst (λ (x : Seat). IsSeatOf (p + 0) (ws ++ w' ∷ []) w' groups' x) (same-one new seat is)
          (subst (λ (k : ℕ). IsSeatOf k (ws ++ w' ∷ []) w' groups' new) (sym (plus_zero p)) (seat-kept p (ws ++ w' ∷ []) w' mid groups' new rest.keeps first))
      at mid first rest (suc i) seat is = subst (λ (k : ℕ). IsSeatOf k (ws ++ w' ∷ []) w' groups' seat) (sym (plus_suc p i)) (rest.seats i seat is)

pub as_many_seats : (p : ℕ) (w : World) (e : Happening) (groups groups' : List Group) (olds news : List Seat) → AreTurnedFrom p w e groups groups' olds news → length news ≡ length olds
as_many_seats p w e groups groups' [] [] h = refl
as_many_seats p w e groups groups' [] (new ∷ news) h = absurd h
as_many_seats p w e groups groups' (old ∷ olds) [] h = absurd h
as_many_seats p w e groups groups' (old ∷ olds) (new ∷ news) h = ap suc (as_many_seats (p + 1) w e h.0 groups' olds news h.3)

pub as_many_groups : (w : World) (touched : Touched) (olds news : List Group) → AreNotedFor w touched olds news → length news ≡ length olds
as_many_groups w touched [] [] h = refl
as_many_groups w touched [] (new ∷ news) h = absurd h
as_many_groups w touched (old ∷ olds) [] h = absurd h
as_many_groups w touched (old ∷ olds) (new ∷ news) h = ap suc (as_many_groups w touched olds news h.1)

-- other items in the same memory
pub items-are : {X Z : Type 0} (v : vectors.Vec X Z) (items : List X) → length items ≡ length v.items → (with_items v items).items ≡ items
items-are v items same = with_items_is v items (let size = v.ok.0 in omega (arith, same, size))

pub history-goes-on : (e : Happening) (ws : List World) (w w' : World) (touched : Touched) (mids : List Group) (old new : History) → verdict w e ≡ None → w' ≡ after w e
    → touched.plain.items ≡ keys_touched e false w' ++ keys_touched e false w → touched.own.items ≡ keys_touched e true w' ++ keys_touched e true w
    → AreNotedFor w' touched old.groups.items mids → AreTurned w' e mids new.groups.items old.seats.items new.seats.items → IsHistory ws w old → IsHistory (ws ++ w' ∷ []) w' new
history-goes-on e ws w w' touched mids old new accepted led plain own noted turned h =
    let size = ap (λ (xs : List World). length xs) h.parts ∙ length-append h.front (w ∷ []) in
    let some : 0 < length ws = omega arith in
    let version : w'.version ≡ length ws = (let v = ap (λ (x : World). x.version) led ∙ version-after e w in let was = h.version in omega (arith, v, was, size)) in
    let tells = groups-go-on e ws h.front w w' touched h.parts led version plain own old.groups.items mids h.groups noted in
    let follows = groups-follow e ws h.front w w' touched h.parts led version plain own old.groups.items mids noted in
    let on = seats-go-on e ws w w' old.groups.items accepted led version some (world-last ws w') 0 mids new.groups.items old.seats.items new.seats.items turned tells follows
    (λ i seat is. subst (λ (k : ℕ). IsSeatOf k ws w old.groups.items seat) (sym (zero_plus i)) (h.seats i seat is)) in
    record {
      front = ws;
      parts = refl;
      version = version;
      many = as_many_seats 0 w' e mids new.groups.items old.seats.items new.seats.items turned ∙ (h.many ∙ sym (as-many e w w' led));
      groups = on.tells;
      seats = λ p seat is. subst (λ (k : ℕ). IsSeatOf k (ws ++ w' ∷ []) w' new.groups.items seat) (zero_plus p) (on.seats p seat is);
    }

-- ---- before all events

new_sharing : (p : ℕ) (first : World) (s : PeerState) (groups : List Group) (seat : Seat) → slice_get first.peers p ≡ Some s → s.up ≡ false → IsNew (ends_of s.peer) seat → IsSharing p (first ∷ []) first s groups seat
new_sharing p first s groups seat there is new = record {
  shown = λ v x q at. show v x q at;
  rising = subst (λ (xs : List (Since Bool)). IsRising 1 xs 1) (sym new.ups) (omega arith);
  now = ap (λ (xs : List (Since Bool)). last_held false xs) new.ups ∙ sym is;
  grouped = inl (new.group, new.ups);
  keyed = λ up. absurd (let clash = sym up ∙ is in cc);
}
  where
    show : (v : ℕ) (x : World) (q : Key) → slice_get (first ∷ []) v ≡ Some x → private_table p x q ≡ told_if seat.ends (held v false seat.ups.items) (held v None (outs_at groups seat.group q))
    show zero x q at =
        ap (λ (y : World). private_table p y q) (sym (same-one first x at)) ∙ (down first p s q there is
        ∙ sym (ap (λ (xs : List (Since Bool)). told_if seat.ends (held 0 false xs) (held 0 None (outs_at groups seat.group q))) new.ups))
    show (suc v) x q at = absurd cc

pub history-begins : (first : World) (h : History) → IsFirst first → h.groups.items ≡ [] → AreNew first.peers h.seats.items → IsHistory (first ∷ []) first h
history-begins first h is none new = record {
  front = [];
  parts = refl;
  version = is.version;
  many = new.many;
  groups = λ g group at. absurd (let clash : slice_get [] g ≡ Some group = ap (λ (gs : List Group). slice_get gs g) (sym none) ∙ at in cc);
  seats = λ p seat at. seat_begins p seat at;
}
  where
    seat_begins : (p : ℕ) (seat : Seat) → slice_get h.seats.items p ≡ Some seat → IsSeatOf p (first ∷ []) first h.groups.items seat
    seat_begins p seat at =
        let inside = get-inside h.seats.items p seat at in
        let many = new.many in
        let peer = some_there first.peers p (omega (arith, inside, many)) in
        let fresh = new.each p peer.0 seat peer.1 at in
        let up = is.down p peer.0 peer.1 in
        let by = sessions_begin p first seat.sessions peer.0 peer.1 is fresh.begun fresh.ended in
        let same = same-one by.state peer.0 (sym by.there ∙ peer.1) in
        record {
          by = by;
          ends = ap (λ (t : PeerState). ends_of t.peer) same ∙ sym fresh.ends_are;
          shares = λ so. subst (λ (t : PeerState). IsSharing p (first ∷ []) first t h.groups.items seat) (sym same) (new_sharing p first peer.0 h.groups.items seat peer.1 up fresh);
        }

pub new-added : (peers : List PeerState) (seats : List Seat) (new : Seat) (id : ℕ) (peer : Peer) (ends : PeerEnds) → length seats ≡ id → option_map (λ (s : PeerState). s.peer) (slice_get peers id) ≡ Some peer → ends ≡ ends_of peer → IsNew ends new
    → ((p : ℕ) (s : PeerState) (seat : Seat) → slice_get peers p ≡ Some s → slice_get seats p ≡ Some seat → IsNew (ends_of s.peer) seat)
    → (p : ℕ) (s : PeerState) (seat : Seat) → slice_get peers p ≡ Some s → slice_get (seats ++ new ∷ []) p ≡ Some seat → IsNew (ends_of s.peer) seat
new-added peers seats new id peer ends many at is fresh each p s seat there got = by (which-world seats new p seat got)
  where
    by : ((p < length seats) × (slice_get seats p ≡ Some seat)) ⊎ ((p ≡ length seats) × (seat ≡ new)) → IsNew (ends_of s.peer) seat
    by (inl early) = each p s seat there early.1
    by (inr last) =
        let here : slice_get peers id ≡ Some s = ap (λ (k : ℕ). slice_get peers k) (sym (last.0 ∙ many)) ∙ there in
        let same : s.peer ≡ peer = same-one s.peer peer (sym (ap (option_map (λ (t : PeerState). t.peer)) here) ∙ at) in
        subst (λ (x : Seat). IsNew (ends_of s.peer) x) (sym last.1) (subst (λ (e : PeerEnds). IsNew e new) (is ∙ ap ends_of (sym same)) fresh)

-- ---- all lines

-- These lines were passed of all, and these are left.
pub record IsNotedSoFar (first w : World) (h : History) (left all : List (Reads Saying)) : Type 0 where
  pub ws : List World
  pub at : IsHistory ws w h
  pub worlds_are : ws ++ accepted_worlds w left ≡ worlds first all
  pub last_is : last_world w left ≡ last_world first all

pub noting-begins : (first w : World) (h : History) (all : List (Reads Saying)) → IsFirst first → w ≡ first → h.groups.items ≡ [] → AreNew first.peers h.seats.items → IsNotedSoFar first w h all all
noting-begins first w h all is same none new =
    subst (λ (x : World). IsNotedSoFar first x h all all) (sym same) (record { ws = first ∷ []; at = history-begins first h is none new; worlds_are = refl; last_is = refl })

pub noting-goes-on : (first w w' : World) (h h' : History) (line : Reads Saying) (left more all : List (Reads Saying)) → left ≡ line ∷ more → w' ≡ world_after w (outcome w line)
    → ((ws : List World) → IsHistory ws w h → IsHistory (ws ++ where_accepted (outcome w line) []) w' h') → IsNotedSoFar first w h left all → IsNotedSoFar first w' h' more all
noting-goes-on first w w' h h' line left more all is led goes r = record {
  ws = r.ws ++ where_accepted (outcome w line) [];
  at = goes r.ws r.at;
  worlds_are = append_assoc r.ws (where_accepted (outcome w line) []) (accepted_worlds w' more)
      ∙ (ap (λ (xs : List World). r.ws ++ xs)
      (ap (λ (x : World). where_accepted (outcome w line) [] ++ accepted_worlds x more) led ∙ sym (before (outcome w line) (accepted_worlds (world_after w (outcome w line)) more)) ∙ sym (ap (accepted_worlds w) is))
      ∙ r.worlds_are);
  last_is = ap (λ (x : World). last_world x more) led ∙ (sym (ap (last_world w) is) ∙ r.last_is);
}

pub noting-last : (first w : World) (h : History) (left all : List (Reads Saying)) → left ≡ [] → IsNotedSoFar first w h left all → w ≡ last_world first all
noting-last first w h left all none r = sym (ap (last_world w) none) ∙ r.last_is

pub noting-ends : (first w : World) (h : History) (left all : List (Reads Saying)) → left ≡ [] → IsNotedSoFar first w h left all → IsHistory (worlds first all) (last_world first all) h
noting-ends first w h left all none r =
    let whole : r.ws ≡ worlds first all = sym (append-nil r.ws) ∙ (sym (ap (λ (ls : List (Reads Saying)). r.ws ++ accepted_worlds w ls) none) ∙ r.worlds_are) in
    subst (λ (x : World). IsHistory (worlds first all) x h) (noting-last first w h left all none r) (subst (λ (xs : List World). IsHistory xs w h) whole r.at)

-- ---- one peer

-- what the tables of some worlds have for a key
module _ (p : ℕ) (q : Key) where
  values_size : (ws : List World) → length (values_at q (map (private_table p) ws)) ≡ length ws
  values_size ws = length-map (map (private_table p) ws) (λ (t : Table). t q) ∙ length-map ws (private_table p)

  value_there : (ws : List World) (v : ℕ) (w : World) → slice_get ws v ≡ Some w → slice_get (values_at q (map (private_table p) ws)) v ≡ Some (private_table p w q)
  value_there ws v w is =
      slice_get-map (λ (t : Table). t q) (map (private_table p) ws) v ∙ ap (option_map (λ (t : Table). t q)) (slice_get-map (private_table p) ws v ∙ ap (option_map (private_table p)) is)

world_there : (ws : List World) (v : ℕ) → v < length ws → (w : World) × (slice_get ws v ≡ Some w)
world_there [] v less = absurd (omega arith)
world_there (w ∷ ws) zero less = (w, refl)
world_there (w ∷ ws) (suc v) less = world_there ws v (omega arith)

outs_rise : (ws : List World) (groups : List Group) (place : Option ℕ) (q : Key) → 0 < length ws → AreGroups ws groups → IsRising 1 (outs_at groups place q) (length ws)
outs_rise ws groups None q some h = omega arith
outs_rise ws groups (Some g) q some h = by (slice_get groups g) refl
  where
    by : (o : Option Group) → slice_get groups g ≡ o → IsRising 1 (outs_in q o) (length ws)
    by None is = omega arith
    by (Some group) is = (h g group is).rising q

-- what a peer should have is told by its changes
timeline_is : (p : ℕ) (ws : List World) (w : World) (h : History) (seat : Seat) (t : Timeline) → IsHistory ws w h → slice_get h.seats.items p ≡ Some seat → seat.shared ≡ true
    → ((q : Key) → IsTold seat.ends seat.ups.items (outs_at h.groups.items seat.group q) (changes_of t.changes q)) → t.begun.items ≡ seat.sessions.begun.items → t.ended.items ≡ seat.sessions.ended.items
    → IsTimeline p ws t × HasSessions p w t
timeline_is p ws w h seat t is there so told begun ended = (
  record {
    log = log_is;
    spans = subst (λ (es : List ℕ). (i from : ℕ) → slice_get t.begun.items i ≡ Some from → IsSpan p (suc i) ws from (end_of es i (length ws))) (sym ended)
        (subst (λ (bs : List ℕ). (i from : ℕ) → slice_get bs i ≡ Some from → IsSpan p (suc i) ws from (end_of seat.sessions.ended.items i (length ws))) (sym begun) of.by.spans);
  },
  λ s at. ap (λ (xs : List ℕ). length xs) begun ∙ (of.by.begun ∙ ap (λ (u : PeerState). u.sessions) (same-one of.by.state s (sym of.by.there ∙ at))),
)
  where
    of : IsSeatOf p ws w h.groups.items seat
    of = is.seats p seat there

    sharing : IsSharing p ws w of.by.state h.groups.items seat
    sharing = of.shares so

    some : 0 < length ws
    some = let size = ap (λ (xs : List World). length xs) is.parts ∙ length-append is.front (w ∷ []) in omega arith

    log_is : IsLog t.changes (map (private_table p) ws)
    log_is q =
        told q (values_at q (map (private_table p) ws)) (subst (λ (n : ℕ). IsRising 1 seat.ups.items n) (sym (values_size p q ws)) sharing.rising)
        (subst (λ (n : ℕ). IsRising 1 (outs_at h.groups.items seat.group q) n) (sym (values_size p q ws)) (outs_rise ws h.groups.items seat.group q some is.groups))
        (subst (λ (n : ℕ). 0 < n) (sym (values_size p q ws)) some, λ v less. at v (subst (λ (n : ℕ). v < n) (values_size p q ws) less))
      where
        at : (v : ℕ) → v < length ws → slice_get (values_at q (map (private_table p) ws)) v ≡ Some (told_if seat.ends (held v false seat.ups.items) (held v None (outs_at h.groups.items seat.group q)))
        at v less = let x = world_there ws v less in value_there p q ws v x.0 x.1 ∙ ap (λ (y : Value). Some y) (sharing.shown v x.0 q x.1)

-- So it is behind all events.
pub timeline-of : (p : ℕ) (ws : List World) (w : World) (ts : Timelines) (seat : Seat) (t : Timeline) → AreTimelines ws w ts → slice_get ts.seats.items p ≡ Some seat → seat.shared ≡ true
    → ((q : Key) → IsTold seat.ends seat.ups.items (changes_in (log_at ts.logs.items seat.group) q) (changes_of t.changes q)) → t.begun.items ≡ seat.sessions.begun.items → t.ended.items ≡ seat.sessions.ended.items
    → IsTimeline p ws t × HasSessions p w t
timeline-of p ws w ts seat t are there so told begun ended =
    timeline_is p ws w are.history seat t are.is (ap (λ (ss : Vec Seat). slice_get ss.items p) (sym are.seats_are) ∙ there) so
    (λ q. subst (λ (outs : Outs). IsTold seat.ends seat.ups.items outs (changes_of t.changes q)) (ap (λ (logs : List Entries). changes_in (log_at logs seat.group) q) are.logs_are ∙ log-there are.history.groups.items seat.group q) (told q)) begun ended
