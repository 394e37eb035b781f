-- An event, as the machine's definitions take it: where it is about a peer it is that one's turn, and else nobody turns.
use Rattle.std.proofs.Common.{◌≡◌, ℕ, ◌+◌, inl, inr, Bool, true, false, List, [], ◌∷◌, slice_get, Option, Some, None, is_some, refl, sym, ap, subst, ◌∙◌, arith}
use Rattle.std.specs.Prelude.{◌==◌, ◌&&◌, ◌||◌, not, is_none, if◌then◌else◌}
use Rattle.std.specs.List.{sum_by}
use Rattle.std.specs.Option.{option_map}
use Rattle.std.proofs.lemmas.Bool.{cases_eq, eq-eqb}
use Rattle.std.proofs.lemmas.List.Sums.{sum_by-cons}
use Rattle.ug_types.specs.Bytes.{same_bytes}
use Rattle.ug_outbound.specs.declared.key.GroupKey.{GroupKey}
use Rattle.ug_events.specs.Events.{Happening, ComesUp, GoesDown, HasPaths, HasNone, HasPolicy, HasEntries, AsksAgain, SendsRequest, SendsList}
use Rattle.ug_world.specs.declared.peer_state.PeerState.{PeerState}
use Rattle.ug_world.specs.World.{World, key_in}
use Rattle.ug_world.specs.Verdicts.{verdict}
use Rattle.ug_world.specs.After.{after}
use Rattle.ug_world.specs.Touches.{is_about}
use Rattle.ug_speaker.specs.Speech.{is_request}
use Rattle.ug_speaker.proofs.Bools.{both}
use Rattle.ug_group_rules.specs.Packets.{same_group}
use Rattle.ug_group_rules.specs.Machine.{Seat, System, Subgroup, seat_at, Turn, Leaves, Starts, Asks, Rekeys, Stays, turn_of, with_turn, turned, with_turns, with_counts, take_event, leave}
use Rattle.ug_group_rules.specs.Evaluations.{has_key, live_keys, all_heeded, paths_touched, evaluations, evaluations_for}
use Rattle.ug_group_rules.proofs.Keys.{laws, or-so}
use Rattle.ug_group_rules.proofs.OneTurned.{turned-alone}
use Rattle.ug_groups.specs.Rows.{Row, Rows, row_at, any_at, keys_in}
use Rattle.ug_groups.specs.Entered.{asking, entering, retabled_row}
use Rattle.ug_groups.specs.declared.member.Member.{Member}
use Rattle.ug_groups.specs.Members.{seat_in, system, sub_at}
use Rattle.ug_groups.specs.Kept.{IsKept, AreCounted}
use Rattle.ug_groups.specs.Turns.{named_by, turn_within, turn_by, turn_at, is_of_key, asked_by, Remains, IsTurned}
use Rattle.ug_groups.proofs.ListFacts.{some-same}
use Rattle.ug_groups.proofs.RowsAt.{each-at}
use Rattle.ug_groups.proofs.Seats.{sits-sub}
use Rattle.ug_groups.proofs.TurnKept.{seat-view, subs-at}
use Rattle.ug_groups.proofs.TurnOthers.{besides-turn, besides-turned, besides-seat}
use Rattle.ug_groups.proofs.TurnNone.{none-turned}
use Rattle.ug_groups.proofs.EvaluatedTurns.{HasFew, few-turn, few-none, has-joined, has-rekeyed, has-asked, evaluates-one, evaluates-none, live-counted}
use Rattle.ug_groups.proofs.TakeNames.{about-is, about-none, touches-none, came-down, named-first, distinct-of, peer_then, then-here, then-there, then-all, about-other}
use Rattle.ug_groups.proofs.TakeEntered.{key-after, entered, entered-view, keys-entered, counted-entered}

-- ---- which turn it is, by five tests

abbrev turn_of_five : Bool → Bool → Bool → Bool → Bool → Turn
turn_of_five up same none asks alike = if not up then Leaves else if not same then Starts else if none then Leaves else if asks then Asks else if not alike then Rekeys else Stays

within-is : (none asks alike : Bool) → turn_of_five true true none asks alike ≡ turn_within (not none) asks alike
within-is true true true = refl
within-is true true false = refl
within-is true false true = refl
within-is true false false = refl
within-is false true true = refl
within-is false true false = refl
within-is false false true = refl
within-is false false false = refl

module _ (e : Happening) (w : World) (p : ℕ) (s : PeerState) (rows : Rows) (sub : Option ℕ) (seat : Option Seat) (seat_is : seat ≡ option_map (seat_in rows p) sub) (down : s.up ≡ false → sub ≡ None) where
  abbrev after_it : World
  after_it = after w e

  abbrev s' : PeerState
  s' = peer_then e s

  abbrev key : GroupKey
  key = key_in after_it s'

  goes_on : (asks : Bool) → (is_request e && is_about e s') ≡ asks → s'.up ≡ s.up → s'.sessions ≡ s.sessions → ((g : ℕ) → sub ≡ Some g → is_of_key key rows (Some g) ≡ same_group (key_in w s) key)
      → turn_of e w after_it s s' seat ≡ turn_within (is_some sub) asks (is_of_key key rows sub)
  goes_on asks asks_is up sessions keyed = by s.up refl
    where
      alike : Bool
      alike = same_group (key_in w s) key

      with_seat : (o : Option ℕ) → sub ≡ o → turn_of_five true true (is_none (option_map (seat_in rows p) o)) asks (same_group (key_in w s) key) ≡ turn_within (is_some o) asks (is_of_key key rows o)
      with_seat None at = within-is true asks (same_group (key_in w s) key) ∙ same (same_group (key_in w s) key) asks
        where
          same : (b a : Bool) → turn_within false a b ≡ turn_within false a (is_of_key key rows None)
          same b a = refl
      with_seat (Some g) at = within-is false asks (same_group (key_in w s) key) ∙ ap (λ (b : Bool). turn_within true asks b) (sym (keyed g at))

      by : (b : Bool) → s.up ≡ b → turn_of e w after_it s s' seat ≡ turn_within (is_some sub) asks (is_of_key key rows sub)
      by true is =
          let session : (s.up && (s.sessions == s'.sessions)) ≡ true = both s.up (s.sessions == s'.sessions) is (eq-eqb s.sessions s'.sessions (sym sessions)) in
          ap (λ (x : Bool). turn_of_five x (s.up && (s.sessions == s'.sessions)) (is_none seat) (is_request e && is_about e s') (same_group (key_in w s) key)) (up ∙ is)
          ∙ ap (λ (x : Bool). turn_of_five true x (is_none seat) (is_request e && is_about e s') (same_group (key_in w s) key)) session
          ∙ ap (λ (x : Bool). turn_of_five true true (is_none seat) x (same_group (key_in w s) key)) asks_is
          ∙ ap (λ (o : Option Seat). turn_of_five true true (is_none o) asks (same_group (key_in w s) key)) seat_is
          ∙ with_seat sub refl
      by false is =
          ap (λ (x : Bool). turn_of_five x (s.up && (s.sessions == s'.sessions)) (is_none seat) (is_request e && is_about e s') (same_group (key_in w s) key)) (up ∙ is)
          ∙ sym (ap (λ (o : Option ℕ). turn_within (is_some o) asks (is_of_key key rows o)) (down is))

-- it is the one that the event says
pub turn-is : (e : Happening) (name : List ℕ) (w : World) (p : ℕ) (s : PeerState) (rows : Rows) (sub : Option ℕ) (seat : Option Seat) → named_by e ≡ Some name → same_bytes s.peer.name name ≡ true → seat ≡ option_map (seat_in rows p) sub
    → (s.up ≡ false → sub ≡ None) → ((n : List ℕ) → e ≡ ComesUp n → s.up ≡ false)
    → ((g : ℕ) → sub ≡ Some g → is_of_key (key_in (after w e) (peer_then e s)) rows (Some g) ≡ same_group (key_in w s) (key_in (after w e) (peer_then e s)))
    → turn_of e w (after w e) s (peer_then e s) seat ≡ turn_by e (is_some sub) (is_of_key (key_in (after w e) (peer_then e s)) rows sub)
turn-is (ComesUp n) name w p s rows sub seat named same seat_is down came keyed =
    ap (λ (x : Bool). turn_of_five true (x && (s.sessions == (s.sessions + 1))) (is_none seat) false (same_group (key_in w s) (key_in (after w (ComesUp n)) (peer_then (ComesUp n) s)))) (came n refl)
turn-is (GoesDown n) name w p s rows sub seat named same seat_is down came keyed = refl
turn-is (HasPaths prefix paths) name w p s rows sub seat named same seat_is down came keyed = absurd cc
turn-is (HasNone prefix) name w p s rows sub seat named same seat_is down came keyed = absurd cc
turn-is (HasPolicy n policy) name w p s rows sub seat named same seat_is down came keyed = goes_on (HasPolicy n policy) w p s rows sub seat seat_is down false refl refl refl keyed
turn-is (HasEntries n entries) name w p s rows sub seat named same seat_is down came keyed = absurd cc
turn-is (AsksAgain n) name w p s rows sub seat named same seat_is down came keyed =
    goes_on (AsksAgain n) w p s rows sub seat seat_is down true (about-is (AsksAgain n) name s named ∙ same) refl refl keyed
turn-is (SendsRequest n) name w p s rows sub seat named same seat_is down came keyed =
    goes_on (SendsRequest n) w p s rows sub seat seat_is down true (about-is (SendsRequest n) name s named ∙ same) refl refl keyed
turn-is (SendsList n request) name w p s rows sub seat named same seat_is down came keyed =
    goes_on (SendsList n request) w p s rows sub seat seat_is down request.now (ap (λ (b : Bool). request.now && b) (about-is (SendsList n request) name s named ∙ same) ∙ and_true request.now) refl refl keyed
  where
    and_true : (b : Bool) → (b && true) ≡ b
    and_true true = refl
    and_true false = refl

-- who isn't up has left
pub up-there : (e : Happening) (w : World) (s s' : PeerState) (seat : Option Seat) → Remains (turn_of e w (after w e) s s' seat) → s'.up ≡ true
up-there e w s s' seat remains = by s'.up refl
  where
    by : (b : Bool) → s'.up ≡ b → b ≡ true
    by true is = refl
    by false is =
        absurd
        (subst (λ (x : Bool). Remains (turn_of_five x (s.up && (s.sessions == s'.sessions)) (is_none seat) (is_request e && is_about e s') (same_group (key_in w s) (key_in (after w e) s')))) is remains)

-- who gets a subgroup of its own sits in one
abbrev pub Owns : Turn → Type 0
Owns Leaves = ⊥
Owns Starts = ⊥
Owns Asks = Unit {0}
Owns Rekeys = Unit {0}
Owns Stays = ⊥

pub owns-sits : (e : Happening) (same : Bool) → Owns (turn_by e false same) → ⊥
owns-sits (ComesUp n) same owns = owns
owns-sits (GoesDown n) same owns = owns
owns-sits (HasPaths prefix paths) same owns = owns
owns-sits (HasNone prefix) same owns = owns
owns-sits (HasPolicy n policy) same owns = owns
owns-sits (HasEntries n entries) same owns = owns
owns-sits (AsksAgain n) same owns = owns
owns-sits (SendsRequest n) same owns = owns
owns-sits (SendsList n request) same owns = owns

-- ---- where an event finds the machine

no-and : (b : Bool) → (b && false) ≡ false
no-and true = refl
no-and false = refl

module _ (e : Happening) (w : World) (rows : Rows) (members : List Member) (made0 : ℕ) (kept : IsKept w false made0 rows members) where
  abbrev w1 : World
  w1 = after w e

  abbrev rows1 : Rows
  rows1 = entered w1 rows members

  abbrev before : Bool → ℕ → System
  before closed made = system w closed made rows members

  abbrev entry : Bool → ℕ → System
  entry closed made = system w1 closed made rows1 members

  -- who is down sits nowhere
  down-none : (i : ℕ) (t : PeerState) → slice_get w.peers i ≡ Some t → t.up ≡ false → sub_at i members ≡ None
  down-none i t at down = by (sub_at i members) refl
    where
      by : (o : Option ℕ) → sub_at i members ≡ o → o ≡ None
      by None sits = refl
      by (Some g) sits =
          let row = sits-sub rows members i g sits kept.seated in
          let up = (kept.own i g t row.0 at sits row.1).up in
          absurd (let both_so : false ≡ true = sym down ∙ up in cc)

  down-seat : (closed : Bool) (made i : ℕ) (t : PeerState) → slice_get w.peers i ≡ Some t → t.up ≡ false → seat_at i (entry closed made) ≡ None
  down-seat closed made i t at down = seat-view i w1 closed made rows1 members ∙ ap (option_map (seat_in rows1 i)) (down-none i t at down)

  taken-by : (closed : Bool) (made : ℕ) (new : System) → with_turns e w 0 w1.peers (entry closed made) ≡ new → take_event e (before closed made) ≡ with_counts new
  taken-by closed made new turns = ap (λ (st : System). with_counts (with_turns e w 0 w1.peers st)) (sym (entered-view w1 rows members w closed made)) ∙ ap with_counts turns

  keys-then : keys_in rows1 ≡ keys_in rows
  keys-then = keys-entered w1 rows members

  -- ---- an event that is about no peer

  module _ (none : named_by e ≡ None) where
    pub routes-taken : (closed : Bool) (made : ℕ) → take_event e (before closed made) ≡ with_counts (entry closed made)
    routes-taken closed made =
        taken-by closed made (entry closed made)
        (none-turned e w (entry closed made)
        (λ i t at. sym (then-all e w none i) ∙ at)
        (λ i t at down. down-seat closed made i t (sym (then-all e w none i) ∙ at) down)
        (λ i t at. ap (λ (b : Bool). is_request e && b) (about-none e t none) ∙ no-and (is_request e))
        (key-after e w))

    known : (f g : GroupKey → ℕ) (all keys : List GroupKey) → ((k : GroupKey) → has_key keys k ≡ true → has_key all k ≡ true) → ((k : GroupKey) → has_key all k ≡ true → f k ≡ g k) → sum_by f keys ≡ sum_by g keys
    known f g all [] sub same = refl
    known f g all (k ∷ keys) sub same =
        let here : f k ≡ g k = same k (sub k (ap (λ (b : Bool). b || has_key keys k) (laws.refl k))) in
        let rest : sum_by f keys ≡ sum_by g keys = known f g all keys (λ j is. sub j (or-so (same_group j k) (has_key keys j) is)) same in
        let one = sum_by-cons f k keys in let two = sum_by-cons g k keys in omega (arith, here, rest, one, two)

    pub routes-evaluated : (closed : Bool) (made : ℕ) → evaluations e (before closed made) ≡ entering e w rows
    routes-evaluated closed made =
        ap (λ (t : System). sum_by (evaluations_for e (keys_in rows) t.world) (live_keys t)) (routes-taken closed made)
        ∙ ap (sum_by (evaluations_for e (keys_in rows) w1)) (live-counted (entry closed made) ∙ keys-then)
        ∙ known (evaluations_for e (keys_in rows) w1) (λ (key : GroupKey). paths_touched e key w1) (keys_in rows) (keys_in rows) (λ k is. is)
        (λ k is. ap (λ (b : Bool). if b then paths_touched e k w1 else all_heeded k.add_path w1.routes) is)

  -- ---- an event about a peer

  module _ (name : List ℕ) (p : ℕ) (s : PeerState) (named : named_by e ≡ Some name) (accepted : verdict w e ≡ None) (is : slice_get w.peers p ≡ Some s) (same : same_bytes s.peer.name name ≡ true) where
    abbrev now : PeerState
    now = peer_then e s

    abbrev own_key : GroupKey
    own_key = key_in w1 now

    abbrev turn : Turn
    turn = turn_at e p own_key rows1 members

    pub now-is : slice_get w1.peers p ≡ Some now
    now-is = then-here e name w p s named kept.peers is same

    pub came : (n : List ℕ) → e ≡ ComesUp n → s.up ≡ false
    came n at =
        let name_is : Some n ≡ Some name = sym (ap named_by at) ∙ named in
        came-down n w s (named-first w.peers n p s (distinct-of w.peers kept.peers) is (ap (same_bytes s.peer.name) (first-is n name name_is) ∙ same)) (ap (λ (h : Happening). verdict w h) (sym at) ∙ accepted)
      where
        first-is : (a b : List ℕ) → Some a ≡ Some b → a ≡ b
        first-is a b k = cc

    -- the row in which it sits
    own-row : (g : ℕ) → sub_at p members ≡ Some g → (r : Row) × (row_at g rows ≡ Some r) × (r.sub.key ≡ key_in w s)
    own-row g sits =
        let row = sits-sub rows members p g sits kept.seated in
        (row.0, row.1, (kept.own p g s row.0 is sits row.1).key)

    own-then : (g : ℕ) → sub_at p members ≡ Some g → (r : Row) × (row_at g rows1 ≡ Some r) × (r.sub.key ≡ key_in w s)
    own-then g sits =
        let row = own-row g sits in
        (retabled_row w1 row.0, each-at g (retabled_row w1) rows ∙ ap (option_map (retabled_row w1)) row.1, row.2)

    pub keyed : (g : ℕ) → sub_at p members ≡ Some g → is_of_key own_key rows1 (Some g) ≡ same_group (key_in w s) own_key
    keyed g sits =
        let row = own-then g sits in
        ap (any_at (λ (r : Row). same_group r.sub.key own_key)) row.1 ∙ ap (λ (k : GroupKey). same_group k own_key) row.2

    turn-now : (closed : Bool) (made : ℕ) → turn_of e w w1 s now (seat_at p (entry closed made)) ≡ turn
    turn-now closed made =
        turn-is e name w p s rows1 (sub_at p members) (seat_at p (entry closed made)) named same (seat-view p w1 closed made rows1 members) (down-none p s is) came keyed

    pub peer-taken : (closed : Bool) (made : ℕ) → take_event e (before closed made) ≡ with_counts (with_turn turn p own_key (entry closed made))
    peer-taken closed made =
        let state = entry closed made in
        let new = turned e w p (slice_get w.peers p) now state in
        let besides = besides-turned e w p (slice_get w.peers p) now state in
        taken-by closed made (with_turn turn p own_key state)
        (turned-alone e w p state new now now-is
        (λ i t differs at. sym (then-there e name w p s named kept.peers is same i differs) ∙ at)
        (λ i t differs at down. down-seat closed made i t (sym (then-there e name w p s named kept.peers is same i differs) ∙ at) down)
        (λ i t differs at.
        ap (λ (b : Bool). is_request e && b) (about-other e name w p s named kept.peers is same i t differs (sym (then-there e name w p s named kept.peers is same i differs) ∙ at))
        ∙ no-and (is_request e))
        (key-after e w) refl besides.0 (λ q differs. besides-seat p state new besides q differs)
        ∙ ap (λ (o : Option PeerState). turned e w p o now state) is
        ∙ ap (λ (t : Turn). with_turn t p own_key state) (turn-now closed made))

    -- what it evaluates
    owned : (closed : Bool) (made : ℕ) (o : Option ℕ) → sub_at p members ≡ o → Owns (turn_by e (is_some o) (is_of_key own_key rows1 o))
        → (u : Seat) × (x : Subgroup) × (seat_at p (entry closed made) ≡ Some u) × (slice_get (entry closed made).subgroups u.sub ≡ Some (Some x))
    owned closed made None at owns = absurd (owns-sits e false owns)
    owned closed made (Some g) at owns =
        let row = own-then g at in
        (seat_in rows1 p g, row.0.sub, seat-view p w1 closed made rows1 members ∙ ap (option_map (seat_in rows1 p)) at, subs-at rows1 g row.0 row.1)

    few-back : (k : GroupKey) → has_key (keys_in rows1) k ≡ true → has_key (keys_in rows) k ≡ true
    few-back k it = ap (λ (ks : List GroupKey). has_key ks k) (sym keys-then) ∙ it

    few-before : (closed : Bool) (made : ℕ) (t : System) → HasFew own_key (entry closed made) t → HasFew own_key (before closed made) t
    few-before closed made t few g x at = elim (few g x at) [
      | inl it ↦ inl (few-back x.key it)
      | inr it ↦ inr it
    ]

    asked-is : (if has_key (keys_in rows) own_key then 0 else all_heeded own_key.add_path w1.routes) ≡ asking w1 rows1 own_key
    asked-is = ap (λ (ks : List GroupKey). if has_key ks own_key then 0 else all_heeded own_key.add_path w1.routes) (sym keys-then)

    evaluated-by : (closed : Bool) (made : ℕ) (t : Turn) → take_event e (before closed made) ≡ with_counts (with_turn t p own_key (entry closed made))
        → (Owns t → (u : Seat) × (x : Subgroup) × (seat_at p (entry closed made) ≡ Some u) × (slice_get (entry closed made).subgroups u.sub ≡ Some (Some x)))
        → evaluations e (before closed made) ≡ asked_by t w1 rows1 own_key
    evaluated-by closed made Leaves taken owns =
        evaluates-none e (before closed made) (with_turn Leaves p own_key (entry closed made)) w1 taken (besides-turn Leaves p own_key (entry closed made)).0 (touches-none e name named)
        (λ k it. few-back k (few-none p own_key (entry closed made) k it))
    evaluated-by closed made Starts taken owns =
        evaluates-one e (before closed made) (with_turn Starts p own_key (entry closed made)) w1 taken (besides-turn Starts p own_key (entry closed made)).0 (touches-none e name named)
        own_key (few-before closed made (with_turn Starts p own_key (entry closed made)) (few-turn Starts p own_key (entry closed made))) (has-joined own_key p (leave p (seat_at p (entry closed made)) (entry closed made)))
        ∙ asked-is
    evaluated-by closed made Asks taken owns =
        let own = owns tt in
        evaluates-one e (before closed made) (with_turn Asks p own_key (entry closed made)) w1 taken (besides-turn Asks p own_key (entry closed made)).0 (touches-none e name named)
        own_key (few-before closed made (with_turn Asks p own_key (entry closed made)) (few-turn Asks p own_key (entry closed made))) (has-asked p (entry closed made) own.0 own.1 own.2 own.3 own_key)
        ∙ asked-is
    evaluated-by closed made Rekeys taken owns =
        let own = owns tt in
        evaluates-one e (before closed made) (with_turn Rekeys p own_key (entry closed made)) w1 taken (besides-turn Rekeys p own_key (entry closed made)).0 (touches-none e name named)
        own_key (few-before closed made (with_turn Rekeys p own_key (entry closed made)) (few-turn Rekeys p own_key (entry closed made))) (has-rekeyed p (entry closed made) own.0 own.1 own.2 own.3 own_key)
        ∙ asked-is
    evaluated-by closed made Stays taken owns =
        evaluates-none e (before closed made) (with_turn Stays p own_key (entry closed made)) w1 taken refl (touches-none e name named) few-back

    pub peer-evaluated : (closed : Bool) (made : ℕ) → evaluations e (before closed made) ≡ asked_by turn w1 rows1 own_key
    peer-evaluated closed made = evaluated-by closed made turn (peer-taken closed made) (owned closed made (sub_at p members) refl)

    -- what is kept when it had its turn
    pub peer-kept : (rows2 : Rows) (members2 : List Member) → IsTurned turn p own_key w1 rows1 members rows2 members2 → (closed : Bool) (made : ℕ) → AreCounted made rows members → IsKept w1 closed made rows2 members2
    peer-kept rows2 members2 done closed made counts = record {
      good = done.beside.good;
      peers = done.beside.peers;
      all = λ open_. done.beside.all;
      within = let all = done.beside.all in omega arith;
      seated = done.beside.seated;
      inhabited = done.beside.inhabited;
      tabled = done.beside.tabled;
      own = λ q g t r peer sits at. elim (cases_eq q p) [
        | inl here ↦
            let sits_p : sub_at p members2 ≡ Some g = ap (λ (k : ℕ). sub_at k members2) (sym here) ∙ sits in
            let t_is : now ≡ t = some-same now t (sym now-is ∙ ap (λ (k : ℕ). slice_get w1.peers k) (sym here) ∙ peer) in
            let up : now.up ≡ true = up-there e w s now (seat_at p (entry closed made)) (subst (λ (x : Turn). Remains x) (sym (turn-now closed made)) (done.remains g sits_p)) in
            record { up = ap (λ (x : PeerState). x.up) (sym t_is) ∙ up; key = done.own g r sits_p at ∙ ap (λ (x : PeerState). key_in w1 x) t_is }
        | inr differs ↦ done.beside.own q g t r differs peer sits at
      ];
      room = done.beside.room;
      counted = done.counted made (counted-entered w1 rows members made counts);
    }
