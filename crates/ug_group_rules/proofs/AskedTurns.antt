-- An event keeps what a peer was announced since its request; and by a request all is coming.
use Rattle.std.proofs.Common.{◌≡◌, ℕ, ◌+◌, ◌<◌, ◌≤◌, inl, inr, suc, Bool, true, false, List, [], ◌∷◌, ◌++◌, length, map, slice_get, Some, refl, sym, ◌∙◌, ap, subst, arith}
use Rattle.std.specs.Prelude.{◌&&◌, ◌||◌}
use Rattle.std.specs.Option.{option_map}
use Rattle.std.proofs.lemmas.Bool.{cases_eq}
use Rattle.ug_types.specs.declared.route.PeerEnds.{PeerEnds}
use Rattle.ug_types.specs.Messages.{Message}
use Rattle.ug_board.specs.Deeds.{Deed}
use Rattle.ug_board.specs.Sessions.{sessions_of}
use Rattle.ug_outbound.specs.Keys.{ends_of}
use Rattle.ug_events.specs.Events.{Happening}
use Rattle.ug_world.specs.declared.peer_state.PeerState.{PeerState}
use Rattle.ug_world.specs.World.{World, key_in}
use Rattle.ug_world.specs.After.{after}
use Rattle.ug_world.specs.Touches.{is_about}
use Rattle.ug_speaker.specs.Speech.{is_request}
use Rattle.ug_speaker.specs.Told.{handed_in}
use Rattle.ug_speaker.proofs.Peers.{peer_after, peers-after, sessions-rise}
use Rattle.ug_group_rules.specs.Packets.{Packet, wanted_rows, message_to}
use Rattle.ug_group_rules.specs.Machine.{Subgroup, Seat, Member, System, turned, with_turns, retabled, in_world, counted, with_counts, take_event}
use Rattle.ug_group_rules.proofs.MemberStreams.{right-none}
use Rattle.ug_group_rules.proofs.Again.{IsAgain, again-stays, goes-as, again-covered}
use Rattle.ug_group_rules.proofs.Seated.{told_by, stream_of, IsSat, IsSystem}
use Rattle.ug_group_rules.proofs.Company.{before-end}
use Rattle.ug_group_rules.proofs.Retabling.{desired-as, retabled-at, counted-at}
use Rattle.ug_group_rules.proofs.PeerTurns.{IsTurned, IsCarried}
use Rattle.ug_group_rules.proofs.Events.{IsTurning, TakesTurn, takes-turn, turning-step, turning-first}
use Rattle.ug_group_rules.proofs.Asked.{IsAgainAt, IsAsked, again-moved, moved-same, goes-itself}

-- ---- the turns of all

module _ (e : Happening) (worlds : List World) (deeds_at : ℕ → List (Deed Message)) (old : World) (asks : Bool) (p n handed : ℕ) (wants : Bool)
    (wanted : (s' : PeerState) → slice_get (after old e).peers p ≡ Some s' → (is_request e && is_about e s') ≡ wants) where
  abbrev deeds : List (Deed Message)
  deeds = deeds_at p

  abbrev now : World
  now = after old e

  -- another peer's turn
  asked_apart : (b : Bool) (w : World) (q : ℕ) (state new : System) → (p ≡ q → ⊥) → IsTurned state.world q state new → IsAsked b p n handed deeds w state → IsAsked b p n handed deeds w new
  asked_apart b w q state new apart turned asked = record {
    peer = asked.peer;
    member = asked.member;
    is = asked.is;
    at = turned.members p apart ∙ asked.at;
    rises = asked.rises;
    again = λ same t sits. let found = asked.again same t sits in
        record { subgroup = found.subgroup; there = turned.others p asked.member t found.subgroup apart asked.at sits found.there; again = found.again };
  }

  -- ---- the peer's own turn

  module _ (s' : PeerState) (state : System) (now_is : slice_get now.peers p ≡ Some s') (turn : TakesTurn e worlds deeds_at old p s' state) (asked : IsAsked asks p n handed deeds old state) where
    abbrev s : PeerState
    s = turn.peer

    abbrev new : System
    new = turned e old p (slice_get old.peers p) s' state

    peer_is : asked.peer ≡ s
    peer_is = let both : Some asked.peer ≡ Some s = sym asked.is ∙ turn.was in cc

    member_is : asked.member ≡ turn.member
    member_is = let both : Some asked.member ≡ Some turn.member = sym asked.at ∙ turn.at in cc

    rises : n ≤ s.sessions
    rises = subst (λ (x : PeerState). n ≤ x.sessions) peer_is asked.rises

    rises_on : s.sessions ≤ s'.sessions
    rises_on = sessions-rise s s' turn.next

    again_old : s.sessions ≡ n → (t : Seat) → turn.member.seat ≡ Some t → IsAgainAt asks handed s deeds state.subgroups t
    again_old =
        subst (λ (m : Member). s.sessions ≡ n → (t : Seat) → m.seat ≡ Some t → IsAgainAt asks handed s deeds state.subgroups t) member_is
        (subst (λ (x : PeerState). x.sessions ≡ n → (t : Seat) → asked.member.seat ≡ Some t → IsAgainAt asks handed x deeds state.subgroups t) peer_is asked.again)

    module _ (same : s'.sessions ≡ n) (u : Seat) (sits : turn.done.member.seat ≡ Some u) where
      stays : s'.sessions ≡ s.sessions
      stays = let low = rises in let high = rises_on in omega arith

      carried : IsCarried (is_request e && is_about e s') (ends_of s.peer) state new turn.member u
      carried = turn.done.carried stays u sits

      found : IsAgainAt asks handed s deeds state.subgroups carried.seat
      found = again_old (sym stays ∙ same) carried.seat carried.sits

      before_is : found.subgroup ≡ carried.before
      before_is = let both : Some (Some found.subgroup) ≡ Some (Some carried.before) = sym found.there ∙ carried.was in cc

      streams_same : stream_of s' deeds u.rest ≡ stream_of s deeds carried.seat.rest
      streams_same =
          ap (λ (k : ℕ). handed_in k (sessions_of deeds) ++ told_by s' u.rest) stays
          ∙ ap (λ (packets : List Packet). handed_in s.sessions (sessions_of deeds) ++ told_by s' packets) carried.rest
          ∙ ap (λ (l : PeerEnds). handed_in s.sessions (sessions_of deeds) ++ map (λ (packet : Packet). message_to l packet.says) carried.seat.rest) turn.ends

      still : IsAgain asks handed s.peer.enhanced_refresh carried.after (stream_of s deeds carried.seat.rest)
      still =
          again-stays asks handed s.peer.enhanced_refresh carried.before carried.after (stream_of s deeds carried.seat.rest)
          (subst (λ (x : Subgroup). IsAgain asks handed s.peer.enhanced_refresh x (stream_of s deeds carried.seat.rest)) before_is found.again) (goes-as (ends_of s.peer) carried.before carried.after carried.good.change)

      sat : IsSat p worlds deeds s' turn.done.member new.subgroups (key_in state.world s') u
      sat = turn.done.placed.sat u sits

      marked : s.peer.enhanced_refresh ≡ carried.after.key.enhanced_refresh
      marked =
          let both : Some (Some sat.subgroup) ≡ Some (Some carried.after) = sym sat.there ∙ carried.is in
          let same_group : sat.subgroup ≡ carried.after = cc in
          sym turn.next.enhanced ∙ ap (λ k. k.enhanced_refresh) (sym sat.key_is) ∙ ap (λ (x : Subgroup). x.key.enhanced_refresh) same_group

      again_by : (b : Bool) → (is_request e && is_about e s') ≡ b → IsAgain (asks || b) handed s.peer.enhanced_refresh carried.after (stream_of s deeds carried.seat.rest)
      again_by true so = again-covered (asks || true) handed s.peer.enhanced_refresh carried.after (stream_of s deeds carried.seat.rest) (carried.covered so) marked found.again.long
      again_by false so = subst (λ (b : Bool). IsAgain b handed s.peer.enhanced_refresh carried.after (stream_of s deeds carried.seat.rest)) (sym (right-none asks)) still

      again_now : IsAgainAt (asks || wants) handed s' deeds new.subgroups u
      again_now = record {
        subgroup = carried.after;
        there = carried.is;
        again =
            subst (λ (ms : List Message). IsAgain (asks || wants) handed s'.peer.enhanced_refresh carried.after ms) (sym streams_same)
            (subst (λ (b : Bool). IsAgain (asks || wants) handed b carried.after (stream_of s deeds carried.seat.rest)) (sym turn.next.enhanced) (again_by wants (wanted s' now_is)));
      }

    asked_own : IsAsked (asks || wants) p n handed deeds now new
    asked_own = record {
      peer = s';
      member = turn.done.member;
      is = now_is;
      at = turn.done.is;
      rises = (let low = rises in let high = rises_on in omega arith);
      again = again_now;
    }

  -- ---- all turns

  -- before its turn it stands as before the event
  record IsAskedIn (k : ℕ) (state : System) : Type 0 where
    before : k ≤ p → IsAsked asks p n handed deeds old state
    behind : p < k → IsAsked (asks || wants) p n handed deeds now state

  asked_step : (k : ℕ) (s' : PeerState) (state : System) → slice_get now.peers k ≡ Some s' → IsTurning e worlds deeds_at old k state → IsAskedIn k state → IsAskedIn (k + 1) (turned e old k (slice_get old.peers k) s' state)
  asked_step k s' state now_is turning asked =
      let new = turned e old k (slice_get old.peers k) s' state in
      let turn = takes-turn e worlds deeds_at old k s' state now_is turning in
      record {
        before = λ later.
            let apart : p ≡ k → ⊥ = (λ same. absurd (omega (arith, later, same))) in
            asked_apart asks old k state new apart turn.done.turned (asked.before (omega arith));
        behind = λ less. elim (cases_eq p k) [
          | inl here ↦
              let is : slice_get now.peers p ≡ Some s' = ap (slice_get now.peers) here ∙ now_is in
              subst (λ (j : ℕ). IsAsked (asks || wants) p n handed deeds now (turned e old j (slice_get old.peers j) s' state)) here
              (asked_own s' state is (takes-turn e worlds deeds_at old p s' state is (subst (λ (j : ℕ). IsTurning e worlds deeds_at old j state) (sym here) turning)) (asked.before (omega arith)))
          | inr apart ↦ let first : p < k = omega arith in asked_apart (asks || wants) now k state new apart turn.done.turned (asked.behind first)
        ];
      }

  asked_all : (k : ℕ) (peers : List PeerState) (state : System) → ((i : ℕ) (s : PeerState) → slice_get peers i ≡ Some s → slice_get now.peers (k + i) ≡ Some s) → IsTurning e worlds deeds_at old k state → IsAskedIn k state
      → IsAskedIn (k + length peers) (with_turns e old k peers state)
  asked_all k [] state are turning asked = let here : k ≡ k + 0 = omega arith in subst (λ (j : ℕ). IsAskedIn j state) here asked
  asked_all k (s' ∷ peers) state are turning asked =
      let first : slice_get now.peers k ≡ Some s' = (let here : k + 0 ≡ k = omega arith in subst (λ (j : ℕ). slice_get now.peers j ≡ Some s') here (are 0 s' refl)) in
      let rest = asked_all (k + 1) peers (turned e old k (slice_get old.peers k) s' state)
      (λ i s is. let there : k + suc i ≡ k + 1 + i = omega arith in subst (λ (j : ℕ). slice_get now.peers j ≡ Some s) there (are (suc i) s is)) (turning-step e worlds deeds_at old k s' state first turning)
      (asked_step k s' state first turning asked) in
      let size : k + 1 + length peers ≡ k + length (s' ∷ peers) = omega arith in
      subst (λ (j : ℕ). IsAskedIn j (with_turns e old (k + 1) peers (turned e old k (slice_get old.peers k) s' state))) size rest

-- ---- an event

module _ (e : Happening) (worlds : List World) (deeds_at : ℕ → List (Deed Message)) (state : System) (system : IsSystem worlds deeds_at state) (asks : Bool) (p n handed : ℕ) (asked : IsAsked asks p n handed (deeds_at p) state.world state)
    (wants : Bool) (wanted : (s' : PeerState) → slice_get (after state.world e).peers p ≡ Some s' → (is_request e && is_about e s') ≡ wants) where
  abbrev then_world : World
  then_world = after state.world e

  abbrev tabled : System
  tabled = in_world then_world state

  asked_tabled : IsAsked asks p n handed (deeds_at p) state.world tabled
  asked_tabled = record {
    peer = asked.peer;
    member = asked.member;
    is = asked.is;
    at = asked.at;
    rises = asked.rises;
    again = λ same t sits.
        let found = asked.again same t sits in
        again-moved asks handed asked.peer (deeds_at p) state.subgroups tabled.subgroups t t found
        (moved-same asked.peer tabled.subgroups found.subgroup (retabled then_world found.subgroup) t t (retabled-at then_world state.subgroups t.sub found.subgroup found.there) refl
        (goes-as (ends_of asked.peer.peer) found.subgroup (retabled then_world found.subgroup) (desired-as (wanted_rows found.subgroup.key then_world) found.subgroup.out (ends_of asked.peer.peer) found.subgroup.phase)));
  }

  abbrev turned_state : System
  turned_state = with_turns e state.world 0 then_world.peers tabled

  within : p < length then_world.peers
  within = before-end then_world.peers p (peer_after e asked.peer) (peers-after e state.world p ∙ ap (option_map (peer_after e)) asked.is)

  asked_turned : IsAsked (asks || wants) p n handed (deeds_at p) then_world turned_state
  asked_turned =
      (asked_all e (worlds ++ then_world ∷ []) deeds_at state.world asks p n handed wants wanted 0 then_world.peers tabled (λ i s is. let here : i ≡ 0 + i = omega arith in subst (λ (j : ℕ). slice_get then_world.peers j ≡ Some s) here is)
      (turning-first e worlds deeds_at state system) (record { before = λ le. asked_tabled; behind = λ less. absurd (omega (arith, less)) })).behind (let inside = within in omega arith)

  pub asked-event : IsAsked (asks || wants) p n handed (deeds_at p) then_world (take_event e state)
  asked-event = record {
    peer = asked_turned.peer;
    member = asked_turned.member;
    is = asked_turned.is;
    at = asked_turned.at;
    rises = asked_turned.rises;
    again = λ same t sits.
        let found = asked_turned.again same t sits in
        again-moved (asks || wants) handed asked_turned.peer (deeds_at p) turned_state.subgroups (with_counts turned_state).subgroups t t found
        (moved-same asked_turned.peer (with_counts turned_state).subgroups found.subgroup (counted turned_state (0 + t.sub) found.subgroup) t t
        (counted-at turned_state 0 turned_state.subgroups t.sub ∙ ap (option_map (option_map (counted turned_state (0 + t.sub)))) found.there) refl
        (goes-itself (ends_of asked_turned.peer.peer) found.subgroup (counted turned_state (0 + t.sub) found.subgroup).stuck));
  }
