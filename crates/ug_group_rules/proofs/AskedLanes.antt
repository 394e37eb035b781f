-- What a lane does keeps what a peer was announced since its request.
use Rattle.std.proofs.Common.{◌≡◌, ℕ, ◌+◌, ◌<◌, ◌≤◌, Bool, true, false, List, [], ◌∷◌, ◌++◌, slice_get, Option, Some, None, refl, sym, ◌∙◌, ap, subst, arith}
use Rattle.std.specs.Prelude.{◌==◌, if◌then◌else◌}
use Rattle.std.specs.Option.{option_map}
use Rattle.std.proofs.lemmas.Bool.{eqb-true, eq-eqb}
use Rattle.std.proofs.lemmas.List.{append-nil}
use Rattle.ug_types.specs.Messages.{Message}
use Rattle.ug_board.specs.declared.steps.LaneStep.TheVariants.{Next}
use Rattle.ug_board.specs.declared.steps.LaneSaid.{LaneSaid}
use Rattle.ug_board.specs.Rules.{says_more}
use Rattle.ug_board.specs.Deeds.{Deed, Begins as BeginsDeed, Hands as HandsDeed, Loses, lane_deeds, when}
use Rattle.ug_board.specs.Sessions.{Session, sessions_of}
use Rattle.ug_board.proofs.Folding.{sessions_of-append}
use Rattle.ug_outbound.specs.Keys.{ends_of}
use Rattle.ug_world.specs.declared.peer_state.PeerState.{PeerState}
use Rattle.ug_world.specs.World.{World, key_in}
use Rattle.ug_speaker.specs.Told.{handed_in}
use Rattle.ug_speaker.specs.Places.{change_at}
use Rattle.ug_speaker.specs.Counts.{sessions_at, sessions_had}
use Rattle.ug_speaker.proofs.Places.{changed-here, changed-there}
use Rattle.ug_group_rules.specs.Packets.{Packet, message_to}
use Rattle.ug_group_rules.specs.Machine.{Seat, Member, System, seat_of, seat_at, with_loss, with_seat, leave, Upshot, Begins, Hands, Rests, upshot_of, upshot, with_session, after_upshot, after_next, after_loss}
use Rattle.ug_group_rules.specs.Rules.{said_of, lane_reply, group_speech}
use Rattle.ug_group_rules.proofs.Lawful.{rest_says}
use Rattle.ug_group_rules.proofs.Seated.{told_by, stream_of, IsPlaced, IsSystem, placed-of}
use Rattle.ug_group_rules.proofs.Others.{leave-members, leave-there, leave-here}
use Rattle.ug_group_rules.proofs.PeerLanes.{begins-alike, goes-on, seat-then}
use Rattle.ug_group_rules.proofs.Lanes.{IsUpshot, upshot-is, first-is, message-is}
use Rattle.ug_group_rules.proofs.Asked.{IsAsked, again-same}

module _ (asks : Bool) (p n handed : ℕ) (deeds : List (Deed Message)) (w : World) (state : System) (asked : IsAsked asks p n handed deeds w state) where
  -- another list of deeds that is the same
  pub asked-deeds : (later : List (Deed Message)) → deeds ≡ later → IsAsked asks p n handed later w state
  asked-deeds later same = subst (λ (ds : List (Deed Message)). IsAsked asks p n handed ds w state) same asked

  -- ---- the member of the peer changes

  -- its seat is still in the same subgroup, with the same stream
  abbrev IsStill : List (Deed Message) → Seat → Type 0
  IsStill later u = (t : Seat) × (asked.member.seat ≡ Some t) × (u.sub ≡ t.sub) × (stream_of asked.peer later u.rest ≡ stream_of asked.peer deeds t.rest)

  asked_member : (later : List (Deed Message)) (change : Member → Member) → ((u : Seat) → (change asked.member).seat ≡ Some u → IsStill later u) → IsAsked asks p n handed later w (record state { members = change_at change p state.members })
  asked_member later change still = record {
    peer = asked.peer;
    member = change asked.member;
    is = asked.is;
    at = changed-here change p state.members ∙ ap (option_map change) asked.at;
    rises = asked.rises;
    again = λ same u sits. let found = still u sits in again-same asks handed asked.peer deeds later state.subgroups found.0 u found.2 found.3 (asked.again same found.0 found.1);
  }

  -- another member changes
  asked_other : (change : Member → Member) (q : ℕ) → (p ≡ q → ⊥) → IsAsked asks p n handed deeds w (record state { members = change_at change q state.members })
  asked_other change q apart =
      record { peer = asked.peer; member = asked.member; is = asked.is; at = changed-there change q p state.members apart ∙ asked.at; rises = asked.rises; again = asked.again }

  -- ---- a peer leaves

  asked_left : (q : ℕ) → (p ≡ q → ⊥) → (o : Option Seat) → IsAsked asks p n handed deeds w (leave q o state)
  asked_left q apart o = record {
    peer = asked.peer;
    member = asked.member;
    is = asked.is;
    at = leave-members q p apart o state ∙ asked.at;
    rises = asked.rises;
    again = λ same t sits. let found = asked.again same t sits in
        record { subgroup = found.subgroup; there = leave-there q p apart state asked.member asked.at o t sits ∙ found.there; again = found.again };
  }

  asked_gone : (o : Option Seat) → asked.member.seat ≡ o → IsAsked asks p n handed deeds w (leave p o state)
  asked_gone o sits = record {
    peer = asked.peer;
    member = with_seat None asked.member;
    is = asked.is;
    at = leave-here p o state asked.member asked.at sits;
    rises = asked.rises;
    again = λ same t none. absurd cc;
  }

-- ---- the next of a lane

module _ (worlds : List World) (deeds_at : ℕ → List (Deed Message)) (state : System) (system : IsSystem worlds deeds_at state) (asks : Bool) (p n handed : ℕ) (asked : IsAsked asks p n handed (deeds_at p) state.world state) where
  abbrev s : PeerState
  s = asked.peer

  abbrev m : Member
  m = asked.member

  placed : IsPlaced p worlds (deeds_at p) s m state.subgroups (key_in state.world s)
  placed = placed-of p worlds (deeds_at p) state s m asked.is asked.at (system.placed p)

  abbrev Then : Upshot → Type 0
  Then u =
      IsAsked asks p n handed (deeds_at p ++ (lane_deeds group_speech.message (Next p) (said_of state.closed (slice_get state.world.peers p) u) state ++ [])) state.world
      (record state { members = change_at (after_upshot u) p state.members })

  begins : Then (Begins (m.begun + 1))
  begins =
      asked_member asks p n handed (deeds_at p) state.world state asked (deeds_at p ++ BeginsDeed (m.begun + 1) ∷ []) with_session
      (λ u sits. (u, sits, refl, ap (λ (ms : List Message). ms ++ told_by s u.rest) (begins-alike p worlds (deeds_at p) s m state.subgroups (key_in state.world s) placed s.sessions)))

  hands : (packet : Packet) → 0 < m.begun → s.sessions ≤ m.begun → (t : Seat) (rest : List Packet) → m.seat ≡ Some t → t.rest ≡ packet ∷ rest → group_speech.message p state ≡ message_to (ends_of s.peer) packet.says → Then (Hands m.begun packet)
  hands packet some least t rest sits first message =
      let few = placed.counted.begun in
      let all : m.begun ≡ s.sessions = omega arith in
      subst (λ (x : Message). IsAsked asks p n handed (deeds_at p ++ HandsDeed m.begun x ∷ []) state.world (record state { members = change_at (after_upshot (Hands m.begun packet)) p state.members })) (sym message)
      (asked_member asks p n handed (deeds_at p) state.world state asked (deeds_at p ++ HandsDeed m.begun (message_to (ends_of s.peer) packet.says) ∷ []) (after_upshot (Hands m.begun packet)) (λ u sits'.
      let both : Some (record t { rest = rest }) ≡ Some u = sym (seat-then p worlds (deeds_at p) s m state.subgroups (key_in state.world s) placed t sits packet rest first all some) ∙ sits' in
      let here : record t { rest = rest } ≡ u = cc in (
        t,
        sits,
        ap (λ (v : Seat). v.sub) (sym here),
        ap (λ (v : Seat). stream_of s (deeds_at p ++ HandsDeed m.begun (message_to (ends_of s.peer) packet.says) ∷ []) v.rest) (sym here)
            ∙ goes-on p worlds (deeds_at p) s m state.subgroups (key_in state.world s) placed t sits packet rest first all some,
      )))

  next_by : (u : Upshot) → IsUpshot s.sessions m u → says_more (said_of state.closed (slice_get state.world.peers p) u) ≡ true → Then u
  next_by (Begins k) up more = subst (λ (j : ℕ). Then (Begins j)) (sym up.0) begins
  next_by (Hands k packet) up more =
      let found = first-is m.seat packet up.3 in
      subst (λ (j : ℕ). Then (Hands j packet)) (sym up.0) (hands packet up.1 up.2 found.0 found.1 found.2 found.3 (message-is worlds deeds_at state system p s m asked.is asked.at placed packet up.3))
  next_by Rests up more = let none = rest_says state.closed in absurd cc

  upshot_here : upshot p state ≡ upshot_of s.sessions (Some m)
  upshot_here = ap (λ (o : Option PeerState). upshot_of (sessions_had o) (slice_get state.members p)) asked.is ∙ ap (upshot_of s.sessions) asked.at

  abbrev Own : ℕ → Type 0
  Own q = (said : LaneSaid) → said ≡ lane_reply (Next q) state → says_more (lane_reply (Next q) state) ≡ true → IsAsked asks p n handed (deeds_at p ++ (lane_deeds group_speech.message (Next q) said state ++ [])) state.world (after_next q state)

  own : Own p
  own said is more =
      subst (λ (x : LaneSaid). IsAsked asks p n handed (deeds_at p ++ (lane_deeds group_speech.message (Next p) x state ++ [])) state.world (after_next p state)) (sym is)
      (subst Then (sym upshot_here) (next_by (upshot_of s.sessions (Some m)) (upshot-is s.sessions m) (ap (λ (u : Upshot). says_more (said_of state.closed (slice_get state.world.peers p) u)) (sym upshot_here) ∙ more)))

  pub asked-next : (q : ℕ) (said : LaneSaid) → said ≡ lane_reply (Next q) state → says_more (lane_reply (Next q) state) ≡ true
      → IsAsked asks p n handed (deeds_at p ++ (when (q == p) (lane_deeds group_speech.message (Next q) said state) ++ [])) state.world (after_next q state)
  asked-next q said is more = by (q == p) refl
    where
      by : (b : Bool) → (q == p) ≡ b → IsAsked asks p n handed (deeds_at p ++ (when b (lane_deeds group_speech.message (Next q) said state) ++ [])) state.world (after_next q state)
      by true e = subst Own (sym (eqb-true q p e)) own said is more
      by false e =
          let apart : p ≡ q → ⊥ = λ same. (let so = eq-eqb q p (sym same) in absurd cc) in
          asked-deeds asks p n handed (deeds_at p) state.world (after_next q state) (asked_other asks p n handed (deeds_at p) state.world state asked (after_upshot (upshot q state)) q apart) (deeds_at p ++ []) (sym (append-nil (deeds_at p)))

  -- ---- a session is lost

  lost_deeds : (k : ℕ) → sessions_of (deeds_at p ++ Loses k ∷ []) ≡ sessions_of (deeds_at p)
  lost_deeds k = sessions_of-append (deeds_at p) (Loses k ∷ [])

  abbrev noted : ℕ → ℕ → System
  noted q k = record state { members = change_at (with_loss k) q state.members }

  abbrev AfterLoss : ℕ → ℕ → Bool → Bool → Type 0
  AfterLoss q k to now = IsAsked asks p n handed (deeds_at p ++ (when to (Loses k ∷ []) ++ [])) state.world (if now then leave q (seat_at q (noted q k)) (noted q k) else noted q k)

  own_noted : (k : ℕ) → AfterLoss p k true false
  own_noted k =
      asked_member asks p n handed (deeds_at p) state.world state asked (deeds_at p ++ Loses k ∷ []) (with_loss k)
      (λ u sits. (u, sits, refl, ap (λ (found : List (Session Message)). handed_in s.sessions found ++ told_by s u.rest) (lost_deeds k)))

  own_lost : (k : ℕ) (now : Bool) → AfterLoss p k true now
  own_lost k false = own_noted k
  own_lost k true =
      let there = own_noted k in
      asked_gone asks p n handed (deeds_at p ++ Loses k ∷ []) state.world (noted p k) there (seat_at p (noted p k)) (sym (ap seat_of there.at))

  other_lost : (q k : ℕ) (now : Bool) → (p ≡ q → ⊥) → AfterLoss q k false now
  other_lost q k now apart = by now
    where
      there : IsAsked asks p n handed (deeds_at p ++ []) state.world (noted q k)
      there =
          asked-deeds asks p n handed (deeds_at p) state.world (noted q k) (asked_other asks p n handed (deeds_at p) state.world state asked (with_loss k) q apart) (deeds_at p ++ []) (sym (append-nil (deeds_at p)))

      by : (now : Bool) → AfterLoss q k false now
      by true = asked_left asks p n handed (deeds_at p ++ []) state.world (noted q k) there q apart (seat_at q (noted q k))
      by false = there

  pub asked-lost : (q k : ℕ) → IsAsked asks p n handed (deeds_at p ++ (when (q == p) (Loses k ∷ []) ++ [])) state.world (after_loss q k state)
  asked-lost q k = by (q == p) refl (k == sessions_at q state.world)
    where
      by : (to : Bool) → (q == p) ≡ to → (now : Bool) → AfterLoss q k to now
      by true e now = subst (λ (j : ℕ). AfterLoss j k true now) (sym (eqb-true q p e)) (own_lost k now)
      by false e now = other_lost q k now (λ same. let so = eq-eqb q p (sym same) in absurd cc)
