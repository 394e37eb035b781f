-- Each step of a lane keeps what is so of the system.
use Rattle.std.proofs.Common.{◌≡◌, ℕ, ◌+◌, ◌<◌, ◌≤◌, Bool, true, false, List, [], ◌∷◌, ◌++◌, slice_get, Option, Some, None, refl, sym, ◌∙◌, ap, subst, arith}
use Rattle.std.specs.Prelude.{◌==◌, nat_lt}
use Rattle.std.specs.Option.{option_map}
use Rattle.std.proofs.lemmas.Bool.{eqb-true, eq-eqb}
use Rattle.std.proofs.lemmas.Bool.Decides.{nat_tests}
use Rattle.std.proofs.lemmas.List.{append-nil}
use Rattle.ug_types.specs.Messages.{Message}
use Rattle.ug_board.specs.declared.steps.LaneStep.TheVariants.{Next}
use Rattle.ug_board.specs.declared.steps.LaneSaid.{LaneSaid}
use Rattle.ug_board.specs.Rules.{says_more}
use Rattle.ug_board.specs.Deeds.{Deed, Begins as BeginsDeed, Hands as HandsDeed, lane_deeds, when}
use Rattle.ug_outbound.specs.Keys.{ends_of}
use Rattle.ug_world.specs.declared.peer_state.PeerState.{PeerState}
use Rattle.ug_world.specs.World.{World, key_in}
use Rattle.ug_speaker.specs.Places.{change_at}
use Rattle.ug_speaker.specs.Counts.{sessions_had}
use Rattle.ug_speaker.proofs.Places.{changed-here, changed-there}
use Rattle.ug_group_rules.specs.Packets.{Packet, message_to}
use Rattle.ug_group_rules.specs.Machine.{Seat, Member, System, seat_of, seat_at, first_left, Upshot, Begins, Hands, Rests, upshot_of, upshot, with_session, with_handed, after_upshot, after_next}
use Rattle.ug_group_rules.specs.Rules.{message_for, said_of, lane_reply, group_speech}
use Rattle.ug_group_rules.proofs.Lawful.{rest_says}
use Rattle.ug_group_rules.proofs.Seated.{IsPlaced, IsPlacedAt, IsSystem}
use Rattle.ug_group_rules.proofs.PeerLanes.{placed-begins, placed-hands}

-- ---- what is next

abbrev pub IsUpshot : ℕ → Member → Upshot → Type 0
IsUpshot n m (Begins k) = (k ≡ m.begun + 1) × (m.begun < n)
IsUpshot n m (Hands k packet) = (k ≡ m.begun) × (0 < m.begun) × (n ≤ m.begun) × (first_left m.seat ≡ Some packet)
IsUpshot n m Rests = Unit {0}

upshot_by : (n : ℕ) (m : Member) (now may : Bool) (first : Option Packet) → nat_lt m.begun n ≡ now → nat_lt 0 m.begun ≡ may → first_left m.seat ≡ first → IsUpshot n m (upshot_of n (Some m))
upshot_by n m true may first is_now is_may is_first = rw is_now (refl, (let less : m.begun < n = grind (arith, nat_tests) in less))
upshot_by n m false may None is_now is_may is_first = rw (is_now, is_first) tt
upshot_by n m false false (Some packet) is_now is_may is_first = rw (is_now, is_first, is_may) tt
upshot_by n m false true (Some packet) is_now is_may is_first =
    rw (is_now, is_first, is_may) (refl, (let some : 0 < m.begun = grind (arith, nat_tests) in some), (let all : n ≤ m.begun = grind (arith, nat_tests) in all), is_first)

pub upshot-is : (n : ℕ) (m : Member) → IsUpshot n m (upshot_of n (Some m))
upshot-is n m = upshot_by n m (nat_lt m.begun n) (nat_lt 0 m.begun) (first_left m.seat) refl refl refl

-- the seat whose first packet this is
pub first-is : (o : Option Seat) (packet : Packet) → first_left o ≡ Some packet → (t : Seat) × (rest : List Packet) × (o ≡ Some t) × (t.rest ≡ packet ∷ rest)
first-is None packet e = absurd cc
first-is (Some t) packet e = by t.rest refl e
  where
    by : (rest : List Packet) → t.rest ≡ rest → slice_get rest 0 ≡ Some packet → (u : Seat) × (more : List Packet) × (Some t ≡ Some u) × (u.rest ≡ packet ∷ more)
    by [] is e = absurd cc
    by (x ∷ rest) is e = let same : x ≡ packet = cc in (t, rest, refl, is ∙ ap (λ (k : Packet). k ∷ rest) same)

module _ (worlds : List World) (deeds_at : ℕ → List (Deed Message)) (state : System) (system : IsSystem worlds deeds_at state) where
  -- the deeds after a step of a lane
  abbrev pub deeds_next : ℕ → LaneSaid → ℕ → List (Deed Message)
  deeds_next q said p = deeds_at p ++ (when (q == p) (lane_deeds group_speech.message (Next q) said state) ++ [])

  member_next : (q p : ℕ) (s : PeerState) (m : Member) → q ≡ p → slice_get state.world.peers p ≡ Some s → slice_get state.members p ≡ Some m → upshot q state ≡ upshot_of s.sessions (Some m)
  member_next q p s m same is at = ap (λ (k : ℕ). upshot k state) same ∙ ap (λ (o : Option PeerState). upshot_of (sessions_had o) (slice_get state.members p)) is ∙ ap (upshot_of s.sessions) at

  -- ---- the peer whose lane it is

  module _ (p : ℕ) (s : PeerState) (m : Member) (is : slice_get state.world.peers p ≡ Some s) (at : slice_get state.members p ≡ Some m) (placed : IsPlaced p worlds (deeds_at p) s m state.subgroups (key_in state.world s)) where
    abbrev Then : Upshot → Type 0
    Then u = IsPlaced p worlds (deeds_at p ++ (lane_deeds group_speech.message (Next p) (said_of state.closed (slice_get state.world.peers p) u) state ++ [])) s (after_upshot u m) state.subgroups (key_in state.world s)

    pub message-is : (packet : Packet) → first_left m.seat ≡ Some packet → group_speech.message p state ≡ message_to (ends_of s.peer) packet.says
    message-is packet first =
        ap (λ (o : Option PeerState). message_for o (first_left (seat_at p state))) is
        ∙ ap (λ (o : Option Member). message_for (Some s) (first_left (seat_of o))) at
        ∙ ap (message_for (Some s)) first

    next_by : (u : Upshot) → IsUpshot s.sessions m u → says_more (said_of state.closed (slice_get state.world.peers p) u) ≡ true → Then u
    next_by (Begins k) up more =
        let number = up.0 in
        subst (λ (j : ℕ). IsPlaced p worlds (deeds_at p ++ BeginsDeed j ∷ []) s (with_session m) state.subgroups (key_in state.world s)) (sym number) (placed-begins p worlds (deeds_at p) s m state.subgroups (key_in state.world s) placed up.1)
    next_by (Hands k packet) up more =
        let found = first-is m.seat packet up.3 in
        let few = placed.counted.begun in
        let least = up.2 in
        let all : m.begun ≡ s.sessions = omega arith in
        subst (λ (x : Message). IsPlaced p worlds (deeds_at p ++ HandsDeed k x ∷ []) s (with_handed m) state.subgroups (key_in state.world s)) (sym (message-is packet up.3))
        (subst (λ (j : ℕ). IsPlaced p worlds (deeds_at p ++ HandsDeed j (message_to (ends_of s.peer) packet.says) ∷ []) s (with_handed m) state.subgroups (key_in state.world s)) (sym up.0)
        (placed-hands p worlds (deeds_at p) s m state.subgroups (key_in state.world s) placed found.0 found.2 packet found.1 found.3 all up.1))
    next_by Rests up more = let none = rest_says state.closed in absurd cc

    pub placed-next : says_more (said_of state.closed (slice_get state.world.peers p) (upshot_of s.sessions (Some m))) ≡ true → Then (upshot_of s.sessions (Some m))
    placed-next more = next_by (upshot_of s.sessions (Some m)) (upshot-is s.sessions m) more

  -- ---- all peers

  next_at : (q : ℕ) (said : LaneSaid) → said ≡ lane_reply (Next q) state → says_more (lane_reply (Next q) state) ≡ true → (p : ℕ) (b : Bool) → (q == p) ≡ b → (o : Option PeerState) (u : Option Member)
      → slice_get state.world.peers p ≡ o → slice_get state.members p ≡ u → IsPlacedAt p worlds (deeds_at p) state.world state.subgroups o u
      → IsPlacedAt p worlds (deeds_at p ++ (when b (lane_deeds group_speech.message (Next q) said state) ++ [])) state.world state.subgroups o (slice_get (after_next q state).members p)
  next_at q said is more p false apart o u peer at placed =
      subst (λ (v : Option Member). IsPlacedAt p worlds (deeds_at p ++ []) state.world state.subgroups o v)
      (sym (changed-there (after_upshot (upshot q state)) q p state.members (λ same. let so = eq-eqb q p (sym same) in absurd cc) ∙ at))
      (subst (λ (ds : List (Deed Message)). IsPlacedAt p worlds ds state.world state.subgroups o u) (sym (append-nil (deeds_at p))) placed)
  next_at q said is more p true same (Some s) (Some m) peer at placed =
      let here : q ≡ p = eqb-true q p same in
      let up : upshot q state ≡ upshot_of s.sessions (Some m) = member_next q p s m here peer at in
      let said_is : said ≡ said_of state.closed (slice_get state.world.peers p) (upshot_of s.sessions (Some m)) = is ∙ ap (λ (k : ℕ). said_of state.closed (slice_get state.world.peers k) (upshot q state)) here ∙ ap (said_of state.closed (slice_get state.world.peers p)) up in
      let more' : says_more (said_of state.closed (slice_get state.world.peers p) (upshot_of s.sessions (Some m))) ≡ true = ap says_more (sym said_is ∙ is) ∙ more in
      let member : slice_get (after_next q state).members p ≡ Some (after_upshot (upshot_of s.sessions (Some m)) m) =
      ap (λ (k : ℕ). slice_get (change_at (after_upshot (upshot q state)) k state.members) p) here ∙ ap (λ (v : Upshot). slice_get (change_at (after_upshot v) p state.members) p) up
      ∙ changed-here (after_upshot (upshot_of s.sessions (Some m))) p state.members ∙ ap (option_map (after_upshot (upshot_of s.sessions (Some m)))) at in
      subst (λ (v : Option Member). IsPlacedAt p worlds (deeds_at p ++ (lane_deeds group_speech.message (Next q) said state ++ [])) state.world state.subgroups (Some s) v) (sym member)
      (subst (λ (k : ℕ). IsPlaced p worlds (deeds_at p ++ (lane_deeds group_speech.message (Next k) said state ++ [])) s (after_upshot (upshot_of s.sessions (Some m)) m) state.subgroups (key_in state.world s)) (sym here)
      (subst (λ (x : LaneSaid). IsPlaced p worlds (deeds_at p ++ (lane_deeds group_speech.message (Next p) x state ++ [])) s (after_upshot (upshot_of s.sessions (Some m)) m) state.subgroups (key_in state.world s)) (sym said_is)
      (placed-next p s m peer at placed more')))
  next_at q said is more p true same None None peer at placed =
      let here : q ≡ p = eqb-true q p same in
      let none : slice_get (after_next q state).members p ≡ None =
      ap (λ (k : ℕ). slice_get (change_at (after_upshot (upshot q state)) k state.members) p) here ∙ changed-here (after_upshot (upshot q state)) p state.members ∙ ap (option_map (after_upshot (upshot q state))) at in
      subst (λ (v : Option Member). IsPlacedAt p worlds (deeds_at p ++ (lane_deeds group_speech.message (Next q) said state ++ [])) state.world state.subgroups None v) (sym none) tt
  next_at q said is more p true same (Some s) None peer at placed = absurd placed
  next_at q said is more p true same None (Some m) peer at placed = absurd placed

  pub system-next : (q : ℕ) (said : LaneSaid) → said ≡ lane_reply (Next q) state → says_more (lane_reply (Next q) state) ≡ true → IsSystem worlds (deeds_next q said) (after_next q state)
  system-next q said is more = record {
    kept = system.kept;
    placed = λ p. next_at q said is more p (q == p) refl (slice_get state.world.peers p) (slice_get state.members p) refl refl (system.placed p);
  }
