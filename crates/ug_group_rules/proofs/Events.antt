-- An event keeps what is so of the system.
use Rattle.std.proofs.Common.{◌≡◌, ℕ, ◌+◌, ◌<◌, ◌≤◌, inl, inr, zero, suc, List, [], ◌∷◌, ◌++◌, length, slice_get, Option, Some, None, refl, sym, ◌∙◌, ap, subst, arith}
use Rattle.std.specs.Prelude.{◌&&◌}
use Rattle.std.specs.Option.{option_map}
use Rattle.std.proofs.lemmas.Bool.{cases_eq, cases_order}
use Rattle.ug_types.specs.Messages.{Message}
use Rattle.ug_board.specs.Deeds.{Deed}
use Rattle.ug_outbound.specs.Keys.{ends_of}
use Rattle.ug_events.specs.Events.{Happening}
use Rattle.ug_world.specs.declared.peer_state.PeerState.{PeerState}
use Rattle.ug_world.specs.World.{World, key_in}
use Rattle.ug_world.specs.After.{after}
use Rattle.ug_world.specs.Touches.{is_about}
use Rattle.ug_speaker.specs.Speech.{is_request}
use Rattle.ug_speaker.proofs.Peers.{peer_after, peers-after, IsNextOf, next-of}
use Rattle.ug_group_rules.specs.Machine.{Subgroup, Member, System, apart, turned, with_turns, in_world, counted, with_counts, take_event}
use Rattle.ug_group_rules.proofs.MemberStreams.{IsKept}
use Rattle.ug_group_rules.proofs.Seated.{IsPlacedAt, IsSystem}
use Rattle.ug_group_rules.proofs.Others.{placed-elsewhere}
use Rattle.ug_group_rules.proofs.Parting.{kept-count}
use Rattle.ug_group_rules.proofs.Retabling.{kept-retabled, retabled-from, placed-retabled, counted-from, placed-counted}
use Rattle.ug_group_rules.proofs.PeerTurns.{IsTurned, ends-after}
use Rattle.ug_group_rules.proofs.Turns.{IsDone}
use Rattle.ug_group_rules.proofs.ChosenTurns.{done-turned}

-- ---- the turns of all

module _ (e : Happening) (worlds : List World) (deeds_at : ℕ → List (Deed Message)) (old : World) where
  -- the first peers have had their turn, and the others stand as before
  pub record IsTurning (k : ℕ) (state : System) : Type 0 where
    pub world : state.world ≡ after old e
    pub kept : (g : ℕ) (x : Subgroup) → slice_get state.subgroups g ≡ Some (Some x) → IsKept state.world x
    pub placed : (p : ℕ) → p < k → IsPlacedAt p worlds (deeds_at p) state.world state.subgroups (slice_get state.world.peers p) (slice_get state.members p)
    pub waiting : (p : ℕ) → k ≤ p → IsPlacedAt p worlds (deeds_at p) old state.subgroups (slice_get old.peers p) (slice_get state.members p)

  -- another peer's turn leaves a peer as it was
  other_placed : (w : World) (q p : ℕ) (state new : System) → (p ≡ q → ⊥) → IsTurned state.world q state new → (o : Option PeerState) (u : Option Member) → slice_get state.members p ≡ u
      → IsPlacedAt p worlds (deeds_at p) w state.subgroups o u → IsPlacedAt p worlds (deeds_at p) w new.subgroups o (slice_get new.members p)
  other_placed w q p state new apart turned (Some s) (Some m) at placed =
      subst (λ (v : Option Member). IsPlacedAt p worlds (deeds_at p) w new.subgroups (Some s) v) (sym (turned.members p apart ∙ at))
      (placed-elsewhere p worlds (deeds_at p) s m state.subgroups new.subgroups (key_in w s)
      (λ t sits. let sat = placed.sat t sits in turned.others p m t sat.subgroup apart at sits sat.there ∙ sym sat.there) placed)
  other_placed w q p state new apart turned None None at placed = subst (λ (v : Option Member). IsPlacedAt p worlds (deeds_at p) w new.subgroups None v) (sym (turned.members p apart ∙ at)) tt
  other_placed w q p state new apart turned (Some s) None at placed = absurd placed
  other_placed w q p state new apart turned None (Some m) at placed = absurd placed

  -- The peer at this place has its turn: it was there, has a member, and is done.
  pub record TakesTurn (k : ℕ) (s' : PeerState) (state : System) : Type 0 where
    pub peer : PeerState
    pub was : slice_get old.peers k ≡ Some peer
    pub next : IsNextOf peer s'
    pub ends : ends_of s'.peer ≡ ends_of peer.peer
    pub member : Member
    pub at : slice_get state.members k ≡ Some member
    pub done : IsDone (is_request e && is_about e s') k worlds (deeds_at k) peer s' member (key_in state.world s') state (turned e old k (slice_get old.peers k) s' state)

  turn_at : (k : ℕ) (s' : PeerState) (state : System) → IsTurning k state → (o : Option PeerState) (u : Option Member) → slice_get old.peers k ≡ o → slice_get state.members k ≡ u
      → option_map (peer_after e) o ≡ Some s' → IsPlacedAt k worlds (deeds_at k) old state.subgroups o u → TakesTurn k s' state
  turn_at k s' state turning (Some s) (Some m) is at after_is placed =
      let same : peer_after e s ≡ s' = cc in
      let next : IsNextOf s s' = subst (λ (v : PeerState). IsNextOf s v) same (next-of e s) in
      let ends : ends_of s'.peer ≡ ends_of s.peer = subst (λ (v : PeerState). ends_of v.peer ≡ ends_of s.peer) same (ends-after e s) in
      record {
        peer = s;
        was = is;
        next = next;
        ends = ends;
        member = m;
        at = at;
        done =
            subst (λ (o : Option PeerState). IsDone (is_request e && is_about e s') k worlds (deeds_at k) s s' m (key_in state.world s') state (turned e old k o s' state)) (sym is)
            (done-turned e k worlds (deeds_at k) old s s' m state placed at turning.kept next ends);
      }
  turn_at k s' state turning None u is at after_is placed = absurd cc
  turn_at k s' state turning (Some s) None is at after_is placed = absurd placed

  pub takes-turn : (k : ℕ) (s' : PeerState) (state : System) → slice_get (after old e).peers k ≡ Some s' → IsTurning k state → TakesTurn k s' state
  takes-turn k s' state now turning = turn_at k s' state turning (slice_get old.peers k) (slice_get state.members k) refl refl (sym (peers-after e old k) ∙ now) (turning.waiting k (omega arith))

  pub turning-step : (k : ℕ) (s' : PeerState) (state : System) → slice_get (after old e).peers k ≡ Some s' → IsTurning k state → IsTurning (k + 1) (turned e old k (slice_get old.peers k) s' state)
  turning-step k s' state now_is turning =
      let done = (takes-turn k s' state now_is turning).done in
      let now : slice_get state.world.peers k ≡ Some s' = ap (λ (w : World). slice_get w.peers k) turning.world ∙ now_is in
      let new = turned e old k (slice_get old.peers k) s' state in
      record {
        world = done.turned.world ∙ turning.world;
        kept = λ g x there. subst (λ (w : World). IsKept w x) (sym done.turned.world) (done.turned.kept g x there);
        placed = λ p less.
            subst (λ (w : World). IsPlacedAt p worlds (deeds_at p) w new.subgroups (slice_get w.peers p) (slice_get new.members p)) (sym done.turned.world)
            (elim (cases_eq p k) [
              | inl here ↦
                  subst (λ (j : ℕ). IsPlacedAt j worlds (deeds_at j) state.world new.subgroups (slice_get state.world.peers j) (slice_get new.members j)) (sym here)
                  (subst (λ (v : Option Member). IsPlacedAt k worlds (deeds_at k) state.world new.subgroups (slice_get state.world.peers k) v) (sym done.is)
                  (subst (λ (v : Option PeerState). IsPlacedAt k worlds (deeds_at k) state.world new.subgroups v (Some done.member)) (sym now) done.placed))
              | inr apart ↦
                  let before : p < k = omega arith in
                  other_placed state.world k p state new apart done.turned (slice_get state.world.peers p) (slice_get state.members p) refl (turning.placed p before)
            ]);
        waiting = λ p later.
            let apart : p ≡ k → ⊥ = (λ same. absurd (omega (arith, later, same))) in
            let still : k ≤ p = omega arith in
            other_placed old k p state new apart done.turned (slice_get old.peers p) (slice_get state.members p) refl (turning.waiting p still);
      }

  turning_all : (k : ℕ) (peers : List PeerState) (state : System) → ((i : ℕ) (s : PeerState) → slice_get peers i ≡ Some s → slice_get (after old e).peers (k + i) ≡ Some s) → IsTurning k state
      → IsTurning (k + length peers) (with_turns e old k peers state)
  turning_all k [] state are turning = let here : k ≡ k + 0 = omega arith in subst (λ (j : ℕ). IsTurning j state) here turning
  turning_all k (s' ∷ peers) state are turning =
      let first : slice_get (after old e).peers k ≡ Some s' = (let here : k + 0 ≡ k = omega arith in subst (λ (j : ℕ). slice_get (after old e).peers j ≡ Some s') here (are 0 s' refl)) in
      let rest = turning_all (k + 1) peers (turned e old k (slice_get old.peers k) s' state)
      (λ i s is. let there : k + suc i ≡ k + 1 + i = omega arith in subst (λ (j : ℕ). slice_get (after old e).peers j ≡ Some s) there (are (suc i) s is)) (turning-step k s' state first turning) in
      let size : k + 1 + length peers ≡ k + length (s' ∷ peers) = omega arith in
      subst (λ (j : ℕ). IsTurning j (with_turns e old (k + 1) peers (turned e old k (slice_get old.peers k) s' state))) size rest

  beyond : (peers : List PeerState) (p : ℕ) → length peers ≤ p → slice_get peers p ≡ None
  beyond [] p le = refl
  beyond (s ∷ peers) zero le = absurd (omega arith)
  beyond (s ∷ peers) (suc p) le = beyond peers p (omega arith)

  -- when all have had their turn
  turned_all : (state : System) → IsTurning (length (after old e).peers) state → IsSystem worlds deeds_at state
  turned_all state turning = record {
    kept = turning.kept;
    placed = λ p. elim (cases_order p (length (after old e).peers)) [
      | inl same ↦ late p (omega arith)
      | inr ordered ↦ elim ordered [ inl less ↦ turning.placed p less | inr more ↦ late p (omega arith) ]
    ];
  }
    where
      none_by : (p : ℕ) (o : Option PeerState) (u : Option Member) → slice_get state.members p ≡ u → option_map (peer_after e) o ≡ None → IsPlacedAt p worlds (deeds_at p) old state.subgroups o u
          → IsPlacedAt p worlds (deeds_at p) state.world state.subgroups None (slice_get state.members p)
      none_by p None None at none placed = subst (λ (v : Option Member). IsPlacedAt p worlds (deeds_at p) state.world state.subgroups None v) (sym at) tt
      none_by p None (Some m) at none placed = absurd placed
      none_by p (Some s) u at none placed = absurd cc

      late : (p : ℕ) → length (after old e).peers ≤ p → IsPlacedAt p worlds (deeds_at p) state.world state.subgroups (slice_get state.world.peers p) (slice_get state.members p)
      late p le =
          let none : slice_get (after old e).peers p ≡ None = beyond (after old e).peers p le in
          subst (λ (v : Option PeerState). IsPlacedAt p worlds (deeds_at p) state.world state.subgroups v (slice_get state.members p)) (sym (ap (λ (w : World). slice_get w.peers p) turning.world ∙ none))
          (none_by p (slice_get old.peers p) (slice_get state.members p) refl (sym (peers-after e old p) ∙ none) (turning.waiting p le))

-- ---- an event

module _ (e : Happening) (worlds : List World) (deeds_at : ℕ → List (Deed Message)) (state : System) (system : IsSystem worlds deeds_at state) where
  abbrev now : World
  now = after state.world e

  abbrev tabled : System
  tabled = in_world now state

  tabled_placed : (p : ℕ) (o : Option PeerState) (u : Option Member) → IsPlacedAt p worlds (deeds_at p) state.world state.subgroups o u → IsPlacedAt p (worlds ++ now ∷ []) (deeds_at p) state.world tabled.subgroups o u
  tabled_placed p None None placed = tt
  tabled_placed p (Some s) (Some m) placed = placed-retabled p worlds now (deeds_at p) s m state.subgroups (key_in state.world s) placed
  tabled_placed p (Some s) None placed = absurd placed
  tabled_placed p None (Some m) placed = absurd placed

  pub turning-first : IsTurning e (worlds ++ now ∷ []) deeds_at state.world 0 tabled
  turning-first = record {
    world = refl;
    kept = λ g y there. let found = retabled-from now state.subgroups g y there in subst (λ (z : Subgroup). IsKept now z) found.2 (kept-retabled state.world now found.0 (system.kept g found.0 found.1));
    placed = λ p less. absurd (omega (arith, less));
    waiting = λ p later. tabled_placed p (slice_get state.world.peers p) (slice_get state.members p) (system.placed p);
  }

  turned_system : IsSystem (worlds ++ now ∷ []) deeds_at (with_turns e state.world 0 now.peers tabled)
  turned_system =
      turned_all e (worlds ++ now ∷ []) deeds_at state.world (with_turns e state.world 0 now.peers tabled)
      (let size : 0 + length now.peers ≡ length now.peers = omega arith in
      subst (λ (j : ℕ). IsTurning e (worlds ++ now ∷ []) deeds_at state.world j (with_turns e state.world 0 now.peers tabled)) size
      (turning_all e (worlds ++ now ∷ []) deeds_at state.world 0 now.peers tabled (λ i s is. let here : i ≡ 0 + i = omega arith in subst (λ (j : ℕ). slice_get now.peers j ≡ Some s) here is) turning-first))

  abbrev turned_state : System
  turned_state = with_turns e state.world 0 now.peers tabled

  counted_placed : (p : ℕ) (o : Option PeerState) (u : Option Member) → IsPlacedAt p (worlds ++ now ∷ []) (deeds_at p) turned_state.world turned_state.subgroups o u
      → IsPlacedAt p (worlds ++ now ∷ []) (deeds_at p) turned_state.world (with_counts turned_state).subgroups o u
  counted_placed p None None placed = tt
  counted_placed p (Some s) (Some m) placed = placed-counted p (worlds ++ now ∷ []) (deeds_at p) s m turned_state turned_state.subgroups (key_in turned_state.world s) placed
  counted_placed p (Some s) None placed = absurd placed
  counted_placed p None (Some m) placed = absurd placed

  pub system-event : IsSystem (worlds ++ now ∷ []) deeds_at (take_event e state)
  system-event = record {
    kept = λ g y there.
        let found = counted-from turned_state turned_state.subgroups g y there in
        subst (λ (z : Subgroup). IsKept turned_state.world z) found.2 (kept-count turned_state.world found.0 (counted turned_state (0 + g) found.0).stuck (turned_system.kept g found.0 found.1));
    placed = λ p. counted_placed p (slice_get turned_state.world.peers p) (slice_get turned_state.members p) (turned_system.placed p);
  }
