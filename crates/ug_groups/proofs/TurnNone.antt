-- An event that is about no peer turns none.
use Rattle.std.proofs.Common.{◌≡◌, ℕ, ◌+◌, suc, Bool, true, false, List, [], ◌∷◌, slice_get, Option, Some, None, refl, sym, ◌∙◌, ap, subst, arith}
use Rattle.std.specs.Prelude.{◌==◌, ◌&&◌, not, is_none, if◌then◌else◌}
use Rattle.std.proofs.lemmas.Bool.{eq-eqb}
use Rattle.ug_events.specs.Events.{Happening}
use Rattle.ug_world.specs.declared.peer_state.PeerState.{PeerState}
use Rattle.ug_world.specs.World.{World, key_in}
use Rattle.ug_world.specs.Touches.{is_about}
use Rattle.ug_speaker.specs.Speech.{is_request}
use Rattle.ug_speaker.proofs.Bools.{both}
use Rattle.ug_outbound.specs.declared.key.GroupKey.{GroupKey}
use Rattle.ug_group_rules.specs.Packets.{same_group}
use Rattle.ug_group_rules.specs.Machine.{Seat, System, seat_at, Turn, Leaves, Starts, Asks, Rekeys, Stays, turn_of, with_turn, turned, with_turns, leave}
use Rattle.ug_group_rules.proofs.Keys.{laws}

-- which turn it is, by five tests
abbrev turn_by : Bool → Bool → Bool → Bool → Bool → Turn
turn_by up same none asks alike = if not up then Leaves else if not same then Starts else if none then Leaves else if asks then Asks else if not alike then Rekeys else Stays

no_turn : (up same none asks alike : Bool) → up ≡ true → same ≡ true → asks ≡ false → alike ≡ true → turn_by up same none asks alike ≡ (if none then Leaves else Stays)
no_turn up same none asks alike a b c d =
    ap (λ (x : Bool). turn_by x same none asks alike) a ∙ ap (λ (x : Bool). turn_by true x none asks alike) b
    ∙ ap (λ (x : Bool). turn_by true true none x alike) c ∙ ap (λ (x : Bool). turn_by true true none false x) d ∙ last none
  where
    last : (n : Bool) → turn_by true true n false true ≡ (if n then Leaves else Stays)
    last true = refl
    last false = refl

stays_or_none : (p : ℕ) (key : GroupKey) (state : System) (seat : Option Seat) → seat_at p state ≡ seat → with_turn (if is_none seat then Leaves else Stays) p key state ≡ state
stays_or_none p key state None at = ap (λ (o : Option Seat). leave p o state) at
stays_or_none p key state (Some t) at = refl

module _ (e : Happening) (old : World) where
  by_seat : (p : ℕ) (s : PeerState) (state : System) → (is_request e && is_about e s) ≡ false → s.up ≡ true → key_in old s ≡ key_in state.world s → with_turn (turn_of e old state.world s s (seat_at p state)) p (key_in state.world s) state ≡ state
  by_seat p s state request up same =
      let session : (s.up && (s.sessions == s.sessions)) ≡ true = both s.up (s.sessions == s.sessions) up (eq-eqb s.sessions s.sessions refl) in
      let alike : same_group (key_in old s) (key_in state.world s) ≡ true = ap (same_group (key_in old s)) (sym same) ∙ laws.refl (key_in old s) in
      ap (λ (t : Turn). with_turn t p (key_in state.world s) state)
      (no_turn s.up (s.up && (s.sessions == s.sessions)) (is_none (seat_at p state)) (is_request e && is_about e s) (same_group (key_in old s) (key_in state.world s)) up session request alike)
      ∙ stays_or_none p (key_in state.world s) state (seat_at p state) refl

  none_turned : (p : ℕ) (s : PeerState) (state : System) (b : Bool) → (is_request e && is_about e s) ≡ false → s.up ≡ b → (s.up ≡ false → seat_at p state ≡ None) → key_in old s ≡ key_in state.world s → turned e old p (Some s) s state ≡ state
  none_turned p s state true request up seats same = by_seat p s state request up same
  none_turned p s state false request up seats same =
      ap (λ (b : Bool). with_turn (turn_by b (s.up && (s.sessions == s.sessions)) (is_none (seat_at p state)) (is_request e && is_about e s) (same_group (key_in old s) (key_in state.world s))) p (key_in state.world s) state) up
      ∙ ap (λ (o : Option Seat). leave p o state) (seats up)

  none_of : (p : ℕ) (peers : List PeerState) (state : System) → ((i : ℕ) (s : PeerState) → slice_get peers i ≡ Some s → slice_get old.peers (p + i) ≡ Some s)
      → ((i : ℕ) (s : PeerState) → slice_get peers i ≡ Some s → s.up ≡ false → seat_at (p + i) state ≡ None)
      → ((i : ℕ) (s : PeerState) → slice_get peers i ≡ Some s → (is_request e && is_about e s) ≡ false)
      → ((s : PeerState) → key_in old s ≡ key_in state.world s) → with_turns e old p peers state ≡ state
  none_of p [] state were seats request same = refl
  none_of p (s ∷ peers) state were seats request same =
      let here : p + 0 ≡ p = omega arith in
      let first : turned e old p (slice_get old.peers p) s state ≡ state =
      ap (λ (o : Option PeerState). turned e old p o s state) (subst (λ (k : ℕ). slice_get old.peers k ≡ Some s) here (were 0 s refl))
      ∙ none_turned p s state s.up (request 0 s refl) refl (subst (λ (k : ℕ). s.up ≡ false → seat_at k state ≡ None) here (seats 0 s refl)) (same s)
      in
      ap (λ (st : System). with_turns e old (p + 1) peers st) first
      ∙ none_of (p + 1) peers state
      (λ i s' is. let next : p + suc i ≡ p + 1 + i = omega arith in subst (λ (k : ℕ). slice_get old.peers k ≡ Some s') next (were (suc i) s' is))
      (λ i s' is. let next : p + suc i ≡ p + 1 + i = omega arith in subst (λ (k : ℕ). s'.up ≡ false → seat_at k state ≡ None) next (seats (suc i) s' is))
      (λ i s' is. request (suc i) s' is)
      same

  from_zero : (i : ℕ) → 0 + i ≡ i
  from_zero i = omega arith

  -- where all peers stay, none that is down sits, and no request is about any
  pub none-turned : (state : System) → ((i : ℕ) (s : PeerState) → slice_get state.world.peers i ≡ Some s → slice_get old.peers i ≡ Some s)
      → ((i : ℕ) (s : PeerState) → slice_get state.world.peers i ≡ Some s → s.up ≡ false → seat_at i state ≡ None)
      → ((i : ℕ) (s : PeerState) → slice_get state.world.peers i ≡ Some s → (is_request e && is_about e s) ≡ false)
      → ((s : PeerState) → key_in old s ≡ key_in state.world s) → with_turns e old 0 state.world.peers state ≡ state
  none-turned state were seats request same =
      none_of 0 state.world.peers state
      (λ i s is. subst (λ (k : ℕ). slice_get old.peers k ≡ Some s) (sym (from_zero i)) (were i s is))
      (λ i s is up. subst (λ (k : ℕ). seat_at k state ≡ None) (sym (from_zero i)) (seats i s is up))
      request same
