-- The turn that a peer takes in an event.
use Rattle.std.proofs.Common.{◌≡◌, ℕ, ◌+◌, inl, inr, Bool, true, false, List, slice_get, Option, Some, None, refl, sym, ◌∙◌, ap, subst}
use Rattle.std.specs.Prelude.{◌==◌, ◌&&◌, not, is_none, if◌then◌else◌}
use Rattle.std.proofs.lemmas.Bool.{eqb-true, eq-eqb}
use Rattle.ug_types.specs.Messages.{Message}
use Rattle.ug_board.specs.Deeds.{Deed}
use Rattle.ug_outbound.specs.declared.key.GroupKey.{GroupKey}
use Rattle.ug_outbound.specs.Keys.{ends_of}
use Rattle.ug_events.specs.Events.{Happening}
use Rattle.ug_world.specs.declared.peer_state.PeerState.{PeerState}
use Rattle.ug_world.specs.World.{World, key_in}
use Rattle.ug_world.specs.Touches.{is_about}
use Rattle.ug_speaker.specs.Speech.{is_request}
use Rattle.ug_speaker.specs.Counts.{is_lost_at}
use Rattle.ug_speaker.proofs.Bools.{both_so, both, not_so}
use Rattle.ug_speaker.proofs.Peers.{IsNextOf}
use Rattle.ug_group_rules.specs.Packets.{same_group}
use Rattle.ug_group_rules.specs.Machine.{Subgroup, Seat, Member, System, seat_of, seat_at, leave, Leaves, Starts, Asks, Rekeys, Stays, turn_of, with_turn, turned}
use Rattle.ug_group_rules.proofs.Groups.{group-same}
use Rattle.ug_group_rules.proofs.MemberStreams.{IsKept}
use Rattle.ug_group_rules.proofs.Seated.{counts_of, IsPlaced}
use Rattle.ug_group_rules.proofs.Turns.{IsDone, done-leaves, done-starts, done-stays, done-rekeys, done-asks}

module _ (e : Happening) (q : ℕ) (worlds : List World) (deeds : List (Deed Message)) (old : World) (s s' : PeerState) (m : Member) (state : System) (placed : IsPlaced q worlds deeds s m state.subgroups (key_in old s))
    (is : slice_get state.members q ≡ Some m) (kept : (g : ℕ) (x : Subgroup) → slice_get state.subgroups g ≡ Some (Some x) → IsKept state.world x) (next : IsNextOf s s') (ends : ends_of s'.peer ≡ ends_of s.peer) where
  abbrev key : GroupKey
  key = key_in state.world s'

  abbrev Done : Bool → System → Type 0
  Done asks new = IsDone asks q worlds deeds s s' m key state new

  leaves_down : (asks : Bool) → s'.up ≡ false → Done asks (leave q (seat_at q state) state)
  leaves_down asks down = done-leaves q worlds deeds s s' m (key_in old s) key state placed is kept next ends asks (ap (λ (b : Bool). b && not (is_lost_at (counts_of m) s'.sessions)) down)

  -- up, in a session that it wasn't up in before
  new_session : s'.up ≡ true → (s.up && (s.sessions == s'.sessions)) ≡ false → s'.sessions ≡ s.sessions + 1
  new_session up fresh =
      elim next.moved [
        | inl stays ↦ let was : s.up ≡ true = sym stays.0 ∙ up in let same : (s.sessions == s'.sessions) ≡ true = eq-eqb s.sessions s'.sessions (sym stays.1) in
            let so : (s.up && (s.sessions == s'.sessions)) ≡ true = both s.up (s.sessions == s'.sessions) was same in absurd cc
        | inr other ↦ elim other [ inl down ↦ let no = down.0 in absurd cc | inr more ↦ more.1 ]
      ]

  -- up in the same session
  same_up : s'.up ≡ true → (s.up && (s.sessions == s'.sessions)) ≡ true → s'.up ≡ s.up
  same_up up same = up ∙ sym (both_so s.up (s.sessions == s'.sessions) same).0

  same_session : (s.up && (s.sessions == s'.sessions)) ≡ true → s'.sessions ≡ s.sessions
  same_session same = sym (eqb-true s.sessions s'.sessions (both_so s.up (s.sessions == s'.sessions) same).1)

  leaves_lost : (asks : Bool) → s'.up ≡ true → (s.up && (s.sessions == s'.sessions)) ≡ true → m.seat ≡ None → Done asks (leave q (seat_at q state) state)
  leaves_lost asks up same none =
      done-leaves q worlds deeds s s' m (key_in old s) key state placed is kept next ends asks
      (ap (λ (b : Bool). b && not (is_lost_at (counts_of m) s'.sessions)) (same_up up same) ∙ ap (λ (k : ℕ). s.up && not (is_lost_at (counts_of m) k)) (same_session same) ∙ placed.empty none)

  marked : key.enhanced_refresh ≡ (key_in old s).enhanced_refresh
  marked = next.enhanced

  turn_by : (down fresh none asks same : Bool) → not s'.up ≡ down → not (s.up && (s.sessions == s'.sessions)) ≡ fresh → (o : Option Seat) → m.seat ≡ o → is_none o ≡ none → same_group (key_in old s) key ≡ same
      → Done asks (with_turn (if down then Leaves else (if fresh then Starts else (if none then Leaves else (if asks then Asks else (if not same then Rekeys else Stays))))) q key state)
  turn_by true fresh none asks same down_is fresh_is o at none_is same_is = leaves_down asks (not_so s'.up down_is)
  turn_by false true none asks same down_is fresh_is o at none_is same_is =
      let up : s'.up ≡ true = not_false s'.up down_is in
      done-starts q worlds deeds s s' m (key_in old s) key state placed is kept next ends asks up (new_session up (not_so (s.up && (s.sessions == s'.sessions)) fresh_is))
    where
      not_false : (b : Bool) → not b ≡ false → b ≡ true
      not_false true e = refl
      not_false false e = absurd cc
  turn_by false false none asks same down_is fresh_is None at none_is same_is =
      subst (λ (b : Bool). Done asks (with_turn (if b then Leaves else (if asks then Asks else (if not same then Rekeys else Stays))) q key state)) none_is
      (leaves_lost asks (not_false s'.up down_is) (not_false (s.up && (s.sessions == s'.sessions)) fresh_is) at)
    where
      not_false : (b : Bool) → not b ≡ false → b ≡ true
      not_false true e = refl
      not_false false e = absurd cc
  turn_by false false none asks same down_is fresh_is (Some t) at none_is same_is =
      subst (λ (b : Bool). Done asks (with_turn (if b then Leaves else (if asks then Asks else (if not same then Rekeys else Stays))) q key state)) none_is (by asks same same_is)
    where
      not_false : (b : Bool) → not b ≡ false → b ≡ true
      not_false true e = refl
      not_false false e = absurd cc

      up : s'.up ≡ true
      up = not_false s'.up down_is

      here : (s.up && (s.sessions == s'.sessions)) ≡ true
      here = not_false (s.up && (s.sessions == s'.sessions)) fresh_is

      by : (asks same : Bool) → same_group (key_in old s) key ≡ same → Done asks (with_turn (if asks then Asks else (if not same then Rekeys else Stays)) q key state)
      by true same e = done-asks q worlds deeds s s' m (key_in old s) key state placed is kept next ends (same_up up here) (same_session here) t at marked true
      by false false e = done-rekeys q worlds deeds s s' m (key_in old s) key state placed is kept next ends (same_up up here) (same_session here) t at marked
      by false true e = done-stays q worlds deeds s s' m (key_in old s) key state placed is kept next ends (same_up up here) (same_session here) t at marked (group-same (key_in old s) key e)

  pub done-turned : Done (is_request e && is_about e s') (turned e old q (Some s) s' state)
  done-turned =
      subst (λ (o : Option Seat). Done (is_request e && is_about e s') (with_turn (turn_of e old state.world s s' o) q key state)) (sym (ap seat_of is))
      (turn_by (not s'.up) (not (s.up && (s.sessions == s'.sessions))) (is_none m.seat) (is_request e && is_about e s') (same_group (key_in old s) key) refl refl m.seat refl refl refl)
