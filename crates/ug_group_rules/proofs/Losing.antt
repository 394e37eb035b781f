-- A loss that is noted keeps what is so of the system.
use Rattle.std.proofs.Common.{◌≡◌, ℕ, Bool, true, false, List, [], ◌∷◌, ◌++◌, slice_get, Option, Some, None, refl, sym, ◌∙◌, ap, subst}
use Rattle.std.specs.Prelude.{◌==◌, if◌then◌else◌}
use Rattle.std.specs.Option.{option_map}
use Rattle.std.proofs.lemmas.Bool.{eqb-true, eq-eqb}
use Rattle.std.proofs.lemmas.List.{append-nil}
use Rattle.ug_types.specs.Messages.{Message}
use Rattle.ug_board.specs.Deeds.{Deed, Loses, when}
use Rattle.ug_world.specs.declared.peer_state.PeerState.{PeerState}
use Rattle.ug_world.specs.World.{World, key_in}
use Rattle.ug_speaker.specs.Places.{change_at}
use Rattle.ug_speaker.specs.Counts.{has, sessions_at, sessions_had}
use Rattle.ug_speaker.proofs.Places.{changed-here, changed-there}
use Rattle.ug_group_rules.specs.Machine.{Member, System, seat_of, seat_at, with_loss, with_seat, after_loss, leave, has_unlost}
use Rattle.ug_group_rules.proofs.MemberStreams.{IsKept}
use Rattle.ug_group_rules.proofs.Seated.{IsPlacedAt, IsSystem}
use Rattle.ug_group_rules.proofs.PeerLanes.{placed-loses, placed-gone}
use Rattle.ug_group_rules.proofs.Others.{leave-world, leave-members, leave-there, leave-kept, leave-here, placed-elsewhere}

module _ (worlds : List World) (deeds_at : ℕ → List (Deed Message)) (state : System) (system : IsSystem worlds deeds_at state) (q n : ℕ) (may : has_unlost n (slice_get state.members q) ≡ true) where
  abbrev deeds_then : ℕ → Bool → List (Deed Message)
  deeds_then p b = deeds_at p ++ (when b (Loses n ∷ []) ++ [])

  abbrev noted : System
  noted = record state { members = change_at (with_loss n) q state.members }

  abbrev left : System
  left = leave q (seat_at q noted) noted

  apart_from : (p : ℕ) → (q == p) ≡ false → p ≡ q → ⊥
  apart_from p e same = let so = eq-eqb q p (sym same) in absurd cc

  -- ---- another peer

  there_noted : (p : ℕ) → (q == p) ≡ false → slice_get noted.members p ≡ slice_get state.members p
  there_noted p e = changed-there (with_loss n) q p state.members (apart_from p e)

  other_left : (p : ℕ) → (q == p) ≡ false → (o : Option PeerState) (u : Option Member) → slice_get state.members p ≡ u → IsPlacedAt p worlds (deeds_at p) state.world state.subgroups o u
      → IsPlacedAt p worlds (deeds_at p) state.world left.subgroups o (slice_get left.members p)
  other_left p e (Some s) (Some m) at placed =
      subst (λ (v : Option Member). IsPlacedAt p worlds (deeds_at p) state.world left.subgroups (Some s) v) (sym (leave-members q p (apart_from p e) (seat_at q noted) noted ∙ there_noted p e ∙ at))
      (placed-elsewhere p worlds (deeds_at p) s m state.subgroups left.subgroups (key_in state.world s) (λ t sits. leave-there q p (apart_from p e) noted m (there_noted p e ∙ at) (seat_at q noted) t sits) placed)
  other_left p e None None at placed =
      subst (λ (v : Option Member). IsPlacedAt p worlds (deeds_at p) state.world left.subgroups None v) (sym (leave-members q p (apart_from p e) (seat_at q noted) noted ∙ there_noted p e ∙ at)) tt
  other_left p e (Some s) None at placed = absurd placed
  other_left p e None (Some m) at placed = absurd placed

  -- ---- all peers

  loses_there : (p : ℕ) (s : PeerState) (m : Member) → q ≡ p → slice_get state.members p ≡ Some m → has m.unlost n ≡ true
  loses_there p s m same at = sym (ap (λ (k : ℕ). has_unlost n (slice_get state.members k)) same ∙ ap (has_unlost n) at) ∙ may

  member_noted : (p : ℕ) (m : Member) → q ≡ p → slice_get state.members p ≡ Some m → slice_get noted.members p ≡ Some (with_loss n m)
  member_noted p m same at = ap (λ (k : ℕ). slice_get (change_at (with_loss n) k state.members) p) same ∙ changed-here (with_loss n) p state.members ∙ ap (option_map (with_loss n)) at

  -- an earlier session
  earlier_at : (n == sessions_at q state.world) ≡ false → (p : ℕ) (b : Bool) → (q == p) ≡ b → (o : Option PeerState) (u : Option Member) → slice_get state.world.peers p ≡ o → slice_get state.members p ≡ u
      → IsPlacedAt p worlds (deeds_at p) state.world state.subgroups o u → IsPlacedAt p worlds (deeds_then p b) state.world noted.subgroups o (slice_get noted.members p)
  earlier_at other p false e o u peer at placed =
      subst (λ (v : Option Member). IsPlacedAt p worlds (deeds_at p ++ []) state.world state.subgroups o v) (sym (there_noted p e ∙ at))
      (subst (λ (ds : List (Deed Message)). IsPlacedAt p worlds ds state.world state.subgroups o u) (sym (append-nil (deeds_at p))) placed)
  earlier_at other p true e (Some s) (Some m) peer at placed =
      let same : q ≡ p = eqb-true q p e in
      let had : (n == s.sessions) ≡ false = sym (ap (λ (k : ℕ). n == k) (ap (λ (k : ℕ). sessions_at k state.world) same ∙ ap sessions_had peer)) ∙ other in
      subst (λ (v : Option Member). IsPlacedAt p worlds (deeds_at p ++ Loses n ∷ []) state.world state.subgroups (Some s) v) (sym (member_noted p m same at))
      (placed-loses p worlds (deeds_at p) s m state.subgroups (key_in state.world s) placed n (loses_there p s m same at) had)
  earlier_at other p true e None None peer at placed =
      let same : q ≡ p = eqb-true q p e in
      let none : has_unlost n (slice_get state.members q) ≡ false = ap (λ (k : ℕ). has_unlost n (slice_get state.members k)) same ∙ ap (has_unlost n) at in absurd cc
  earlier_at other p true e (Some s) None peer at placed = absurd placed
  earlier_at other p true e None (Some m) peer at placed = absurd placed

  -- the present one
  present_at : (n == sessions_at q state.world) ≡ true → (p : ℕ) (b : Bool) → (q == p) ≡ b → (o : Option PeerState) (u : Option Member) → slice_get state.world.peers p ≡ o → slice_get state.members p ≡ u
      → IsPlacedAt p worlds (deeds_at p) state.world state.subgroups o u → IsPlacedAt p worlds (deeds_then p b) state.world left.subgroups o (slice_get left.members p)
  present_at now p false e o u peer at placed =
      subst (λ (ds : List (Deed Message)). IsPlacedAt p worlds ds state.world left.subgroups o (slice_get left.members p)) (sym (append-nil (deeds_at p))) (other_left p e o u at placed)
  present_at now p true e (Some s) (Some m) peer at placed =
      let same : q ≡ p = eqb-true q p e in
      let had : (n == s.sessions) ≡ true = sym (ap (λ (k : ℕ). n == k) (ap (λ (k : ℕ). sessions_at k state.world) same ∙ ap sessions_had peer)) ∙ now in
      let member = member_noted p m same at in
      let seat : seat_at q noted ≡ m.seat = ap (λ (k : ℕ). seat_of (slice_get noted.members k)) same ∙ ap seat_of member in
      let gone : slice_get left.members p ≡ Some (with_seat None (with_loss n m)) =
      ap (λ (k : ℕ). slice_get (leave k (seat_at q noted) noted).members p) same ∙ leave-here p (seat_at q noted) noted (with_loss n m) member (sym seat) in
      subst (λ (v : Option Member). IsPlacedAt p worlds (deeds_at p ++ Loses n ∷ []) state.world left.subgroups (Some s) v) (sym gone)
      (placed-gone p worlds (deeds_at p) s m state.subgroups (key_in state.world s) placed n (loses_there p s m same at) (with_seat None (with_loss n m)) refl had left.subgroups)
  present_at now p true e None None peer at placed =
      let same : q ≡ p = eqb-true q p e in
      let none : has_unlost n (slice_get state.members q) ≡ false = ap (λ (k : ℕ). has_unlost n (slice_get state.members k)) same ∙ ap (has_unlost n) at in absurd cc
  present_at now p true e (Some s) None peer at placed = absurd placed
  present_at now p true e None (Some m) peer at placed = absurd placed

  abbrev DeedsLost : ℕ → List (Deed Message)
  DeedsLost p = deeds_at p ++ (when (q == p) (Loses n ∷ []) ++ [])

  noted_system : (n == sessions_at q state.world) ≡ false → IsSystem worlds DeedsLost noted
  noted_system other = record {
    kept = system.kept;
    placed = λ p. earlier_at other p (q == p) refl (slice_get state.world.peers p) (slice_get state.members p) refl refl (system.placed p);
  }

  left_system : (n == sessions_at q state.world) ≡ true → IsSystem worlds DeedsLost left
  left_system now = record {
    kept = λ g x is. subst (λ (w : World). IsKept w x) (sym (leave-world q (seat_at q noted) noted)) (system.kept g x (leave-kept q (seat_at q noted) noted g x is));
    placed = λ p.
        subst (λ (w : World). IsPlacedAt p worlds (DeedsLost p) w left.subgroups (slice_get w.peers p) (slice_get left.members p)) (sym (leave-world q (seat_at q noted) noted))
        (present_at now p (q == p) refl (slice_get state.world.peers p) (slice_get state.members p) refl refl (system.placed p));
  }

  pub system-lost : IsSystem worlds DeedsLost (after_loss q n state)
  system-lost = by (n == sessions_at q state.world) refl
    where
      by : (b : Bool) → (n == sessions_at q state.world) ≡ b → IsSystem worlds DeedsLost (if b then left else noted)
      by true e = left_system e
      by false e = noted_system e
