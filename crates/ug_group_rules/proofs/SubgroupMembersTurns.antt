-- In an event each subgroup that is there keeps a member, or finds one.
use Rattle.std.proofs.Common.{◌≡◌, ℕ, ◌+◌, suc, inl, inr, List, [], ◌∷◌, ◌++◌, length, slice_get, Option, Some, None, refl, sym, ◌∙◌, ap, subst, arith}
use Rattle.ug_types.specs.Messages.{Message}
use Rattle.ug_board.specs.Deeds.{Deed}
use Rattle.ug_outbound.specs.declared.key.GroupKey.{GroupKey}
use Rattle.ug_events.specs.Events.{Happening}
use Rattle.ug_world.specs.declared.peer_state.PeerState.{PeerState}
use Rattle.ug_world.specs.World.{World, key_in}
use Rattle.ug_world.specs.After.{after}
use Rattle.ug_group_rules.specs.Machine.{Subgroup, Seat, Member, System, has_company, seat_of, seat_at, with_seat, seated, leave, join, first_joinable, at_end, fresh_subgroup, split, apart, with_own, rekey, rekeyed, asked, Turn, Leaves, Starts, Asks, Rekeys, Stays, turn_of, with_turn, turned, with_turns, in_world, take_event}
use Rattle.ug_group_rules.proofs.Seated.{IsSystem}
use Rattle.ug_group_rules.proofs.Others.{leave-here}
use Rattle.ug_group_rules.proofs.Retabling.{retabled-from, counted-from}
use Rattle.ug_group_rules.proofs.Events.{IsTurning, takes-turn, turning-step, turning-first}
use Rattle.ug_group_rules.proofs.SubgroupMembers.{Sits, AreHeld, new-at, there-changed, sits-apart, sits-now, here-sits, held-leaves, held-split}

-- ---- one turn

pub held-left : (q : ℕ) (s : System) → AreHeld s → AreHeld (leave q (seat_at q s) s)
held-left q s held = by (slice_get s.members q) refl
  where
    at_seat : (m : Member) → slice_get s.members q ≡ Some m → (o : Option Seat) → m.seat ≡ o → AreHeld (leave q o s)
    at_seat m is None at = held
    at_seat m is (Some t) at = held-leaves q s m is held t at

    by : (u : Option Member) → slice_get s.members q ≡ u → AreHeld (leave q (seat_of u) s)
    by None is = held
    by (Some m) is = at_seat m is m.seat refl

module _ (q : ℕ) (s : System) (m : Member) (is : slice_get s.members q ≡ Some m) (held : AreHeld s) where
  seat_is : seat_at q s ≡ m.seat
  seat_is = ap seat_of is

  -- who sat nowhere sits in a subgroup more
  held_joins : m.seat ≡ None → (key : GroupKey) (found : Option ℕ) → AreHeld (join q key found s)
  held_joins none key found = by found
    where
      nowhere : (k : ℕ) (sat : Sits k s.members) → sat.place ≡ q → ⊥
      nowhere k sat same = let both : None ≡ Some sat.seat = sym none ∙ here-sits q s m is held k sat same in absurd cc

      by : (o : Option ℕ) → AreHeld (join q key o s)
      by (Some g) = λ k x there. sits-apart q (at_end g) k s.members (held k x there) (nowhere k (held k x there))
      by None = λ k x there. elim (new-at s.subgroups (Some (fresh_subgroup key s.world)) x k there) [
        | inl old ↦ sits-apart q (at_end (length s.subgroups)) k s.members (held k x old) (nowhere k (held k x old))
        | inr new ↦
            subst (λ (j : ℕ). Sits j (seated q (at_end (length s.subgroups)) s).members) (sym new)
            (sits-now q (record { sub = length s.subgroups; rest = [] }) s.members m is)
      ]

  held_apart : AreHeld (apart q s)
  held_apart = subst (λ (o : Option Seat). AreHeld (split q o s)) (sym seat_is) (by m.seat refl)
    where
      by : (o : Option Seat) → m.seat ≡ o → AreHeld (split q o s)
      by None at = held
      by (Some t) at = held-split q s m is held t at (has_company t.sub s.members) refl

held_own : (change : Subgroup → Subgroup) (o : Option Seat) (s : System) → AreHeld s → AreHeld (with_own change o s)
held_own change None s held = held
held_own change (Some t) s held = λ k x there. let found = there-changed change t.sub k s.subgroups x there in held k found.0 found.1

held_rekeyed : (q : ℕ) (key : GroupKey) (s : System) → AreHeld s → AreHeld (rekey q key s)
held_rekeyed q key s held = held_own (rekeyed key s.world) (seat_at q s) s held

module _ (q : ℕ) (key : GroupKey) (s : System) (m : Member) (is : slice_get s.members q ≡ Some m) (held : AreHeld s) where
  abbrev gone : System
  gone = leave q (seat_at q s) s

  held_turn : (turn : Turn) → AreHeld (with_turn turn q key s)
  held_turn Leaves = held-left q s held
  held_turn Starts = held_joins q gone (with_seat None m) (leave-here q (seat_at q s) s m is (sym (ap seat_of is))) (held-left q s held) refl key (first_joinable key 0 gone.subgroups)
  held_turn Asks = held_own asked (seat_at q (rekey q key (apart q s))) (rekey q key (apart q s)) (held_rekeyed q key (apart q s) (held_apart q s m is held))
  held_turn Rekeys = held_rekeyed q key (apart q s) (held_apart q s m is held)
  held_turn Stays = held

held_turned : (e : Happening) (old : World) (q : ℕ) (o : Option PeerState) (s' : PeerState) (s : System) (m : Member) → slice_get s.members q ≡ Some m → AreHeld s → AreHeld (turned e old q o s' s)
held_turned e old q None s' s m is held = held
held_turned e old q (Some before) s' s m is held = held_turn q (key_in s.world s') s m is held (turn_of e old s.world before s' (seat_at q s))

-- ---- all turns

held_turns : (e : Happening) (worlds : List World) (deeds_at : ℕ → List (Deed Message)) (old : World) (k : ℕ) (peers : List PeerState) (s : System)
    → ((i : ℕ) (p : PeerState) → slice_get peers i ≡ Some p → slice_get (after old e).peers (k + i) ≡ Some p) → IsTurning e worlds deeds_at old k s → AreHeld s → AreHeld (with_turns e old k peers s)
held_turns e worlds deeds_at old k [] s are turning held = held
held_turns e worlds deeds_at old k (s' ∷ peers) s are turning held =
    let first : slice_get (after old e).peers k ≡ Some s' = (let here : k + 0 ≡ k = omega arith in subst (λ (j : ℕ). slice_get (after old e).peers j ≡ Some s') here (are 0 s' refl)) in
    let turn = takes-turn e worlds deeds_at old k s' s first turning in
    held_turns e worlds deeds_at old (k + 1) peers (turned e old k (slice_get old.peers k) s' s)
    (λ i p is. let there : k + suc i ≡ k + 1 + i = omega arith in subst (λ (j : ℕ). slice_get (after old e).peers j ≡ Some p) there (are (suc i) p is))
    (turning-step e worlds deeds_at old k s' s first turning) (held_turned e old k (slice_get old.peers k) s' s turn.member turn.at held)

module _ (e : Happening) (worlds : List World) (deeds_at : ℕ → List (Deed Message)) (s : System) (system : IsSystem worlds deeds_at s) (held : AreHeld s) where
  abbrev now : World
  now = after s.world e

  abbrev turned_state : System
  turned_state = with_turns e s.world 0 now.peers (in_world now s)

  held_tabled : AreHeld (in_world now s)
  held_tabled g y there = let found = retabled-from now s.subgroups g y there in held g found.0 found.1

  held_all : AreHeld turned_state
  held_all =
      held_turns e (worlds ++ now ∷ []) deeds_at s.world 0 now.peers (in_world now s)
      (λ i p is. let here : i ≡ 0 + i = omega arith in subst (λ (j : ℕ). slice_get now.peers j ≡ Some p) here is)
      (turning-first e worlds deeds_at s system) held_tabled

  pub held-event : AreHeld (take_event e s)
  held-event g y there = let found = counted-from turned_state turned_state.subgroups g y there in held_all g found.0 found.1
