-- A turn leaves the world, and all other peers.
use Rattle.std.proofs.Common.{◌≡◌, ℕ, Bool, true, false, slice_get, Option, Some, None, refl, ap, ◌∙◌}
use Rattle.ug_outbound.specs.declared.key.GroupKey.{GroupKey}
use Rattle.ug_events.specs.Events.{Happening}
use Rattle.ug_world.specs.declared.peer_state.PeerState.{PeerState}
use Rattle.ug_world.specs.World.{World, key_in}
use Rattle.ug_speaker.proofs.Places.{changed-there}
use Rattle.ug_group_rules.specs.Machine.{Seat, System, Subgroup, at_end, with_seat, leave, split, split_by, has_company, join, first_joinable, with_own, rekey, rekeyed, ask, asked, apart, seat_of, seat_at, Turn, Leaves, Starts, Asks, Rekeys, Stays, with_turn, turn_of, turned}
use Rattle.ug_group_rules.proofs.Others.{leave-world, leave-members}

abbrev pub Besides : ℕ → System → System → Type 0
Besides p s t = (t.world ≡ s.world) × ((q : ℕ) → (q ≡ p → ⊥) → slice_get t.members q ≡ slice_get s.members q)

besides-then : (p : ℕ) (s t u : System) → Besides p s t → Besides p t u → Besides p s u
besides-then p s t u h k = (k.0 ∙ h.0, λ q apart. k.1 q apart ∙ h.1 q apart)

pub besides-leave : (p : ℕ) (seat : Option Seat) (s : System) → Besides p s (leave p seat s)
besides-leave p seat s = (leave-world p seat s, λ q differs. leave-members p q differs seat s)

besides-join : (p : ℕ) (key : GroupKey) (g : Option ℕ) (s : System) → Besides p s (join p key g s)
besides-join p key (Some g) s = (refl, λ q differs. changed-there (with_seat (at_end g)) p q s.members differs)
besides-join p key None s = (refl, λ q differs. changed-there (with_seat (at_end _)) p q s.members differs)

besides-split : (p : ℕ) (seat : Option Seat) (s : System) → Besides p s (split p seat s)
besides-split p None s = (refl, λ q differs. refl)
besides-split p (Some t) s = by (has_company t.sub s.members)
  where
    by : (b : Bool) → Besides p s (split_by b p t s)
    by true = (refl, λ q differs. changed-there (with_seat _) p q s.members differs)
    by false = (refl, λ q differs. refl)

besides-own : (p : ℕ) (change : Subgroup → Subgroup) (seat : Option Seat) (s : System) → Besides p s (with_own change seat s)
besides-own p change None s = (refl, λ q differs. refl)
besides-own p change (Some t) s = (refl, λ q differs. refl)

besides-rekeyed : (p : ℕ) (key : GroupKey) (s : System) → Besides p s (rekey p key (apart p s))
besides-rekeyed p key s =
    let own = apart p s in
    besides-then p s own (rekey p key own) (besides-split p (seat_at p s) s) (besides-own p (rekeyed key own.world) (seat_at p own) own)

pub besides-turn : (turn : Turn) (p : ℕ) (key : GroupKey) (s : System) → Besides p s (with_turn turn p key s)
besides-turn Leaves p key s = besides-leave p (seat_at p s) s
besides-turn Starts p key s =
    let gone = leave p (seat_at p s) s in
    besides-then p s gone (join p key (first_joinable key 0 gone.subgroups) gone) (besides-leave p (seat_at p s) s) (besides-join p key (first_joinable key 0 gone.subgroups) gone)
besides-turn Asks p key s = let own = rekey p key (apart p s) in besides-then p s own (ask p own) (besides-rekeyed p key s) (besides-own p asked (seat_at p own) own)
besides-turn Rekeys p key s = besides-rekeyed p key s
besides-turn Stays p key s = (refl, λ q differs. refl)

pub besides-turned : (e : Happening) (old : World) (p : ℕ) (before : Option PeerState) (s' : PeerState) (s : System) → Besides p s (turned e old p before s' s)
besides-turned e old p None s' s = (refl, λ q differs. refl)
besides-turned e old p (Some before) s' s = besides-turn (turn_of e old s.world before s' (seat_at p s)) p (key_in s.world s') s

pub besides-seat : (p : ℕ) (s t : System) → Besides p s t → (q : ℕ) → (q ≡ p → ⊥) → seat_at q t ≡ seat_at q s
besides-seat p s t h q differs = ap seat_of (h.1 q differs)
