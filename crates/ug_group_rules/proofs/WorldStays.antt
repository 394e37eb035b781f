-- The world stays, but for an event, and so does whether the system is closed, but for the end.
use Rattle.std.specs.Prelude.{◌==◌, if◌then◌else◌}
use Rattle.std.proofs.Common.{◌≡◌, ℕ, ◌+◌, Bool, true, false, List, [], ◌∷◌, slice_get, Option, Some, None, refl, ◌∙◌}
use Rattle.ug_outbound.specs.declared.key.GroupKey.{GroupKey}
use Rattle.ug_board.specs.declared.steps.LaneStep.{LaneStep}
use Rattle.ug_board.specs.declared.steps.LaneStep.TheVariants.{Next, Lost}
use Rattle.ug_events.specs.Events.{Happening}
use Rattle.ug_world.specs.declared.peer_state.PeerState.{PeerState}
use Rattle.ug_world.specs.World.{World, key_in}
use Rattle.ug_world.specs.After.{after}
use Rattle.ug_speaker.specs.Places.{change_at}
use Rattle.ug_speaker.specs.Counts.{sessions_at}
use Rattle.ug_speaker.specs.Owes.{world_by, closed_by}
use Rattle.ug_group_rules.specs.Machine.{Seat, System, Subgroup, with_loss, seated, unless_empty, without_subgroup, has_members, leave, split, split_by, has_company, join, first_joinable, with_own, rekey, rekeyed, ask, asked, apart, seat_at, Turn, Leaves, Starts, Asks, Rekeys, Stays, with_turn, turn_of, turned, with_turns, in_world, take_event, format_of, slow_of, subgroup_at, after_loss, Job, Take, Format, Merge, Slow, Sync, Close, after_job}
use Rattle.ug_group_rules.specs.Rules.{after_lane, group_rules, group_speech, purpose}

abbrev pub Stands : System → System → Type 0
Stands s t = (t.world ≡ s.world) × (t.closed ≡ s.closed)

stands-then : (s t u : System) → Stands s t → Stands t u → Stands s u
stands-then s t u h k = (k.0 ∙ h.0, k.1 ∙ h.1)

stands_unless : (g : ℕ) (s : System) → Stands s (unless_empty g s)
stands_unless g s = by (has_members g s.members)
  where
    by : (b : Bool) → Stands s (if b then s else without_subgroup g s)
    by true = (refl, refl)
    by false = (refl, refl)

stands_leave : (p : ℕ) (seat : Option Seat) (s : System) → Stands s (leave p seat s)
stands_leave p None s = (refl, refl)
stands_leave p (Some t) s = stands_unless t.sub (seated p None s)

stands_join : (p : ℕ) (key : GroupKey) (g : Option ℕ) (s : System) → Stands s (join p key g s)
stands_join p key (Some g) s = (refl, refl)
stands_join p key None s = (refl, refl)

stands_split : (p : ℕ) (seat : Option Seat) (s : System) → Stands s (split p seat s)
stands_split p None s = (refl, refl)
stands_split p (Some t) s = by (has_company t.sub s.members)
  where
    by : (b : Bool) → Stands s (split_by b p t s)
    by true = (refl, refl)
    by false = (refl, refl)

stands_own : (change : Subgroup → Subgroup) (seat : Option Seat) (s : System) → Stands s (with_own change seat s)
stands_own change None s = (refl, refl)
stands_own change (Some t) s = (refl, refl)

stands_rekeyed : (p : ℕ) (key : GroupKey) (s : System) → Stands s (rekey p key (apart p s))
stands_rekeyed p key s =
    let own = apart p s in
    stands-then s own (rekey p key own) (stands_split p (seat_at p s) s) (stands_own (rekeyed key own.world) (seat_at p own) own)

stands_turn : (turn : Turn) (p : ℕ) (key : GroupKey) (s : System) → Stands s (with_turn turn p key s)
stands_turn Leaves p key s = stands_leave p (seat_at p s) s
stands_turn Starts p key s =
    let gone = leave p (seat_at p s) s in
    stands-then s gone (join p key (first_joinable key 0 gone.subgroups) gone) (stands_leave p (seat_at p s) s) (stands_join p key (first_joinable key 0 gone.subgroups) gone)
stands_turn Asks p key s = let own = rekey p key (apart p s) in stands-then s own (ask p own) (stands_rekeyed p key s) (stands_own asked (seat_at p own) own)
stands_turn Rekeys p key s = stands_rekeyed p key s
stands_turn Stays p key s = (refl, refl)

stands_turned : (e : Happening) (old : World) (p : ℕ) (before : Option PeerState) (s' : PeerState) (s : System) → Stands s (turned e old p before s' s)
stands_turned e old p None s' s = (refl, refl)
stands_turned e old p (Some before) s' s = stands_turn (turn_of e old s.world before s' (seat_at p s)) p (key_in s.world s') s

stands_turns : (e : Happening) (old : World) (p : ℕ) (peers : List PeerState) (s : System) → Stands s (with_turns e old p peers s)
stands_turns e old p [] s = (refl, refl)
stands_turns e old p (s' ∷ peers) s =
    let one = turned e old p (slice_get old.peers p) s' s in
    stands-then s one (with_turns e old (p + 1) peers one) (stands_turned e old p (slice_get old.peers p) s' s) (stands_turns e old (p + 1) peers one)

-- after an event the world is that which it leads to
pub world-event : (e : Happening) (s : System) → (take_event e s).world ≡ after s.world e
world-event e s = (stands_turns e s.world 0 (after s.world e).peers (in_world (after s.world e) s)).0

closed_event : (e : Happening) (s : System) → (take_event e s).closed ≡ s.closed
closed_event e s = (stands_turns e s.world 0 (after s.world e).peers (in_world (after s.world e) s)).1

stands_format : (g : ℕ) (x : Option Subgroup) (s : System) → Stands s (format_of g x s)
stands_format g None s = (refl, refl)
stands_format g (Some x) s = (refl, refl)

stands_slow : (g : ℕ) (x : Option Subgroup) (s : System) → Stands s (slow_of g x s)
stands_slow g None s = (refl, refl)
stands_slow g (Some x) s = (refl, refl)

pub world-job : (job : Job) (s : System) → (after_job job s).world ≡ world_by group_rules group_speech (purpose job) s.world
world-job (Take e) s = world-event e s
world-job (Format g) s = (stands_format g (subgroup_at g s) s).0
world-job (Merge g h) s = refl
world-job (Slow g) s = (stands_slow g (subgroup_at g s) s).0
world-job Sync s = refl
world-job Close s = refl

pub closed-job : (job : Job) (s : System) → (after_job job s).closed ≡ closed_by group_rules group_speech (purpose job) s.closed
closed-job (Take e) s = closed_event e s
closed-job (Format g) s = (stands_format g (subgroup_at g s) s).1
closed-job (Merge g h) s = refl
closed-job (Slow g) s = (stands_slow g (subgroup_at g s) s).1
closed-job Sync s = refl
closed-job Close s = refl

stands_loss : (p n : ℕ) (s : System) → Stands s (after_loss p n s)
stands_loss p n s = by (n == sessions_at p s.world)
  where
    noted : System
    noted = record s { members = change_at (with_loss n) p s.members }

    by : (b : Bool) → Stands s (if b then leave p (seat_at p noted) noted else noted)
    by true = stands_leave p (seat_at p noted) noted
    by false = (refl, refl)

pub stands-lane : (step : LaneStep) (s : System) → Stands s (after_lane step s)
stands-lane (Next p) s = (refl, refl)
stands-lane (Lost p n) s = stands_loss p n s
