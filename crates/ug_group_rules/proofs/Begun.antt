-- Jobs begin no session.
use Rattle.std.specs.Prelude.{if◌then◌else◌}
use Rattle.std.proofs.Common.{◌≡◌, ℕ, ◌+◌, Bool, true, false, List, [], ◌∷◌, map, slice_get, Option, Some, None, refl, ◌∙◌, ap}
use Rattle.std.specs.Option.{option_map}
use Rattle.std.proofs.lemmas.Option.{slice_get-map}
use Rattle.ug_outbound.specs.declared.key.GroupKey.{GroupKey}
use Rattle.ug_events.specs.Events.{Happening}
use Rattle.ug_world.specs.declared.peer_state.PeerState.{PeerState}
use Rattle.ug_world.specs.World.{World, key_in}
use Rattle.ug_world.specs.After.{after}
use Rattle.ug_speaker.specs.Places.{change_at}
use Rattle.ug_speaker.proofs.Places.{changed-keeps}
use Rattle.ug_group_rules.specs.Machine.{Seat, Member, System, Subgroup, reseated, with_seat, seated, unless_empty, has_members, leave, split, split_by, has_company, join, first_joinable, with_own, rekey, rekeyed, ask, asked, apart, seat_at, Turn, Leaves, Starts, Asks, Rekeys, Stays, with_turn, turn_of, turned, with_turns, in_world, format_of, slow_of, subgroup_at, start, fresh_member, Job, Take, Format, Merge, Slow, Sync, Close, after_job}
use Rattle.ug_group_rules.specs.Rules.{begun_of}

-- the same sessions are begun in both
abbrev pub Alike : System → System → Type 0
Alike s t = (p : ℕ) → begun_of (slice_get t.members p) ≡ begun_of (slice_get s.members p)

pub alike-then : (s t u : System) → Alike s t → Alike t u → Alike s u
alike-then s t u h k p = k p ∙ h p

reseated_begun : (change : Seat → Seat) (members : List Member) (p : ℕ) → begun_of (slice_get (map (reseated change) members) p) ≡ begun_of (slice_get members p)
reseated_begun change members p = ap begun_of (slice_get-map (reseated change) members p) ∙ by (slice_get members p)
  where
    by : (o : Option Member) → begun_of (option_map (reseated change) o) ≡ begun_of o
    by None = refl
    by (Some m) = refl

seated_alike : (q : ℕ) (seat : Option Seat) (s : System) → Alike s (seated q seat s)
seated_alike q seat s p = changed-keeps begun_of (with_seat seat) q p s.members (λ m. refl)

unless_alike : (g : ℕ) (s : System) → Alike s (unless_empty g s)
unless_alike g s p = by (has_members g s.members)
  where
    by : (b : Bool) → begun_of (slice_get (if b then s else record s { subgroups = change_at (λ (x : Option Subgroup). None) g s.subgroups }).members p) ≡ begun_of (slice_get s.members p)
    by true = refl
    by false = refl

leave_alike : (q : ℕ) (seat : Option Seat) (s : System) → Alike s (leave q seat s)
leave_alike q None s = λ p. refl
leave_alike q (Some t) s = alike-then s (seated q None s) (unless_empty t.sub (seated q None s)) (seated_alike q None s) (unless_alike t.sub (seated q None s))

join_alike : (q : ℕ) (key : GroupKey) (found : Option ℕ) (s : System) → Alike s (join q key found s)
join_alike q key (Some g) s = seated_alike q _ s
join_alike q key None s = seated_alike q _ s

split_alike : (b : Bool) (q : ℕ) (t : Seat) (s : System) → Alike s (split_by b q t s)
split_alike true q t s = seated_alike q _ s
split_alike false q t s = λ p. refl

apart_alike : (q : ℕ) (o : Option Seat) (s : System) → Alike s (split q o s)
apart_alike q None s = λ p. refl
apart_alike q (Some t) s = split_alike (has_company t.sub s.members) q t s

own_alike : (change : Subgroup → Subgroup) (o : Option Seat) (s : System) → Alike s (with_own change o s)
own_alike change None s = λ p. refl
own_alike change (Some t) s = λ p. refl

rekeyed_alike : (q : ℕ) (key : GroupKey) (s : System) → Alike s (rekey q key (apart q s))
rekeyed_alike q key s = alike-then s (apart q s) (rekey q key (apart q s)) (apart_alike q (seat_at q s) s) (own_alike (rekeyed key (apart q s).world) (seat_at q (apart q s)) (apart q s))

turn_alike : (turn : Turn) (q : ℕ) (key : GroupKey) (s : System) → Alike s (with_turn turn q key s)
turn_alike Leaves q key s = leave_alike q (seat_at q s) s
turn_alike Starts q key s =
    let gone = leave q (seat_at q s) s in
    alike-then s gone (join q key (first_joinable key 0 gone.subgroups) gone) (leave_alike q (seat_at q s) s) (join_alike q key (first_joinable key 0 gone.subgroups) gone)
turn_alike Asks q key s =
    alike-then s (rekey q key (apart q s)) (ask q (rekey q key (apart q s))) (rekeyed_alike q key s) (own_alike asked (seat_at q (rekey q key (apart q s))) (rekey q key (apart q s)))
turn_alike Rekeys q key s = rekeyed_alike q key s
turn_alike Stays q key s = λ p. refl

turned_alike : (e : Happening) (old : World) (q : ℕ) (before : Option PeerState) (s' : PeerState) (s : System) → Alike s (turned e old q before s' s)
turned_alike e old q None s' s = λ p. refl
turned_alike e old q (Some before) s' s = turn_alike (turn_of e old s.world before s' (seat_at q s)) q (key_in s.world s') s

turns_alike : (e : Happening) (old : World) (q : ℕ) (peers : List PeerState) (s : System) → Alike s (with_turns e old q peers s)
turns_alike e old q [] s = λ p. refl
turns_alike e old q (s' ∷ peers) s =
    let next = turned e old q (slice_get old.peers q) s' s in
    alike-then s next (with_turns e old (q + 1) peers next) (turned_alike e old q (slice_get old.peers q) s' s) (turns_alike e old (q + 1) peers next)

format_alike : (g : ℕ) (o : Option Subgroup) (s : System) → Alike s (format_of g o s)
format_alike g None s = λ p. refl
format_alike g (Some x) s = λ p. reseated_begun _ s.members p

slow_alike : (g : ℕ) (o : Option Subgroup) (s : System) → Alike s (slow_of g o s)
slow_alike g None s = λ p. refl
slow_alike g (Some x) s = λ p. reseated_begun _ s.members p

pub jobs-alike : (job : Job) (s : System) → Alike s (after_job job s)
jobs-alike (Take e) s = turns_alike e s.world 0 (after s.world e).peers (in_world (after s.world e) s)
jobs-alike (Format g) s = format_alike g (subgroup_at g s) s
jobs-alike (Merge g h) s = λ p. reseated_begun _ s.members p
jobs-alike (Slow g) s = slow_alike g (subgroup_at g s) s
jobs-alike Sync s = λ p. refl
jobs-alike Close s = λ p. refl

pub start-begun : (w : World) (p : ℕ) → begun_of (slice_get (start w).members p) ≡ 0
start-begun w p = ap begun_of (slice_get-map (λ (s : PeerState). fresh_member) w.peers p) ∙ by (slice_get w.peers p)
  where
    by : (o : Option PeerState) → begun_of (option_map (λ (s : PeerState). fresh_member) o) ≡ 0
    by None = refl
    by (Some s) = refl

-- a loss begins no session
pub loss-leave : (q : ℕ) (s : System) → Alike s (leave q (seat_at q s) s)
loss-leave q s = leave_alike q (seat_at q s) s
