-- Update groups. Peers that are sent the same routes but for the next hop have one group key. Those of them that stand at
-- the same point share a subgroup: one Adj-RIB-Out and one queue of formatted packets, from which each takes at its own
-- pace. Subgroups split where their members part, and merge where they meet again. This file tells the state, and then
-- each step: when it may be taken, what it changes and what it answers.
use Rattle.std.specs.Prelude.{ℕ, ◌+◌, ◌==◌, ◌%◌, nat_lt, nat_le, max, Bool, true, false, ◌&&◌, ◌||◌, not, List, [], ◌∷◌, ◌++◌, map, length, filter, count_by, slice_get, Option, Some, None, is_some, is_none, if◌then◌else◌}
use Rattle.std.specs.List.{list_any}
use Rattle.std.specs.Option.{option_map}
use Rattle.ug_types.specs.declared.mark.Mark.{Mark}
use Rattle.ug_types.specs.declared.key.Key.{Key}
use Rattle.ug_types.specs.declared.route.OutAttrs.{OutAttrs}
use Rattle.ug_types.specs.Bytes.{is_empty}
use Rattle.ug_board.specs.Deeds.{when}
use Rattle.ug_outbound.specs.declared.key.GroupKey.{GroupKey}
use Rattle.ug_events.specs.Events.{Happening}
use Rattle.ug_world.specs.declared.peer_state.PeerState.{PeerState}
use Rattle.ug_world.specs.World.{World, key_in}
use Rattle.ug_world.specs.Verdicts.{verdict}
use Rattle.ug_world.specs.After.{after}
use Rattle.ug_world.specs.Touches.{is_about}
use Rattle.ug_adjout.specs.Formatting.{Due}
use Rattle.ug_adjout.specs.Formatting.Due.{Nothing, Withdraws, Announces}
use Rattle.ug_speaker.specs.Speech.{is_request}
use Rattle.ug_speaker.specs.Places.{change_at}
use Rattle.ug_speaker.specs.Counts.{has, sessions_at}
use Rattle.ug_group_rules.specs.declared.phase.Phase.{Phase}
use Rattle.ug_group_rules.specs.declared.phase.Phase.TheVariants.{Quiet, Owed, Open}
use Rattle.ug_group_rules.specs.Packets.{Out, Packet, Says, Withdrawn, Announced, EndOfRib, RefreshBegins, RefreshEnds, same_group, wanted_rows, with_all_desired, all_desired, all_forced, with_told, routes_due}

-- A subgroup: its group key; the table that its packets have told (`formatted`), the one that its members should have
-- (`desired`), the keys that a refresh forces and those that are pending; whether End-of-RIB is still due; whether
-- nothing was formatted yet; the phase; and through how many events in a row its queue was full with keys pending.
pub record Subgroup : Type 0 where
  pub key : GroupKey
  pub out : Out
  pub ending : Bool
  pub fresh : Bool
  pub phase : Phase
  pub stuck : ℕ

-- where a live peer stands: its subgroup, and the packets from its cursor on
pub record Seat : Type 0 where
  pub sub : ℕ
  pub rest : List Packet

-- A peer: how many sessions were begun, which of them aren't lost, how many messages were handed out in the last of
-- them, and its seat while it is live.
pub record Member : Type 0 where
  pub begun : ℕ
  pub unlost : List ℕ
  pub handed : ℕ
  pub seat : Option Seat

-- The system: the world; whether there will be no more jobs; how many packets were formatted; the subgroups by number,
-- none where one is gone, so that their count is the next number; and the peers in configured order.
pub record System : Type 0 where
  pub world : World
  pub closed : Bool
  pub made : ℕ
  pub subgroups : List (Option Subgroup)
  pub members : List Member

-- ---- a subgroup

abbrev pub is_quiet : Phase → Bool
is_quiet Quiet = true
is_quiet Owed = false
is_quiet Open = false

abbrev pub is_owed : Phase → Bool
is_owed Quiet = false
is_owed Owed = true
is_owed Open = false

abbrev pub is_pending : Subgroup → Bool
is_pending x = not (is_empty x.out.pending)

-- A packet is owed: keys are pending, End-of-RIB is due, or a refresh has to begin or to end.
abbrev pub owes : Subgroup → Bool
owes x = is_pending x || (x.ending || not (is_quiet x.phase))

-- Its members have all that they should have, once they have taken its packets.
abbrev pub is_level : Subgroup → Bool
is_level x = not (owes x) && is_empty x.out.forced

-- ---- who sits where

abbrev pub sits_in : ℕ → Option Seat → Bool
sits_in g None = false
sits_in g (Some t) = t.sub == g

abbrev pub sits : ℕ → Member → Bool
sits g m = sits_in g m.seat

abbrev pub has_members : ℕ → List Member → Bool
has_members g members = list_any (sits g) members

-- how many packets a seat in the subgroup has still to take
abbrev pub left_in : ℕ → Option Seat → ℕ
left_in g None = 0
left_in g (Some t) = if t.sub == g then length t.rest else 0

-- The queue of a subgroup holds the packets that some member has still to take: it is the longest of their rests.
abbrev pub queued : ℕ → List Member → ℕ
queued g [] = 0
queued g (m ∷ members) = max (left_in g m.seat) (queued g members)

-- the cursor is at the front of the subgroup's queue, which holds so many packets
abbrev pub stands_first : ℕ → ℕ → Option Seat → Bool
stands_first g n None = false
stands_first g n (Some t) = (t.sub == g) && (length t.rest == n)

abbrev pub stands_behind : ℕ → ℕ → Option Seat → Bool
stands_behind g n None = false
stands_behind g n (Some t) = (t.sub == g) && not (length t.rest == n)

-- ---- in a system

abbrev pub is_there : {T : Type 0} → (T → Bool) → Option (Option T) → Bool
is_there test None = false
is_there test (Some None) = false
is_there test (Some (Some x)) = test x

-- the subgroup of that number is there, and passes the test
abbrev pub is_so : System → ℕ → (Subgroup → Bool) → Bool
is_so s g test = is_there test (slice_get s.subgroups g)

-- some of these, the first of which has the number `g`, passes the test
abbrev pub any_from : (ℕ → Subgroup → Bool) → ℕ → List (Option Subgroup) → Bool
any_from test g [] = false
any_from test g (None ∷ xs) = any_from test (g + 1) xs
any_from test g (Some x ∷ xs) = test g x || any_from test (g + 1) xs

-- a subgroup passes the test
abbrev pub some_so : System → (ℕ → Subgroup → Bool) → Bool
some_so s test = any_from test 0 s.subgroups

-- its queue holds as many packets as it may
abbrev pub is_full : System → ℕ → Bool
is_full s g = nat_le s.world.local.queue_limit (queued g s.members)

-- some members have taken packets of the queue, and others have not
abbrev pub is_parted : System → ℕ → Bool
is_parted s g =
    list_any (λ m. stands_first g (queued g s.members) m.seat) s.members && list_any (λ m. stands_behind g (queued g s.members) m.seat) s.members

abbrev pub seat_of : Option Member → Option Seat
seat_of None = None
seat_of (Some m) = m.seat

-- the seat of a peer
abbrev pub seat_at : ℕ → System → Option Seat
seat_at p s = seat_of (slice_get s.members p)

-- ---- at the start

abbrev pub fresh_member : Member
fresh_member = record { begun = 0; unlost = []; handed = 0; seat = None }

abbrev pub start : World → System
start w = record { world = w; closed = false; made = 0; subgroups = []; members = map (λ (s : PeerState). fresh_member) w.peers }

-- ---- changes that steps are made of

abbrev pub with_subgroup : ℕ → (Subgroup → Subgroup) → System → System
with_subgroup g change s = record s { subgroups = change_at (option_map change) g s.subgroups }

-- the subgroup is gone
abbrev pub without_subgroup : ℕ → System → System
without_subgroup g s = record s { subgroups = change_at (λ _. None) g s.subgroups }

-- a subgroup more, where there is one, under the next number
abbrev pub with_new : Option Subgroup → System → System
with_new x s = record s { subgroups = s.subgroups ++ x ∷ [] }

abbrev pub reseated : (Seat → Seat) → Member → Member
reseated change m = record m { seat = option_map change m.seat }

abbrev pub with_seats : (Seat → Seat) → System → System
with_seats change s = record s { members = map (reseated change) s.members }

abbrev pub with_seat : Option Seat → Member → Member
with_seat seat m = record m { seat = seat }

abbrev pub seated : ℕ → Option Seat → System → System
seated p seat s = record s { members = change_at (with_seat seat) p s.members }

-- a subgroup without members is dropped
abbrev pub unless_empty : ℕ → System → System
unless_empty g s = if has_members g s.members then s else without_subgroup g s

-- a peer leaves: what it hasn't taken isn't sent
abbrev pub leave : ℕ → Option Seat → System → System
leave p None s = s
leave p (Some t) s = unless_empty t.sub (seated p None s)

abbrev pub unstuck : Subgroup → Subgroup
unstuck x = record x { stuck = 0 }

abbrev pub there : {T : Type 0} → Option (Option T) → Option T
there None = None
there (Some x) = x

abbrev pub subgroup_at : ℕ → System → Option Subgroup
subgroup_at g s = there (slice_get s.subgroups g)

-- ---- Format: one packet is appended to a queue

-- What it says, by whether a refresh has to begin, by the routes that are due, and by whether End-of-RIB is.
abbrev pub says_by : Bool → Due Key OutAttrs → Bool → Says
says_by true due ending = RefreshBegins
says_by false (Withdraws keys) ending = Withdrawn keys
says_by false (Announces o keys) ending = Announced o keys
says_by false Nothing true = EndOfRib
says_by false Nothing false = RefreshEnds

-- By the first that applies: the begin of a refresh, which waits for End-of-RIB; withdrawals; the first pending key with
-- those of equal attributes; End-of-RIB; the end of a refresh.
abbrev pub says_next : Subgroup → Says
says_next x = says_by (is_owed x.phase && not x.ending) (routes_due x.key x.out) x.ending

-- The subgroup after a packet that says this: the begin of a refresh forces all keys.
abbrev pub after_saying : Says → Subgroup → Subgroup
after_saying RefreshBegins x = record x { out = all_forced x.out; phase = Open }
after_saying (Withdrawn keys) x = record x { out = with_told keys x.out }
after_saying (Announced o keys) x = record x { out = with_told keys x.out }
after_saying EndOfRib x = record x { ending = false }
after_saying RefreshEnds x = record x { phase = Quiet }

-- The subgroup after its next packet is formatted: something was formatted, and there was room in its queue.
abbrev pub formatted : Subgroup → Subgroup
formatted x = record (after_saying (says_next x) x) { fresh = false; stuck = 0 }

-- each member of the subgroup has the packet to take
abbrev pub given : ℕ → Packet → Seat → Seat
given g packet t = if t.sub == g then record t { rest = t.rest ++ packet ∷ [] } else t

abbrev pub with_packet : ℕ → Subgroup → System → System
with_packet g x s = with_seats (given g (record { made = s.made; says = says_next x })) (with_subgroup g formatted (record s { made = s.made + 1 }))

abbrev pub format_of : ℕ → Option Subgroup → System → System
format_of g None s = s
format_of g (Some x) s = with_packet g x s

-- ---- Merge: the members of one subgroup move to the end of another's queue

abbrev pub moved : ℕ → ℕ → Seat → Seat
moved from to t = if t.sub == from then record t { sub = to } else t

abbrev pub merge : ℕ → ℕ → System → System
merge g h s = without_subgroup h (with_seats (moved h g) s)

-- ---- Slow: those at the front of a full queue leave it together, with a copy

abbrev pub parted : ℕ → ℕ → ℕ → Seat → Seat
parted g n to t = if stands_first g n (Some t) then record t { sub = to } else t

abbrev pub slow_of : ℕ → Option Subgroup → System → System
slow_of g None s = s
slow_of g (Some x) s = with_new (Some (unstuck x)) (with_subgroup g unstuck (with_seats (parted g (queued g s.members) (length s.subgroups)) s))

-- ---- Event

-- What an event is for a peer: it is not up any more, or lost; it starts a session; it asks for all routes again, which
-- can change its key too (RFC 2918, RFC 7313, RFC 5291); its key changes; or none of these.
pub data Turn : Type 0 where
  Leaves : Turn
  Starts : Turn
  Asks : Turn
  Rekeys : Turn
  Stays : Turn

-- the session that it had before goes on
abbrev pub goes_on : PeerState → PeerState → Bool
goes_on s s' = s.up && (s.sessions == s'.sessions)

-- it asks for all routes by this event
abbrev pub asks_by : Happening → PeerState → Bool
asks_by e s = is_request e && is_about e s

-- its key is the one that it had before
abbrev pub keeps_key : World → World → PeerState → PeerState → Bool
keeps_key old new s s' = same_group (key_in old s) (key_in new s')

-- The first of these that applies to a peer that is `s` in the world before and `s'` in the world after. Where its session
-- goes on it has a seat, unless that session is lost.
abbrev pub turn_of : Happening → World → World → PeerState → PeerState → Option Seat → Turn
turn_of e old new s s' seat =
    if not s'.up then Leaves
    else if not (goes_on s s') then Starts
    else if is_none seat then Leaves
    else if asks_by e s' then Asks
    else if not (keeps_key old new s s') then Rekeys
    else Stays

-- The first fresh subgroup of the key in which End-of-RIB is due: a session that starts may share it, since no packet of
-- it was formatted yet. `g` is the number of the first of these.
abbrev pub is_joinable : GroupKey → Subgroup → Bool
is_joinable key x = same_group x.key key && (x.fresh && x.ending)

abbrev pub first_joinable : GroupKey → ℕ → List (Option Subgroup) → Option ℕ
first_joinable key g [] = None
first_joinable key g (None ∷ xs) = first_joinable key (g + 1) xs
first_joinable key g (Some x ∷ xs) = if is_joinable key x then Some g else first_joinable key (g + 1) xs

-- no packet was formatted, every route is pending, and End-of-RIB is due behind them
abbrev pub fresh_subgroup : GroupKey → World → Subgroup
fresh_subgroup key w = record { key = key; out = all_desired (wanted_rows key w); ending = true; fresh = true; phase = Quiet; stuck = 0 }

abbrev pub at_end : ℕ → Option Seat
at_end g = Some (record { sub = g; rest = [] })

abbrev pub join : ℕ → GroupKey → Option ℕ → System → System
join p key (Some g) s = seated p (at_end g) s
join p key None s = with_new (Some (fresh_subgroup key s.world)) (seated p (at_end (length s.subgroups)) s)

-- A peer that has company is split off: with a copy of its subgroup, and its own rest.
abbrev pub split_by : Bool → ℕ → Seat → System → System
split_by false p t s = s
split_by true p t s = with_new (option_map unstuck (subgroup_at t.sub s)) (seated p (Some (record t { sub = length s.subgroups })) s)

abbrev pub has_company : ℕ → List Member → Bool
has_company g members = nat_lt 1 (count_by (sits g) members)

abbrev pub split : ℕ → Option Seat → System → System
split p None s = s
split p (Some t) s = split_by (has_company t.sub s.members) p t s

-- the subgroup in which a peer sits
abbrev pub with_own : (Subgroup → Subgroup) → Option Seat → System → System
with_own change None s = s
with_own change (Some t) s = with_subgroup t.sub change s

-- it has another key, and what peers of that key should have
abbrev pub rekeyed : GroupKey → World → Subgroup → Subgroup
rekeyed key w x = record x { key = key; out = with_all_desired (wanted_rows key w) x.out }

-- all routes are to be told again: between marks, or at once
abbrev pub asked : Subgroup → Subgroup
asked x = if x.key.enhanced_refresh then record x { phase = Owed } else record x { out = all_forced x.out }

abbrev pub apart : ℕ → System → System
apart p s = split p (seat_at p s) s

abbrev pub rekey : ℕ → GroupKey → System → System
rekey p key s = with_own (rekeyed key s.world) (seat_at p s) s

abbrev pub ask : ℕ → System → System
ask p s = with_own asked (seat_at p s) s

abbrev pub with_turn : Turn → ℕ → GroupKey → System → System
with_turn Leaves p key s = leave p (seat_at p s) s
with_turn Starts p key s = let gone = leave p (seat_at p s) s in join p key (first_joinable key 0 gone.subgroups) gone
with_turn Asks p key s = ask p (rekey p key (apart p s))
with_turn Rekeys p key s = rekey p key (apart p s)
with_turn Stays p key s = s

abbrev pub turned : Happening → World → ℕ → Option PeerState → PeerState → System → System
turned e old p None s' s = s
turned e old p (Some before) s' s = with_turn (turn_of e old s.world before s' (seat_at p s)) p (key_in s.world s') s

-- the turns of these peers, the first of which stands at place `p`
abbrev pub with_turns : Happening → World → ℕ → List PeerState → System → System
with_turns e old p [] s = s
with_turns e old p (s' ∷ peers) s = with_turns e old (p + 1) peers (turned e old p (slice_get old.peers p) s' s)

-- what a subgroup's members should have in this world
abbrev pub retabled : World → Subgroup → Subgroup
retabled w x = record x { out = with_all_desired (wanted_rows x.key w) x.out }

-- the world is this now, and each subgroup desires what its key should have in it
abbrev pub in_world : World → System → System
in_world w s = record s { world = w; subgroups = map (option_map (retabled w)) s.subgroups }

-- a full queue with keys pending has stood through one event more
abbrev pub counted : System → ℕ → Subgroup → Subgroup
counted s g x = record x { stuck = if is_full s g && is_pending x then x.stuck + 1 else 0 }

abbrev pub counted_from : System → ℕ → List (Option Subgroup) → List (Option Subgroup)
counted_from s g [] = []
counted_from s g (x ∷ xs) = option_map (counted s g) x ∷ counted_from s (g + 1) xs

abbrev pub with_counts : System → System
with_counts s = record s { subgroups = counted_from s 0 s.subgroups }

abbrev pub take_event : Happening → System → System
take_event e s = with_counts (with_turns e s.world 0 (after s.world e).peers (in_world (after s.world e) s))

-- ---- when a step may be taken

abbrev pub may_format : System → ℕ → Bool
may_format s g = is_so s g owes && not (is_full s g)

-- Both subgroups are level, they have one key, and who moves has nothing left to take.
abbrev pub may_merge : System → ℕ → ℕ → Bool
may_merge s g h = not (g == h) && (is_so s g (λ x. is_level x && is_so s h (λ y. is_level y && same_group x.key y.key)) && (queued h s.members == 0))

abbrev pub must_part : System → ℕ → Bool
must_part s g = is_so s g (λ x. is_pending x && nat_le s.world.local.slow_after x.stuck) && (is_full s g && is_parted s g)

-- no subgroups have to merge, and none has to part
abbrev pub is_ordered : System → Bool
is_ordered s = not (some_so s (λ g x. some_so s (λ h y. may_merge s g h))) && not (some_so s (λ g x. must_part s g))

-- after how many events the subgroups have to be formatted
abbrev pub is_turn : ℕ → ℕ → Bool
is_turn every version = nat_lt 0 version && ((version % every) == 0)

-- Nothing has to be done before the next event: subgroups stand as they should, and after each so many events nothing is
-- put off but by a full queue.
abbrev pub is_settled : System → Bool
is_settled s = is_ordered s && not (is_turn s.world.local.coalesce s.world.version && some_so s (λ g x. owes x && not (is_full s g)))

-- the peer's sessions are all begun, and it has taken all packets
abbrev pub is_seat_quiet : Option Seat → Bool
is_seat_quiet None = true
is_seat_quiet (Some t) = is_empty t.rest

abbrev pub is_member_quiet : ℕ → Member → Bool
is_member_quiet sessions m = not (nat_lt m.begun sessions) && is_seat_quiet m.seat

abbrev pub are_quiet : List PeerState → List Member → Bool
are_quiet peers [] = true
are_quiet [] (m ∷ members) = is_member_quiet 0 m && are_quiet [] members
are_quiet (s ∷ peers) (m ∷ members) = is_member_quiet s.sessions m && are_quiet peers members

-- everything is told
abbrev pub is_drained : System → Bool
is_drained s = is_ordered s && (not (some_so s (λ g x. owes x)) && are_quiet s.world.peers s.members)

-- ---- jobs

pub data Job : Type 0 where
  Take : Happening → Job
  Format : ℕ → Job
  Merge : ℕ → ℕ → Job
  Slow : ℕ → Job
  Sync : Job
  Close : Job

-- what is answered
pub data Said : Type 0 where
  Took : List Mark → Said
  Formatted : ℕ → Said
  Merged : Said
  Moved : ℕ → Said
  Marks : List Mark → Said
  Closed : Said

-- how many messages a peer was handed in its present session, which may not be begun
abbrev pub handed_now : ℕ → Option Member → ℕ
handed_now sessions None = 0
handed_now sessions (Some m) = if m.begun == sessions then m.handed else 0

abbrev pub mark_at : ℕ → PeerState → System → Mark
mark_at p peer s = record { version = s.world.version; peer = p; session = peer.sessions; handed = handed_now peer.sessions (slice_get s.members p) }

-- the marks of these peers, the first of which stands at place `p`, for each that is live and passes the test
abbrev pub marks_at : (PeerState → Bool) → ℕ → List PeerState → System → List Mark
marks_at test p [] s = []
marks_at test p (peer ∷ peers) s = when (test peer && is_some (seat_at p s)) (mark_at p peer s ∷ []) ++ marks_at test (p + 1) peers s

-- When each job may be done,
abbrev pub legal : Job → System → Bool
legal (Take e) s = is_none (verdict s.world e) && (nat_lt s.world.version 4294967295 && (is_settled s && not s.closed))
legal (Format g) s = may_format s g && not s.closed
legal (Merge g h) s = may_merge s g h && not s.closed
legal (Slow g) s = must_part s g && not s.closed
legal Sync s = is_drained s && not s.closed
legal Close s = not s.closed

-- what it makes of the system,
abbrev pub after_job : Job → System → System
after_job (Take e) s = take_event e s
after_job (Format g) s = format_of g (subgroup_at g s) s
after_job (Merge g h) s = merge g h s
after_job (Slow g) s = slow_of g (subgroup_at g s) s
after_job Sync s = s
after_job Close s = record s { closed = true }

-- and what is answered: to an event the mark of the live peer that asks for all routes by it, and to a sync those of all.
abbrev pub job_reply : Job → System → Said
job_reply (Take e) s = Took (marks_at (λ peer. is_request e && is_about e peer) 0 (after s.world e).peers (take_event e s))
job_reply (Format g) s = Formatted s.made
job_reply (Merge g h) s = Merged
job_reply (Slow g) s = Moved (length s.subgroups)
job_reply Sync s = Marks (marks_at (λ _. true) 0 s.world.peers s)
job_reply Close s = Closed

-- ---- lanes: what is next for a peer, and the loss of a session

-- A session begins, a packet is handed out in the one that was begun last, or there is nothing for now.
pub data Upshot : Type 0 where
  Begins : ℕ → Upshot
  Hands : ℕ → Packet → Upshot
  Rests : Upshot

abbrev pub first_left : Option Seat → Option Packet
first_left None = None
first_left (Some t) = slice_get t.rest 0

abbrev pub hands_by : Member → Option Packet → Upshot
hands_by m None = Rests
hands_by m (Some packet) = if nat_lt 0 m.begun then Hands m.begun packet else Rests

-- the first session that was started and not begun; else the packet at the cursor
abbrev pub upshot_of : ℕ → Option Member → Upshot
upshot_of sessions None = Rests
upshot_of sessions (Some m) = if nat_lt m.begun sessions then Begins (m.begun + 1) else hands_by m (first_left m.seat)

abbrev pub upshot : ℕ → System → Upshot
upshot p s = upshot_of (sessions_at p s.world) (slice_get s.members p)

abbrev pub with_session : Member → Member
with_session m = record m { begun = m.begun + 1; unlost = m.unlost ++ (m.begun + 1) ∷ []; handed = 0 }

abbrev pub rest_behind : List Packet → List Packet
rest_behind [] = []
rest_behind (packet ∷ rest) = rest

abbrev pub with_handed : Member → Member
with_handed m = record m { handed = m.handed + 1; seat = option_map (λ (t : Seat). record t { rest = rest_behind t.rest }) m.seat }

abbrev pub after_upshot : Upshot → Member → Member
after_upshot (Begins n) m = with_session m
after_upshot (Hands n packet) m = with_handed m
after_upshot Rests m = m

abbrev pub after_next : ℕ → System → System
after_next p s = record s { members = change_at (after_upshot (upshot p s)) p s.members }

-- a session of the peer was begun and isn't lost
abbrev pub has_unlost : ℕ → Option Member → Bool
has_unlost n None = false
has_unlost n (Some m) = has m.unlost n

abbrev pub with_loss : ℕ → Member → Member
with_loss n m = record m { unlost = filter (λ (k : ℕ). not (k == n)) m.unlost }

-- in the present session nothing more is handed out
abbrev pub after_loss : ℕ → ℕ → System → System
after_loss p n s =
    let noted = record s { members = change_at (with_loss n) p s.members }
    in if n == sessions_at p s.world then leave p (seat_at p noted) noted else noted
