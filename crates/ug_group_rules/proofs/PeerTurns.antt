-- What an event makes of one peer keeps what is so of it and of the others.
use Rattle.std.proofs.Common.{◌≡◌, ℕ, ◌+◌, ◌<◌, Bool, true, false, List, [], ◌++◌, map, slice_get, Option, Some, None, refl, sym, ◌∙◌, ap, subst, arith}
use Rattle.std.specs.Prelude.{◌&&◌, not, if◌then◌else◌}
use Rattle.std.proofs.lemmas.List.{append-nil}
use Rattle.ug_types.specs.declared.key.Key.{Key}
use Rattle.ug_types.specs.declared.route.PeerEnds.{PeerEnds}
use Rattle.ug_types.specs.declared.capabilities.Capabilities.{Capabilities}
use Rattle.ug_types.specs.Messages.{Message}
use Rattle.ug_board.specs.Deeds.{Deed, Each}
use Rattle.ug_board.specs.Sessions.{sessions_of}
use Rattle.ug_outbound.specs.declared.key.GroupKey.{GroupKey}
use Rattle.ug_outbound.specs.Keys.{ends_of}
use Rattle.ug_events.specs.Events.{Happening, ComesUp, GoesDown, HasPaths, HasNone, HasPolicy, HasEntries, AsksAgain, SendsRequest, SendsList}
use Rattle.ug_types.specs.Bytes.{same_bytes}
use Rattle.ug_world.specs.declared.peer_state.PeerState.{PeerState}
use Rattle.ug_world.specs.World.{World}
use Rattle.ug_world.specs.After.{come_up, gone_down, with_policy, refiltered, with_orf, changed_peer}
use Rattle.ug_message.specs.Fitting.{fits}
use Rattle.ug_speaker.specs.Speech.{capabilities_of}
use Rattle.ug_speaker.specs.Told.{handed_in}
use Rattle.ug_speaker.specs.Right.{IsToldRight}
use Rattle.ug_speaker.specs.Counts.{is_lost_at}
use Rattle.ug_speaker.proofs.Bools.{both}
use Rattle.ug_speaker.proofs.Peers.{peer_after, IsNextOf, sessions-rise}
use Rattle.ug_speaker.proofs.Counts.{IsCounted, counted-event, nothing-in, not-lost}
use Rattle.ug_group_rules.specs.Packets.{Rows, Packet, message_to}
use Rattle.ug_group_rules.specs.Machine.{Subgroup, Seat, Member, System, with_seat, at_end}
use Rattle.ug_group_rules.proofs.Fitting.{CanBeSent}
use Rattle.ug_group_rules.proofs.Streams.{IsStream}
use Rattle.ug_group_rules.proofs.StreamsInWorlds.{stream-as, stream-peer, stream-starts, right-peer}
use Rattle.ug_group_rules.proofs.Tables.{is_forced}
use Rattle.ug_group_rules.proofs.WantedTables.{table_in}
use Rattle.ug_group_rules.proofs.MemberStreams.{IsKept}
use Rattle.ug_group_rules.proofs.Again.{IsCovered}
use Rattle.ug_group_rules.proofs.Seated.{counts_of, is_live, told_by, stream_of, AreFitting, IsSat, IsPlaced}
use Rattle.ug_group_rules.proofs.OwnSubgroupsTurned.{IsGood}

-- ---- the link to a peer stays

abbrev SameEnds : PeerState → PeerState → Type 0
SameEnds s s' = ends_of s'.peer ≡ ends_of s.peer

one_ends : (name : List ℕ) (change : PeerState → PeerState) (s : PeerState) → SameEnds s (change s) → SameEnds s (changed_peer name change s)
one_ends name change s same = by (same_bytes s.peer.name name)
  where
    by : (b : Bool) → SameEnds s (if b then change s else s)
    by true = same
    by false = refl

pub ends-after : (e : Happening) (s : PeerState) → SameEnds s (peer_after e s)
ends-after (ComesUp name) s = one_ends name come_up s refl
ends-after (GoesDown name) s = one_ends name gone_down s refl
ends-after (AsksAgain name) s = one_ends name refiltered s refl
ends-after (SendsRequest name) s = one_ends name refiltered s refl
ends-after (SendsList name request) s = one_ends name (with_orf request) s refl
ends-after (HasPolicy name policy) s = one_ends name (with_policy policy) s refl
ends-after (HasEntries name entries) s = refl
ends-after (HasPaths prefix paths) s = refl
ends-after (HasNone prefix) s = refl

-- ---- what a turn leaves of the others, and of the subgroups

pub record IsTurned (w : World) (q : ℕ) (old new : System) : Type 0 where
  pub world : new.world ≡ old.world
  pub members : (p : ℕ) → (p ≡ q → ⊥) → slice_get new.members p ≡ slice_get old.members p
  pub others : (p : ℕ) (n : Member) (u : Seat) (z : Subgroup) → (p ≡ q → ⊥) → slice_get old.members p ≡ Some n → n.seat ≡ Some u → slice_get old.subgroups u.sub ≡ Some (Some z) → slice_get new.subgroups u.sub ≡ Some (Some z)
  pub kept : (k : ℕ) (z : Subgroup) → slice_get new.subgroups k ≡ Some (Some z) → IsKept w z

-- A peer that stays in its session has the same to take, in a subgroup as good as the old one; and where it asks for all
-- routes, they are coming.
pub record IsCarried (asks : Bool) (ends : PeerEnds) (old new : System) (m : Member) (u : Seat) : Type 0 where
  pub seat : Seat
  pub sits : m.seat ≡ Some seat
  pub rest : u.rest ≡ seat.rest
  pub before : Subgroup
  pub after : Subgroup
  pub was : slice_get old.subgroups seat.sub ≡ Some (Some before)
  pub is : slice_get new.subgroups u.sub ≡ Some (Some after)
  pub good : IsGood ends old.world before after
  pub covered : asks ≡ true → IsCovered after

-- ---- the peer

module _ (q : ℕ) (worlds : List World) (deeds : List (Deed Message)) (s s' : PeerState) (m : Member) (xs : List (Option Subgroup)) (key : GroupKey) (placed : IsPlaced q worlds deeds s m xs key)
    (next : IsNextOf s s') (ends : SameEnds s s') where
  counted_next : IsCounted deeds s' (counts_of m)
  counted_next = counted-event deeds s (counts_of m) placed.counted s' (sessions-rise s s' next)

  told_next : (n : ℕ) → IsToldRight q n s'.peer worlds (handed_in n (sessions_of deeds))
  told_next n = right-peer q n s.peer s'.peer worlds (handed_in n (sessions_of deeds)) (sym next.enhanced) (placed.told n)

  -- it sits nowhere
  pub placed-nowhere : is_live s' m ≡ false → (ys : List (Option Subgroup)) (key' : GroupKey) → IsPlaced q worlds deeds s' (with_seat None m) ys key'
  placed-nowhere dead ys key' = record { counted = counted_next; told = told_next; sat = λ t at. absurd cc; empty = λ none. dead }

  -- it starts, in a subgroup of which nothing was formatted
  module _ (up : s'.up ≡ true) (more : s'.sessions ≡ s.sessions + 1) (ys : List (Option Subgroup)) (key' : GroupKey) (g : ℕ) (x : Subgroup) (there : slice_get ys g ≡ Some (Some x)) (same : x.key ≡ key') (kept : (w : World) × IsKept w x)
      (fresh : x.fresh ≡ true) (due : x.ending ≡ true) where
    few : (counts_of m).begun < s'.sessions
    few = let least = placed.counted.begun in omega arith

    starts_live : is_live s' m ≡ true
    starts_live = both s'.up (not (is_lost_at (counts_of m) s'.sessions)) up (ap not (not-lost (counts_of m) s'.sessions few))

    none_handed : stream_of s' deeds [] ≡ []
    none_handed = append-nil (handed_in s'.sessions (sessions_of deeds)) ∙ nothing-in s'.sessions 0 m.begun (sessions_of deeds) placed.counted.numbers few

    none_told : (k : Key) → table_in (ends_of s'.peer) x.out.formatted k ≡ None
    none_told k = ap (λ (rows : Rows). table_in (ends_of s'.peer) rows k) (kept.1.nothing fresh)

    starts_sat : IsSat q worlds deeds s' (with_seat (at_end g) m) ys key' (record { sub = g; rest = [] })
    starts_sat = record {
      live = starts_live;
      subgroup = x;
      there = there;
      key_is = same;
      stream =
          subst (λ (b : Bool). IsStream q s'.sessions s'.peer worlds (table_in (ends_of s'.peer) x.out.formatted) (is_forced x.out) b x.phase (stream_of s' deeds [])) (sym due)
          (subst (λ (ms : List Message). IsStream q s'.sessions s'.peer worlds (table_in (ends_of s'.peer) x.out.formatted) (is_forced x.out) true x.phase ms) (sym none_handed)
          (stream-starts q s'.sessions s'.peer worlds (table_in (ends_of s'.peer) x.out.formatted) (is_forced x.out) x.phase none_told (kept.1.closed fresh)));
      tellable = λ k a e. let none = none_told k in absurd cc;
      fitting = tt;
      untold = λ e. none_handed;
    }

    pub placed-starts : IsPlaced q worlds deeds s' (with_seat (at_end g) m) ys key'
    placed-starts = record {
      counted = counted_next;
      told = told_next;
      sat = λ t at. let is : record { sub = g; rest = [] } ≡ t = cc in subst (λ (v : Seat). IsSat q worlds deeds s' (with_seat (at_end g) m) ys key' v) is starts_sat;
      empty = λ none. absurd cc;
    }

  -- it stays in its session, in a subgroup as good as its own
  module _ (up : s'.up ≡ s.up) (stays : s'.sessions ≡ s.sessions) (t : Seat) (at : m.seat ≡ Some t) where
    pub sat_old : IsSat q worlds deeds s m xs key t
    sat_old = placed.sat t at

    stays_live : is_live s' m ≡ true
    stays_live = ap (λ (b : Bool). b && not (is_lost_at (counts_of m) s'.sessions)) up ∙ ap (λ (k : ℕ). s.up && not (is_lost_at (counts_of m) k)) stays ∙ sat_old.live

    module _ (w : World) (y : Subgroup) (good : IsGood (ends_of s.peer) w sat_old.subgroup y) (ys : List (Option Subgroup)) (key' : GroupKey) (same : y.key ≡ key') (u : Seat) (rest : u.rest ≡ t.rest) (there : slice_get ys u.sub ≡ Some (Some y)) where
      stream_good : IsStream q s.sessions s.peer worlds (table_in (ends_of s.peer) y.out.formatted) (is_forced y.out) y.ending y.phase (stream_of s deeds t.rest)
      stream_good =
          subst (λ (b : Bool). IsStream q s.sessions s.peer worlds (table_in (ends_of s.peer) y.out.formatted) (is_forced y.out) b y.phase (stream_of s deeds t.rest)) (sym good.ending)
          (stream-as q s.sessions s.peer worlds (table_in (ends_of s.peer) sat_old.subgroup.out.formatted) (table_in (ends_of s.peer) y.out.formatted) (is_forced sat_old.subgroup.out) (is_forced y.out) sat_old.subgroup.ending
          sat_old.subgroup.phase y.phase (stream_of s deeds t.rest) good.change sat_old.stream)

      streams_same : stream_of s' deeds u.rest ≡ stream_of s deeds t.rest
      streams_same =
          ap (λ (k : ℕ). handed_in k (sessions_of deeds) ++ told_by s' u.rest) stays
          ∙ ap (λ (packets : List Packet). handed_in s.sessions (sessions_of deeds) ++ told_by s' packets) rest
          ∙ ap (λ (l : PeerEnds). handed_in s.sessions (sessions_of deeds) ++ map (λ (packet : Packet). message_to l packet.says) t.rest) ends

      stream_now : IsStream q s'.sessions s'.peer worlds (table_in (ends_of s'.peer) y.out.formatted) (is_forced y.out) y.ending y.phase (stream_of s' deeds u.rest)
      stream_now =
          subst (λ (ms : List Message). IsStream q s'.sessions s'.peer worlds (table_in (ends_of s'.peer) y.out.formatted) (is_forced y.out) y.ending y.phase ms) (sym streams_same)
          (subst (λ (l : PeerEnds). IsStream q s'.sessions s'.peer worlds (table_in l y.out.formatted) (is_forced y.out) y.ending y.phase (stream_of s deeds t.rest)) (sym ends)
          (subst (λ (k : ℕ). IsStream q k s'.peer worlds (table_in (ends_of s.peer) y.out.formatted) (is_forced y.out) y.ending y.phase (stream_of s deeds t.rest)) (sym stays)
          (stream-peer q s.sessions s.peer s'.peer worlds (table_in (ends_of s.peer) y.out.formatted) (is_forced y.out) y.ending y.phase (stream_of s deeds t.rest) (sym next.enhanced) stream_good)))

      fitting_now : AreFitting s' u.rest
      fitting_now =
          subst (λ (packets : List Packet). AreFitting s' packets) (sym rest)
          (subst (λ (l : PeerEnds). Each (λ (packet : Packet). fits (capabilities_of s'.peer) (message_to l packet.says) ≡ true) t.rest) (sym ends)
          (subst (λ (c : Capabilities). Each (λ (packet : Packet). fits c (message_to (ends_of s.peer) packet.says) ≡ true) t.rest) (sym next.capabilities) sat_old.fitting))

      stays_sat : IsSat q worlds deeds s' (with_seat (Some u) m) ys key' u
      stays_sat = record {
        live = stays_live;
        subgroup = y;
        there = there;
        key_is = same;
        stream = stream_now;
        tellable = λ k a e.
            let was = sat_old.tellable k a (good.change.same k ∙ ap (λ (l : PeerEnds). table_in l y.out.formatted k) (sym ends) ∙ e) in
            subst (λ (c : Capabilities). CanBeSent c k a) (sym next.capabilities) was;
        fitting = fitting_now;
        untold = λ e. streams_same ∙ sat_old.untold (sym good.fresh ∙ e);
      }

      pub placed-stays : IsPlaced q worlds deeds s' (with_seat (Some u) m) ys key'
      placed-stays = record {
        counted = counted_next;
        told = told_next;
        sat = λ v at'. let is : u ≡ v = cc in subst (λ (z : Seat). IsSat q worlds deeds s' (with_seat (Some u) m) ys key' z) is stays_sat;
        empty = λ none. absurd cc;
      }
