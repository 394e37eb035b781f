-- What is so of each course.
use Rattle.std.proofs.Common.{◌≡◌, ℕ, zero, suc, ◌+◌, ◌≤◌, Bool, true, false, List, [], ◌∷◌, ◌++◌, slice_get, Option, Some, None, refl, sym, ◌∙◌, ap, subst, arith}
use Rattle.std.specs.Prelude.{◌&&◌, not, nat_le, nat_lt, if◌then◌else◌}
use Rattle.std.specs.Option.{option_map}
use Rattle.std.proofs.lemmas.Bool.Decides.{nat_tests}
use Rattle.std.proofs.lemmas.List.{append-nil}
use Rattle.ug_types.specs.Messages.{Message}
use Rattle.ug_message.specs.Tables.{table_of}
use Rattle.ug_board.specs.declared.steps.BoardStep.{BoardStep}
use Rattle.ug_board.specs.declared.steps.BoardStep.TheVariants.{Job as DoJob, Lane as LaneTakes}
use Rattle.ug_board.specs.declared.steps.LaneStep.TheVariants.{Next}
use Rattle.ug_board.specs.declared.steps.LaneSaid.TheVariants.{Hand}
use Rattle.ug_board.specs.History.{after_step, replay_from, replay}
use Rattle.ug_board.specs.Deeds.{Deed}
use Rattle.ug_message.specs.Texts.{written}
use Rattle.ug_outbound.specs.Keys.{ends_of}
use Rattle.ug_message.specs.NextHops.{told_to}
use Rattle.ug_events.specs.Events.{Happening}
use Rattle.ug_world.specs.declared.peer_state.PeerState.{PeerState}
use Rattle.ug_world.specs.World.{World, key_in}
use Rattle.ug_world.specs.Private.{private_table}
use Rattle.ug_message.specs.Fitting.{fits}
use Rattle.ug_speaker.specs.Speech.{capabilities_of}
use Rattle.ug_speaker.specs.Told.{step_events, events_in, world_after, worlds_of, deeds_to, told, is_lost, begun, is_live as is_live_in, world_at}
use Rattle.ug_speaker.specs.Right.{Alike, IsToldRight, IsToldAll, ends_of_rib}
use Rattle.ug_speaker.specs.Owes.{IsCourse}
use Rattle.ug_speaker.specs.Counts.{has, sessions_had, sessions_at, is_lost_at}
use Rattle.ug_speaker.proofs.Bools.{both_so, not_so}
use Rattle.ug_message.proofs.Fitting.{has-text}
use Rattle.ug_speaker.proofs.Buffers.{text-short}
use Rattle.ug_group_rules.specs.Packets.{Packet, message_to}
use Rattle.ug_group_rules.specs.Machine.{Subgroup, Seat, Member, System, seat_of, seat_at, first_left, Begins, Rests, upshot_of, owes, is_drained, is_seat_quiet, is_member_quiet, has_unlost, Job, Take, Format, Merge, Slow, Sync, Close}
use Rattle.ug_group_rules.specs.Rules.{message_for, text_for, at_rest, said_of, lane_reply, begun_of, group_rules, group_speech}
use Rattle.ug_group_rules.proofs.Found.{none-so}
use Rattle.ug_group_rules.proofs.Drained.{rested, quiet-at}
use Rattle.ug_group_rules.proofs.Streams.{IsStream}
use Rattle.ug_group_rules.proofs.Tables.{is_forced}
use Rattle.ug_group_rules.proofs.WantedTables.{table_in}
use Rattle.ug_group_rules.proofs.MemberStreams.{IsKept, desired-private, level-rows}
use Rattle.ug_group_rules.proofs.Seated.{counts_of, is_live, told_by, stream_of, AreFitting, IsSat, IsPlaced, IsPlacedAt, IsSystem, member-of}
use Rattle.ug_group_rules.proofs.Formatting.{up-of, session-of}
use Rattle.ug_group_rules.proofs.Merging.{empty-is, IsRestedAt, rested-at}
use Rattle.ug_group_rules.proofs.WorldStays.{world-event, world-job, stands-lane}
use Rattle.ug_group_rules.proofs.Histories.{GroupEntry, AreFine, are-systems}
use Rattle.ug_group_rules.proofs.SendableRoutes.{are-fine, are-down}

-- ---- the world is that which the events lead to

world_step : (step : BoardStep Job) (s : System) (es : List Happening) → world_after (after_step group_rules step s).world es ≡ world_after s.world (step_events group_rules group_speech step ++ es)
world_step (DoJob (Take e)) s es = ap (λ (w : World). world_after w es) (world-event e s)
world_step (DoJob (Format g)) s es = ap (λ (w : World). world_after w es) (world-job (Format g) s)
world_step (DoJob (Merge g h)) s es = ap (λ (w : World). world_after w es) (world-job (Merge g h) s)
world_step (DoJob (Slow g)) s es = ap (λ (w : World). world_after w es) (world-job (Slow g) s)
world_step (DoJob Sync) s es = refl
world_step (DoJob Close) s es = refl
world_step (LaneTakes step) s es = ap (λ (w : World). world_after w es) (stands-lane step s).0

world_along : (h : List GroupEntry) (s : System) → (replay_from group_rules s h).world ≡ world_after s.world (events_in group_rules group_speech h)
world_along [] s = refl
world_along (entry ∷ h) s = world_along h (after_step group_rules entry.step s) ∙ world_step entry.step s (events_in group_rules group_speech h)

pub world-led : (opening : World) (h : List GroupEntry) → world_at group_rules group_speech opening h ≡ world_after opening (events_in group_rules group_speech h)
world-led opening h = world_along h (group_rules.start opening)

module _ (opening : World) (h : List GroupEntry) (course : IsCourse group_rules group_speech opening h) where
  abbrev here : System
  here = replay group_rules opening h

  abbrev worlds : List World
  worlds = worlds_of group_rules group_speech opening h

  abbrev deeds_at : ℕ → List (Deed Message)
  deeds_at p = deeds_to group_rules group_speech p opening h

  pub fine : AreFine worlds
  fine = are-fine opening (events_in group_rules group_speech h) course.opens course.events

  pub system : IsSystem worlds deeds_at here
  system = are-systems opening h (are-down opening course.opens) course.legal fine

  pub record IsMemberAt (p : ℕ) (s : PeerState) : Type 0 where
    pub member : Member
    pub at : slice_get here.members p ≡ Some member
    pub placed : IsPlaced p worlds (deeds_at p) s member here.subgroups (key_in here.world s)

  pub member-at : (p : ℕ) (s : PeerState) → slice_get here.world.peers p ≡ Some s → IsMemberAt p s
  member-at p s is = let found = member-of p worlds (deeds_at p) here s is (system.placed p) in record { member = found.0; at = found.1; placed = found.2 }

  -- each session was told right
  pub told-right : (p n : ℕ) (s : PeerState) → slice_get here.world.peers p ≡ Some s → IsToldRight p n s.peer worlds (told group_rules group_speech p n opening h)
  told-right p n s is = (member-at p s is).placed.told n

  -- ---- sessions

  pub begun-at_most : (p : ℕ) (s : PeerState) → slice_get here.world.peers p ≡ Some s → begun group_rules group_speech p opening h ≤ s.sessions
  begun-at_most p s is = let m = member-at p s is in subst (λ (o : Option Member). begun_of o ≤ s.sessions) (sym m.at) m.placed.counted.begun

  abbrev IsQuiet : (p : ℕ) (s : PeerState) → IsMemberAt p s → Type 0
  IsQuiet p s m = (not (nat_lt m.member.begun s.sessions) ≡ true) × (is_seat_quiet m.member.seat ≡ true)

  quiet_here : (p : ℕ) (s : PeerState) (m : IsMemberAt p s) → slice_get here.world.peers p ≡ Some s → is_drained here ≡ true → IsQuiet p s m
  quiet_here p s m is drained =
      let quiet = quiet-at p here.world.peers here.members m.member (rested here drained).quiet m.at in
      both_so (not (nat_lt m.member.begun s.sessions)) (is_seat_quiet m.member.seat) (sym (ap (λ (o : Option PeerState). is_member_quiet (sessions_had o) m.member) is) ∙ quiet)

  pub begun-all : (p : ℕ) (s : PeerState) → slice_get here.world.peers p ≡ Some s → is_drained here ≡ true → begun group_rules group_speech p opening h ≡ s.sessions
  begun-all p s is drained =
      let m = member-at p s is in
      let few = m.placed.counted.begun in
      let none = not_so (nat_lt m.member.begun s.sessions) (quiet_here p s m is drained).0 in
      let all : s.sessions ≤ m.member.begun = grind (arith, nat_tests) in
      let same : m.member.begun ≡ s.sessions = omega arith in
      ap begun_of m.at ∙ same

  -- ---- losses

  loss_none : (n : ℕ) (lost : Bool) → false ≡ (nat_le 1 n && (nat_le n 0 && not lost))
  loss_none zero lost = refl
  loss_none (suc n) lost = by (nat_le 1 (suc n))
    where
      by : (b : Bool) → false ≡ (b && (nat_le (suc n) 0 && not lost))
      by true = let none : nat_le (suc n) 0 ≡ false = grind (arith, nat_tests) in rw none refl
      by false = refl

  loss_some : (m : Member) (n : ℕ) (b : Bool) → has m.unlost n ≡ b → (has m.unlost n ≡ true → (1 ≤ n) × (n ≤ m.begun)) → has m.unlost n ≡ (nat_le 1 n && (nat_le n m.begun && not (is_lost_at (counts_of m) n)))
  loss_some m n true e within =
      let bounds = within e in
      let low = bounds.0 in
      let high = bounds.1 in
      let first : nat_le 1 n ≡ true = grind (arith, nat_tests) in
      let second : nat_le n m.begun ≡ true = grind (arith, nat_tests) in
      rw (e, first, second) refl
  loss_some m n false e within = rw e (by (nat_le 1 n) (nat_le n m.begun))
    where
      by : (a b : Bool) → false ≡ (a && (b && not (a && (b && true))))
      by true true = refl
      by true false = refl
      by false b = refl

  loss_at : (p n : ℕ) (o : Option PeerState) (u : Option Member) → IsPlacedAt p worlds (deeds_at p) here.world here.subgroups o u → has_unlost n u ≡ (nat_le 1 n && (nat_le n (begun_of u) && not (is_lost group_rules group_speech p n opening h)))
  loss_at p n None None placed = loss_none n (is_lost group_rules group_speech p n opening h)
  loss_at p n (Some s) (Some m) placed =
      loss_some m n (has m.unlost n) refl (placed.counted.within n) ∙ ap (λ (b : Bool). nat_le 1 n && (nat_le n m.begun && not b)) (sym (placed.counted.lost n))
  loss_at p n None (Some m) placed = absurd placed
  loss_at p n (Some s) None placed = absurd placed

  pub losses-told : (p n : ℕ) → has_unlost n (slice_get here.members p) ≡ (nat_le 1 n && (nat_le n (begun group_rules group_speech p opening h) && not (is_lost group_rules group_speech p n opening h)))
  losses-told p n = loss_at p n (slice_get here.world.peers p) (slice_get here.members p) (system.placed p)

  -- ---- what is handed out

  module _ (p : ℕ) (s : PeerState) (is : slice_get here.world.peers p ≡ Some s) where
    abbrev HasText : Option Packet → Type 0
    HasText first = written (capabilities_of s.peer) (message_for (slice_get here.world.peers p) first) ≡ Some (text_for (slice_get here.world.peers p) first)

    has_text : (packet : Packet) → fits (capabilities_of s.peer) (message_to (ends_of s.peer) packet.says) ≡ true → HasText (Some packet)
    has_text packet fit =
        rw is (has-text (capabilities_of s.peer) (message_to (ends_of s.peer) packet.says) fit ∙ ap Some (sym (text-short (capabilities_of s.peer) (message_to (ends_of s.peer) packet.says) fit)))

    first_text : (t : Seat) → AreFitting s t.rest → (packet : Packet) → slice_get t.rest 0 ≡ Some packet → HasText (Some packet)
    first_text t fitting packet first = by t.rest fitting first
      where
        by : (packets : List Packet) → AreFitting s packets → slice_get packets 0 ≡ Some packet → HasText (Some packet)
        by [] fit e = absurd cc
        by (k ∷ more) fit e = let same : k ≡ packet = cc in has_text packet (subst (λ (x : Packet). fits (capabilities_of s.peer) (message_to (ends_of s.peer) x.says) ≡ true) same fit.0)

    hands_text : (m : Member) (o : Option Seat) → m.seat ≡ o → IsPlaced p worlds (deeds_at p) s m here.subgroups (key_in here.world s) → (packet : Packet) → first_left o ≡ Some packet → HasText (Some packet)
    hands_text m None at placed packet first = absurd cc
    hands_text m (Some t) at placed packet first = first_text t (placed.sat t at).fitting packet first

    nothing_handed : (session made len : ℕ) (closed : Bool) → at_rest closed ≡ Hand session made len → ⊥
    nothing_handed session made len true e = absurd cc
    nothing_handed session made len false e = absurd cc

    no_packet : (session made len n : ℕ) (m : Member) (b : Bool) → said_of here.closed (slice_get here.world.peers p) (if b then Begins (m.begun + 1) else Rests) ≡ Hand session made len → ⊥
    no_packet session made len n m true e = absurd cc
    no_packet session made len n m false e = nothing_handed session made len here.closed e

    pub text-told : (session made len : ℕ) → lane_reply (Next p) here ≡ Hand session made len → HasText (first_left (seat_at p here))
    text-told session made len said =
        let m = member-at p s is in
        subst (λ (u : Option Member). HasText (first_left (seat_of u))) (sym m.at)
        (by m.member m.placed (first_left m.member.seat) refl (sym (ap (λ (u : Option Member). said_of here.closed (slice_get here.world.peers p) (upshot_of (sessions_at p here.world) u)) m.at) ∙ said))
      where
        by : (m : Member) → IsPlaced p worlds (deeds_at p) s m here.subgroups (key_in here.world s) → (first : Option Packet) → first_left m.seat ≡ first
            → said_of here.closed (slice_get here.world.peers p) (upshot_of (sessions_at p here.world) (Some m)) ≡ Hand session made len → HasText (first_left m.seat)
        by m placed (Some packet) first e = subst (λ (o : Option Packet). HasText o) (sym first) (hands_text m m.seat refl placed packet first)
        by m placed None first e =
            let none : said_of here.closed (slice_get here.world.peers p) (if nat_lt m.begun (sessions_at p here.world) then Begins (m.begun + 1) else Rests) ≡ Hand session made len = rw first at e in
            absurd (no_packet session made len (sessions_at p here.world) m (nat_lt m.begun (sessions_at p here.world)) none)

  -- ---- when everything is told

  pub live-here : (p : ℕ) (s : PeerState) (m : IsMemberAt p s) → is_live_in group_rules group_speech p s opening h ≡ is_live s m.member
  live-here p s m = ap (λ (b : Bool). s.up && not b) (m.placed.counted.lost s.sessions)

  module _ (p : ℕ) (s : PeerState) (is : slice_get here.world.peers p ≡ Some s) (drained : is_drained here ≡ true) (live : is_live_in group_rules group_speech p s opening h ≡ true) where
    abbrev AllTold : Type 0
    AllTold = IsToldAll p here.world (told group_rules group_speech p s.sessions opening h)

    abbrev m : IsMemberAt p s
    m = member-at p s is

    live_now : is_live s m.member ≡ true
    live_now = sym (live-here p s m) ∙ live

    pub up-here : s.up ≡ true
    up-here = up-of s (not (is_lost_at (counts_of m.member) s.sessions)) live_now

    module _ (t : Seat) (at : m.member.seat ≡ Some t) where
      pub sat-here : IsSat p worlds (deeds_at p) s m.member here.subgroups (key_in here.world s) t
      sat-here = m.placed.sat t at

      abbrev x : Subgroup
      x = sat-here.subgroup

      pub kept-here : IsKept here.world x
      kept-here = system.kept t.sub x sat-here.there

      pub rests-here : IsRestedAt x
      rests-here = rested-at x (none-so here (λ g y. owes y) t.sub x (rested here drained).owing sat-here.there)

      taken : t.rest ≡ []
      taken = empty-is t.rest (sym (ap is_seat_quiet at) ∙ (quiet_here p s m is drained).1)

      pub all-handed : stream_of s (deeds_at p) t.rest ≡ told group_rules group_speech p s.sessions opening h
      all-handed = ap (λ (packets : List Packet). told group_rules group_speech p s.sessions opening h ++ told_by s packets) taken ∙ append-nil (told group_rules group_speech p s.sessions opening h)

      stream : IsStream p s.sessions s.peer worlds (table_in (ends_of s.peer) x.out.formatted) (is_forced x.out) x.ending x.phase (told group_rules group_speech p s.sessions opening h)
      stream = subst (λ (ms : List Message). IsStream p s.sessions s.peer worlds (table_in (ends_of s.peer) x.out.formatted) (is_forced x.out) x.ending x.phase ms) all-handed sat-here.stream

      whole : Alike (table_of (told group_rules group_speech p s.sessions opening h)) (private_table p here.world)
      whole q =
          stream.has q
          ∙ ap (option_map (told_to (ends_of s.peer))) (level-rows p [] here.world s is up-here (session-of p here.world s is up-here) x kept-here sat-here.key_is rests-here.pending q)
          ∙ desired-private p [] here.world s is up-here (session-of p here.world s is up-here) x kept-here sat-here.key_is q

      one_end : ends_of_rib (told group_rules group_speech p s.sessions opening h) ≡ 1
      one_end =
          let one : ends_of_rib (told group_rules group_speech p s.sessions opening h) + 0 ≡ 1 =
          subst (λ (b : Bool). ends_of_rib (told group_rules group_speech p s.sessions opening h) + (if b then 1 else 0) ≡ 1) rests-here.ending stream.one in
          omega arith

      told_here : AllTold
      told_here = record { whole = whole; end_of_rib = one_end; ended = stream.rests rests-here.phase }

    pub all-told : AllTold
    all-told = by m.member.seat refl
      where
        by : (o : Option Seat) → m.member.seat ≡ o → AllTold
        by None at = let dead = m.placed.empty at in let now = live_now in absurd cc
        by (Some t) at = told_here t at
