-- From a request on, and what that leaves when everything is told.
use Rattle.std.proofs.Common.{◌≡◌, ℕ, ◌≤◌, inl, inr, Bool, true, false, List, [], ◌∷◌, ◌++◌, length, drop, slice_get, Option, Some, None, refl, sym, ◌∙◌, ap, subst, arith}
use Rattle.std.specs.Prelude.{◌&&◌, is_some}
use Rattle.std.specs.List.{list_any}
use Rattle.std.specs.Option.{option_map}
use Rattle.std.proofs.lemmas.List.{append-nil}
use Rattle.ug_types.specs.declared.key.Key.{Key}
use Rattle.ug_types.specs.Messages.{Message}
use Rattle.ug_board.specs.declared.steps.BoardStep.TheVariants.{Job as DoJob}
use Rattle.ug_board.specs.History.{after_step, replay_from, replay, job_entry}
use Rattle.ug_board.specs.Deeds.{Deed, to_peer, deeds_from}
use Rattle.ug_board.proofs.Growth.{deeds_from-append}
use Rattle.ug_outbound.specs.Keys.{ends_of}
use Rattle.ug_message.specs.NextHops.{told_to}
use Rattle.ug_events.specs.Events.{Happening}
use Rattle.ug_world.specs.declared.peer_state.PeerState.{PeerState}
use Rattle.ug_world.specs.World.{World, key_in}
use Rattle.ug_world.specs.Private.{private_table}
use Rattle.ug_world.specs.Worlds.{in_session}
use Rattle.ug_world.specs.After.{after}
use Rattle.ug_world.specs.Touches.{is_about}
use Rattle.ug_speaker.specs.Speech.{is_request}
use Rattle.ug_speaker.specs.Told.{worlds_through, events_in, worlds_of, deeds_to, told, is_live as is_live_in}
use Rattle.ug_speaker.specs.Right.{announces, BeginsWhere, IsToldAgain}
use Rattle.ug_speaker.specs.Owes.{IsCourse}
use Rattle.ug_speaker.proofs.Bools.{both, or_so}
use Rattle.ug_speaker.proofs.Peers.{peer_after, peers-after, next-of, about-alike}
use Rattle.ug_group_rules.specs.Machine.{Subgroup, Seat, Member, System, is_owed, seat_of, seat_at, subgroup_at, there, start, take_event, is_drained, Take}
use Rattle.ug_group_rules.specs.Rules.{group_rules, group_speech}
use Rattle.ug_group_rules.specs.Simulates.{rest_to, IsAnsweredSince}
use Rattle.ug_group_rules.proofs.Tables.{row_at, is_forced}
use Rattle.ug_group_rules.proofs.Again.{is_coming, IsAgain}
use Rattle.ug_group_rules.proofs.MemberStreams.{some-mapped, desired-private, level-rows, level-unforced}
use Rattle.ug_group_rules.proofs.Seated.{told_by, IsSat, member-of}
use Rattle.ug_group_rules.proofs.Formatting.{session-of}
use Rattle.ug_group_rules.proofs.WorldStays.{world-event}
use Rattle.ug_group_rules.proofs.Histories.{GroupEntry, AreFine, deeds_then, Stepped, step-any, first-among, Reached, reach, system-first}
use Rattle.ug_group_rules.proofs.SendableRoutes.{are-down}
use Rattle.ug_group_rules.proofs.Courses.{IsMemberAt, member-at, live-here, fine, up-here, sat-here, kept-here, rests-here, all-handed}
use Rattle.ug_group_rules.proofs.Asked.{IsAgainAt, IsAsked}
use Rattle.ug_group_rules.proofs.AskedLanes.{asked-deeds}
use Rattle.ug_group_rules.proofs.AskedTurns.{asked-event}
use Rattle.ug_group_rules.proofs.AskedSteps.{asked-along}

-- ---- from a request on

replay_append : (s : System) (h more : List GroupEntry) → replay_from group_rules s (h ++ more) ≡ replay_from group_rules (replay_from group_rules s h) more
replay_append s [] more = refl
replay_append s (entry ∷ h) more = replay_append (after_step group_rules entry.step s) h more

module _ (opening : World) (before later : List GroupEntry) (pass : ℕ) (e : Happening) (p : ℕ) (asker : PeerState) where
  abbrev state : System
  state = replay group_rules opening before

  abbrev next : System
  next = take_event e state

  abbrev entry : GroupEntry
  entry = job_entry group_rules pass (Take e) state

  abbrev whole : List GroupEntry
  whole = before ++ entry ∷ later

  abbrev deeds_at : ℕ → List (Deed Message)
  deeds_at q = deeds_to group_rules group_speech q opening before

  abbrev n : ℕ
  n = asker.sessions

  module _ (course : IsCourse group_rules group_speech opening whole) (is : slice_get state.world.peers p ≡ Some asker) (asks : is_request e ≡ true) (about : is_about e asker ≡ true) (handed : ℕ)
      (few : (t : Seat) → seat_at p state ≡ Some t → handed ≤ length (told group_rules group_speech p n opening before ++ told_by asker t.rest)) where
    reached : Reached before (entry ∷ later) [] (λ q. []) (start opening)
    reached = reach before (entry ∷ later) [] (λ q. []) (start opening) (system-first opening (are-down opening course.opens)) course.legal (fine opening whole course)

    abbrev worlds : List World
    worlds = reached.front_then ++ state.world ∷ []

    -- before the event nothing is asked
    asked_first : IsAsked false p n handed (deeds_at p) state.world state
    asked_first =
        let found = member-of p worlds (deeds_at p) state asker is (reached.system.placed p) in
        record {
          peer = asker;
          member = found.0;
          is = is;
          at = found.1;
          rises = omega arith;
          again = λ same t sits.
              let sat = found.2.sat t sits in
              record {
                subgroup = sat.subgroup;
                there = sat.there;
                again = record {
                  long = few t (ap seat_of found.1 ∙ sits);
                  announced = λ so. absurd cc;
                  begun = λ so. absurd cc;
                };
              };
        }

    wants : (s' : PeerState) → slice_get (after state.world e).peers p ≡ Some s' → (is_request e && is_about e s') ≡ true
    wants s' is' =
        let both_are : Some (peer_after e asker) ≡ Some s' = sym (peers-after e state.world p ∙ ap (option_map (peer_after e)) is) ∙ is' in
        let same : peer_after e asker ≡ s' = cc in
        both (is_request e) (is_about e s') asks (ap (is_about e) (sym same) ∙ about-alike e asker (peer_after e asker) (next-of e asker).named ∙ about)

    asked_then : IsAsked true p n handed (deeds_at p ++ []) next.world next
    asked_then =
        asked-deeds true p n handed (deeds_at p) next.world next
        (subst (λ (w : World). IsAsked true p n handed (deeds_at p) w next) (sym (world-event e state)) (asked-event e worlds deeds_at state reached.system false p n handed asked_first true wants))
        (deeds_at p ++ []) (sym (append-nil (deeds_at p)))

    fine_from : AreFine (reached.front_then ++ worlds_through state.world (events_in group_rules group_speech (entry ∷ later)))
    fine_from = subst (λ (ws : List World). AreFine ws) reached.worlds (fine opening whole course)

    one : Stepped reached.front_then deeds_at state (DoJob (Take e)) entry.said
    one = step-any reached.front_then deeds_at state reached.system (DoJob (Take e)) entry.said reached.legal.0 (fine_from state.world (first-among state.world (events_in group_rules group_speech (entry ∷ later)) reached.front_then))

    asked_end : IsAsked true p n handed ((deeds_at p ++ []) ++ deeds_from group_rules group_speech.message (to_peer p) next later) (replay_from group_rules next later).world (replay_from group_rules next later)
    asked_end =
        asked-along p n handed later one.front_then (deeds_then deeds_at (DoJob (Take e)) entry.said state) next one.system reached.legal.1
        (subst (λ (ws : List World). AreFine ws) (one.worlds (events_in group_rules group_speech later)) fine_from) asked_then

    all_deeds : (deeds_at p ++ []) ++ deeds_from group_rules group_speech.message (to_peer p) next later ≡ deeds_to group_rules group_speech p opening whole
    all_deeds =
        ap (λ (ds : List (Deed Message)). ds ++ deeds_from group_rules group_speech.message (to_peer p) next later) (append-nil (deeds_at p))
        ∙ sym (deeds_from-append group_rules group_speech.message (to_peer p) (start opening) before (entry ∷ later))

    pub asked-whole : IsAsked true p n handed (deeds_to group_rules group_speech p opening whole) (replay group_rules opening whole).world (replay group_rules opening whole)
    asked-whole =
        subst (λ (s : System). IsAsked true p n handed (deeds_to group_rules group_speech p opening whole) s.world s) (sym (replay_append (start opening) before (entry ∷ later)))
        (asked-deeds true p n handed _ (replay_from group_rules next later).world (replay_from group_rules next later) asked_end (deeds_to group_rules group_speech p opening whole) all_deeds)

-- ---- when everything is told

module _ (opening : World) (h : List GroupEntry) (course : IsCourse group_rules group_speech opening h) (p n handed : ℕ) (s : PeerState) (is : slice_get (replay group_rules opening h).world.peers p ≡ Some s)
    (drained : is_drained (replay group_rules opening h) ≡ true) (live : is_live_in group_rules group_speech p s opening h ≡ true)
    (asked : IsAsked true p n handed (deeds_to group_rules group_speech p opening h) (replay group_rules opening h).world (replay group_rules opening h)) (same : s.sessions ≡ n) where
  abbrev here : System
  here = replay group_rules opening h

  abbrev m : IsMemberAt opening h course p s
  m = member-at opening h course p s is

  abbrev messages : List Message
  messages = told group_rules group_speech p s.sessions opening h

  abbrev ToldAgain : Type 0
  ToldAgain = IsToldAgain p s.peer here.world handed messages

  up : s.up ≡ true
  up = up-here opening h course p s is drained live

  session : in_session p s.sessions here.world ≡ true
  session = session-of p here.world s is up

  peer_is : asked.peer ≡ s
  peer_is = let both_are : Some asked.peer ≡ Some s = sym asked.is ∙ is in cc

  member_is : asked.member ≡ m.member
  member_is = let both_are : Some asked.member ≡ Some m.member = sym asked.at ∙ m.at in cc

  module _ (t : Seat) (at : m.member.seat ≡ Some t) where
    abbrev sat : IsSat p (worlds_of group_rules group_speech opening h) (deeds_to group_rules group_speech p opening h) s m.member here.subgroups (key_in here.world s) t
    sat = sat-here opening h course p s is drained live t at

    abbrev x : Subgroup
    x = sat.subgroup

    found : IsAgainAt true handed s (deeds_to group_rules group_speech p opening h) here.subgroups t
    found =
        subst (λ (peer : PeerState). peer.sessions ≡ n → IsAgainAt true handed peer (deeds_to group_rules group_speech p opening h) here.subgroups t) peer_is
        (λ now. asked.again now t (ap (λ (member : Member). member.seat) member_is ∙ at)) same

    again : IsAgain true handed s.peer.enhanced_refresh x messages
    again =
        let both_are : Some (Some found.subgroup) ≡ Some (Some x) = sym found.there ∙ sat.there in
        let group_is : found.subgroup ≡ x = cc in
        subst (λ (ms : List Message). IsAgain true handed s.peer.enhanced_refresh x ms) (all-handed opening h course p s is drained live t at)
        (subst (λ (y : Subgroup). IsAgain true handed s.peer.enhanced_refresh y (told group_rules group_speech p s.sessions opening h ++ told_by s t.rest)) group_is found.again)

    not_owed : is_owed x.phase ≡ true → ⊥
    not_owed owed = let none : is_owed x.phase ≡ false = ap is_owed (rests-here opening h course p s is drained live t at).phase in absurd cc

    none_pending : x.out.pending ≡ []
    none_pending = (rests-here opening h course p s is drained live t at).pending

    formatted_there : (key : Key) → is_some (private_table p here.world key) ≡ true → is_some (row_at x.out.formatted key) ≡ true
    formatted_there key there =
        ap is_some (level-rows p [] here.world s is up session x (kept-here opening h course p s is drained live t at) sat.key_is none_pending key)
        ∙ sym (some-mapped (told_to (ends_of s.peer)) (row_at x.out.desired key))
        ∙ ap is_some (desired-private p [] here.world s is up session x (kept-here opening h course p s is drained live t at) sat.key_is key)
        ∙ there

    not_coming : (key : Key) → is_some (row_at x.out.formatted key) ≡ true → is_coming x key ≡ true → ⊥
    not_coming key there coming =
        elim (or_so (is_owed x.phase) (is_forced x.out key) coming) [
          | inl owed ↦ not_owed owed
          | inr forced ↦
              level-unforced p [] here.world s is up session x (kept-here opening h course p s is drained live t at) sat.key_is none_pending key forced (some-mapped (told_to (ends_of s.peer)) (row_at x.out.formatted key) ∙ there)
        ]

    told_announced : (key : Key) → is_some (private_table p here.world key) ≡ true → list_any (announces key) (drop handed messages) ≡ true
    told_announced key there =
        let row = formatted_there key there in
        elim (again.announced refl key row) [ inl coming ↦ absurd (not_coming key row coming) | inr now ↦ now ]

    told_begun : (b : Bool) → s.peer.enhanced_refresh ≡ b → BeginsWhere b (drop handed messages)
    told_begun true e = elim (again.begun refl e) [ inl owed ↦ absurd (not_owed owed) | inr now ↦ now ]
    told_begun false e = tt

    told_here : ToldAgain
    told_here = record { announced = told_announced; begun = told_begun s.peer.enhanced_refresh refl }

  pub told-all_again : ToldAgain
  told-all_again = by m.member.seat refl
    where
      by : (o : Option Seat) → m.member.seat ≡ o → ToldAgain
      by None at = let dead = m.placed.empty at in let now = sym (live-here opening h course p s m) ∙ live in absurd cc
      by (Some t) at = told_here t at

-- ---- while the peer sits

module _ (h : List GroupEntry) (opening : World) (p handed : ℕ) (s : PeerState) (t : Seat) (is : slice_get (replay group_rules opening h).world.peers p ≡ Some s) (seat : seat_at p (replay group_rules opening h) ≡ Some t)
    (n : ℕ) (same : s.sessions ≡ n) (asked : IsAsked true p n handed (deeds_to group_rules group_speech p opening h) (replay group_rules opening h).world (replay group_rules opening h)) where
  peer_there : asked.peer ≡ s
  peer_there = let both_are : Some asked.peer ≡ Some s = sym asked.is ∙ is in cc

  again_there : IsAgainAt true handed s (deeds_to group_rules group_speech p opening h) (replay group_rules opening h).subgroups t
  again_there =
      subst (λ (peer : PeerState). peer.sessions ≡ n → IsAgainAt true handed peer (deeds_to group_rules group_speech p opening h) (replay group_rules opening h).subgroups t) peer_there
      (λ now. asked.again now t (sym (ap seat_of asked.at) ∙ seat)) same

  abbrev messages_now : List Message
  messages_now = told group_rules group_speech p s.sessions opening h ++ rest_to s t.rest

  pub answered-since : (x : Subgroup) × (subgroup_at t.sub (replay group_rules opening h) ≡ Some x) × IsAnsweredSince handed x messages_now
  answered-since =
      let again = again_there in
      let x = again.subgroup in (
        x,
        ap there again.there,
        λ k formatted. elim (again.again.announced refl k formatted) [
          | inl coming ↦ elim (or_so (is_owed x.phase) (is_forced x.out k) coming) [ inl owed ↦ inl owed | inr forced ↦ inr (inl forced) ]
          | inr told ↦ inr (inr told)
        ],
      )
