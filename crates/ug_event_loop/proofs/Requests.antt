-- A mark of a request, and what was told again between it and a later `sync`.
use Rattle.std.proofs.Common.{◌≡◌, ℕ, ◌+◌, Bool, true, false, List, [], ◌∷◌, ◌++◌, length, slice_get, Option, Some, None, Ok, refl, sym, ◌∙◌, ap, subst, arith, append_assoc}
use Rattle.std.specs.Prelude.{◌==◌, ◌&&◌, not, if◌then◌else◌}
use Rattle.std.specs.List.{list_any}
use Rattle.std.specs.Option.{option_map}
use Rattle.ug_types.specs.Bytes.{same_bytes}
use Rattle.ug_types.specs.declared.mark.Mark.{Mark}
use Rattle.ug_types.specs.Messages.{Message}
use Rattle.ug_board.specs.Entry.{Entry}
use Rattle.ug_board.specs.Rules.{Rules}
use Rattle.ug_board.specs.History.{replay, job_entry}
use Rattle.ug_board.specs.Deeds.{Deed, losses}
use Rattle.ug_board.specs.Sessions.{sessions_of}
use Rattle.ug_events.specs.Events.{Happening, Saying, Says, ComesUp, GoesDown, HasPaths, HasNone, HasPolicy, HasEntries, AsksAgain, SendsRequest, SendsList}
use Rattle.ug_events.specs.Reads.{Reads}
use Rattle.ug_world.specs.declared.peer_state.PeerState.{PeerState}
use Rattle.ug_world.specs.World.{World}
use Rattle.ug_world.specs.After.{after, refiltered, with_orf}
use Rattle.ug_world.specs.Verdicts.{verdict}
use Rattle.ug_world.specs.Touches.{is_about}
use Rattle.ug_speaker.specs.Speech.{TakesEvent, Speech, is_request}
use Rattle.ug_speaker.specs.Told.{handed_in, deeds_to, told, is_lost, is_live, mark_of, marks_of_asker, world_after, world_at}
use Rattle.ug_speaker.specs.Right.{IsAmong, IsToldAgain}
use Rattle.ug_speaker.specs.Owes.{IsCourse, IsSpeaker, IsAskingAgain, IsDrainedSince}
use Rattle.ug_speaker.specs.Story.{IsDone, DoesEvent}
use Rattle.ug_event_loop.specs.Contents.{WireTold}
use Rattle.ug_event_loop.specs.Crew.{IsClosed}
use Rattle.ug_event_loop.proofs.Growing.{world-further}
use Rattle.ug_speaker.proofs.Peers.{peer_after, peers-after, next-of, about-alike}
use Rattle.ug_event_loop.proofs.Growth.{job-tells-none}
use Rattle.ug_event_loop.proofs.StoryLines.{did-one}
use Rattle.ug_event_loop.proofs.Marking.{IsMarkAmong, mark-among, marks-told}
use Rattle.ug_event_loop.proofs.Runs.{course-at}
use Rattle.ug_event_loop.proofs.Syncs.{IsLine, IsSyncedAt}

-- ---- a request leaves a peer in its session

abbrev IsStill : PeerState → PeerState → Type 0
IsStill s s' = (s'.sessions ≡ s.sessions) × (s'.up ≡ s.up)

still_by : (b : Bool) (s s' : PeerState) → IsStill s s' → IsStill s (if b then s' else s)
still_by true s s' is = is
still_by false s s' is = (refl, refl)

request_still : (e : Happening) (s : PeerState) → is_request e ≡ true → IsStill s (peer_after e s)
request_still (AsksAgain name) s asks = still_by (same_bytes s.peer.name name) s (refiltered s) (refl, refl)
request_still (SendsRequest name) s asks = still_by (same_bytes s.peer.name name) s (refiltered s) (refl, refl)
request_still (SendsList name request) s asks = still_by (same_bytes s.peer.name name) s (with_orf request s) (refl, refl)
request_still (ComesUp name) s asks = absurd cc
request_still (GoesDown name) s asks = absurd cc
request_still (HasPaths prefix paths) s asks = absurd cc
request_still (HasNone prefix) s asks = absurd cc
request_still (HasPolicy name policy) s asks = absurd cc
request_still (HasEntries name entries) s asks = absurd cc

mapped_from : (f : PeerState → PeerState) (o : Option PeerState) (s : PeerState) → option_map f o ≡ Some s → (old : PeerState) × (o ≡ Some old) × (f old ≡ s)
mapped_from f (Some old) s is = (old, refl, cc)
mapped_from f None s is = absurd cc

both_so : (a b : Bool) → (a && b) ≡ true → (a ≡ true) × (b ≡ true)
both_so true b e = (refl, e)
both_so false b e = absurd cc

module _ {Opening State Job Said : Type 0} (rules : Rules Opening State Job Said) (speech : Speech Opening State Job Said) (speaks : IsSpeaker rules speech)
    (opening : Opening) (lines : List (Reads Saying)) (marks : List (List Mark)) (complete : Bool) (wires : List WireTold) (history : List (Entry Job Said))
    (closed : IsClosed rules speech opening lines marks complete wires history) where
  -- What is so of a request behind this front, and of a mark that it made.
  pub record IsAskedAt (front did : List (Entry Job Said)) (m : Mark) : Type 0 where
    pub place : ℕ
    pub asker : PeerState
    pub asks : IsAskingAgain rules speech opening front place asker
    pub entry : did ≡ job_entry rules 0 asks.job (replay rules opening front) ∷ []
    pub peer : m.peer ≡ place
    pub session : m.session ≡ asker.sessions
    pub handed : m.handed ≡ length (told rules speech place asker.sessions opening front)

  module _ (h did later : List (Entry Job Said)) (e : Happening) (ms : List Mark) (m : Mark) (parts : history ≡ h ++ (did ++ later)) (done : IsDone rules speech (TakesEvent e) opening h ms did) (among : IsAmong m ms) where
    course_did : IsCourse rules speech opening (h ++ did)
    course_did = course-at rules speech speaks opening lines marks complete wires history closed (h ++ did) later (parts ∙ sym (append_assoc h did later))

    marks_did : ms ≡ marks_of_asker rules speech e opening (h ++ did)
    marks_did =
        done.marks ∙ marks-told rules speech speaks.histories (TakesEvent e) opening h ms did (course-at rules speech speaks opening lines marks complete wires history closed h (did ++ later) parts) done

    pub request-mark : IsMarkAmong rules speech (λ s. is_request e && is_about e s) 0 (world_at rules speech opening (h ++ did)).peers opening (h ++ did) m
    request-mark = mark-among rules speech (λ s. is_request e && is_about e s) 0 (world_at rules speech opening (h ++ did)).peers opening (h ++ did) m (subst (λ (l : List Mark). IsAmong m l) marks_did among)

    abbrev place : ℕ
    place = request-mark.place

    same_place : 0 + place ≡ place
    same_place = omega arith

    world_did : world_at rules speech opening (h ++ did) ≡ after (world_at rules speech opening h) e
    world_did =
        world-further rules speech speaks.steps opening h did course_did.legal
        ∙ ap (λ (es : List Happening). world_after (world_at rules speech opening h) es) (did-one rules speech opening h (TakesEvent e) ms did done)

    asker_found : (old : PeerState) × (slice_get (world_at rules speech opening h).peers place ≡ Some old) × (peer_after e old ≡ request-mark.state)
    asker_found =
        mapped_from (peer_after e) (slice_get (world_at rules speech opening h).peers place) request-mark.state
        (sym (peers-after e (world_at rules speech opening h) place) ∙ (ap (λ (w : World). slice_get w.peers place) (sym world_did) ∙ request-mark.there))

    abbrev asker : PeerState
    asker = asker_found.0

    request_is : (is_request e ≡ true) × (is_about e request-mark.state ≡ true)
    request_is = both_so (is_request e) (is_about e request-mark.state) request-mark.passes

    still : IsStill asker request-mark.state
    still = subst (λ (s : PeerState). IsStill asker s) asker_found.2 (request_still e asker request_is.0)

    same_name_is : request-mark.state.peer.name ≡ asker.peer.name
    same_name_is = ap (λ (s : PeerState). s.peer.name) (sym asker_found.2) ∙ (next-of e asker).named

    deeds_did : deeds_to rules speech place opening (h ++ did) ≡ deeds_to rules speech place opening h
    deeds_did = ap (λ (es : List (Entry Job Said)). deeds_to rules speech place opening (h ++ es)) done.entry ∙ job-tells-none rules speech place opening h 0 done.job (replay rules opening h)

    told_did : told rules speech place request-mark.state.sessions opening (h ++ did) ≡ told rules speech place asker.sessions opening h
    told_did = ap (λ n. told rules speech place n opening (h ++ did)) still.0 ∙ ap (λ (ds : List (Deed Message)). handed_in asker.sessions (sessions_of ds)) deeds_did

    lost_did : is_lost rules speech place request-mark.state.sessions opening (h ++ did) ≡ is_lost rules speech place asker.sessions opening h
    lost_did = ap (λ n. is_lost rules speech place n opening (h ++ did)) still.0 ∙ ap (λ (ds : List (Deed Message)). list_any (λ (k : ℕ). k == asker.sessions) (losses ds)) deeds_did

    live_here : is_live rules speech place asker opening h ≡ true
    live_here =
        let live : is_live rules speech place request-mark.state opening (h ++ did) ≡ true = subst (λ k. is_live rules speech k request-mark.state opening (h ++ did) ≡ true) same_place request-mark.live in
        ap (λ (b : Bool). b && not (is_lost rules speech place asker.sessions opening h)) (sym still.1)
        ∙ (ap (λ (b : Bool). request-mark.state.up && not b) (sym lost_did) ∙ live)

    mark_is : m ≡ mark_of rules speech place request-mark.state opening (h ++ did)
    mark_is = subst (λ k. m ≡ mark_of rules speech k request-mark.state opening (h ++ did)) same_place request-mark.mark

    asked_here : IsAskedAt h did m
    asked_here = record {
      place = place;
      asker = asker;
      asks = record {
        job = done.job;
        event = e;
        takes = done.is;
        request = request_is.0;
        there = asker_found.1;
        about = sym (about-alike e asker request-mark.state same_name_is) ∙ request_is.1;
        live = live_here;
        legal = done.legal;
      };
      entry = done.entry;
      peer = ap (λ (n : Mark). n.peer) mark_is;
      session = ap (λ (n : Mark). n.session) mark_is ∙ still.0;
      handed = ap (λ (n : Mark). n.handed) mark_is ∙ ap length told_did;
    }

  asked_by : (v : Option ℕ) (h did later : List (Entry Job Said)) (e : Happening) (ms : List Mark) (m : Mark) → history ≡ h ++ (did ++ later) → DoesEvent rules speech v e opening h ms did → IsAmong m ms → IsAskedAt h did m
  asked_by None h did later e ms m parts done among = asked_here h did later e ms m parts done among
  asked_by (Some number) h did later e ms m parts nothing among = absurd (subst (λ (l : List Mark). IsAmong m l) nothing.0 among)

  pub asked-at : (start : List (Entry Job Said)) (e : Happening) (ms : List Mark) (w : World) (m : Mark) (at : IsLine rules speech speaks opening lines marks complete wires history closed start (Ok (Says e)) ms w) → IsAmong m ms
      → IsAskedAt (start ++ at.more) at.did m
  asked-at start e ms w m at among = asked_by (verdict (world_at rules speech opening (start ++ at.more)) e) (start ++ at.more) at.did at.later e ms m at.parts at.does among

  -- ---- and a later `sync`

  module _ (h did more did' : List (Entry Job Said)) (m m' : Mark) (w : World) (asked : IsAskedAt h did m)
      (synced : IsSyncedAt rules speech speaks opening lines marks complete wires history closed (((h ++ did) ++ more) ++ did') w m') (peers : m'.peer ≡ m.peer) (sessions : m'.session ≡ m.session) where
    abbrev whole : List (Entry Job Said)
    whole = ((h ++ did) ++ more) ++ did'

    whole_is : whole ≡ h ++ job_entry rules 0 asked.asks.job (replay rules opening h) ∷ (more ++ did')
    whole_is =
        ap (λ (es : List (Entry Job Said)). ((h ++ es) ++ more) ++ did') asked.entry
        ∙ (append_assoc (h ++ job_entry rules 0 asked.asks.job (replay rules opening h) ∷ []) more did' ∙ append_assoc h (job_entry rules 0 asked.asks.job (replay rules opening h) ∷ []) (more ++ did'))

    same_peer : synced.place ≡ asked.place
    same_peer = ap (λ (n : Mark). n.peer) (sym synced.mark) ∙ (peers ∙ asked.peer)

    since : IsDrainedSince rules speech opening h whole asked.place asked.asker synced.state
    since = record {
      asks = asked.asks;
      pass = 0;
      later = more ++ did';
      goes_on = whole_is;
      course = synced.course;
      there = subst (λ p. slice_get (world_at rules speech opening whole).peers p ≡ Some synced.state) same_peer synced.there;
      same_session = ap (λ (n : Mark). n.session) (sym synced.mark) ∙ (sessions ∙ asked.session);
      live = subst (λ p. is_live rules speech p synced.state opening whole ≡ true) same_peer synced.live;
      drained = synced.drained;
    }

    pub asked-told : IsToldAgain m.peer synced.state.peer w m.handed (told rules speech synced.place synced.state.sessions opening whole)
    asked-told =
        subst (λ n. IsToldAgain m.peer synced.state.peer w n (told rules speech synced.place synced.state.sessions opening whole)) (sym asked.handed)
        (subst (λ (p : ℕ). IsToldAgain p synced.state.peer w (length (told rules speech asked.place asked.asker.sessions opening h)) (told rules speech synced.place synced.state.sessions opening whole)) (sym asked.peer)
        (subst (λ (p : ℕ). IsToldAgain asked.place synced.state.peer w (length (told rules speech asked.place asked.asker.sessions opening h)) (told rules speech p synced.state.sessions opening whole)) (sym same_peer)
        (subst (λ (v : World). IsToldAgain asked.place synced.state.peer v (length (told rules speech asked.place asked.asker.sessions opening h)) (told rules speech asked.place synced.state.sessions opening whole)) synced.world
        (speaks.histories.told_again opening h whole asked.place asked.asker synced.state since))))
