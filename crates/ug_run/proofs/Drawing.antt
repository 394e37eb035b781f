-- What a run over a drawn workload comes to.
use Rattle.std.proofs.Common.{◌≡◌, ℕ, zero, suc, ◌+◌, ◌-◌, ◌<◌, ◌≤◌, Bool, true, false, inl, inr, List, [], ◌∷◌, ◌++◌, length, map, take, Option, Some, None, Ok, refl, sym, ◌∙◌, ap, subst, arith}
use Rattle.std.specs.Prelude.{slice_get, nat_le, not, if◌then◌else◌}
use Rattle.std.proofs.lemmas.List.{append-nil, length-map}
use Rattle.std.proofs.lemmas.Option.{slice_get_within}
use Rattle.ug_edge.specs.Told.{FileTold, Bytes, file_told}
use Rattle.ug_edge.specs.WireState.{WireState}
use Rattle.ug_board.specs.Entry.{Entry}
use Rattle.ug_board.specs.Rules.{Rules}
use Rattle.ug_message.proofs.Sent.{sent_is_received}
use Rattle.ug_events.specs.Events.{Happening, ComesUp, GoesDown, HasPaths, HasNone, HasPolicy, HasEntries, AsksAgain, SendsRequest, SendsList, Saying}
use Rattle.ug_events.specs.Reads.{Reads}
use Rattle.ug_events.specs.Views.{event_of}
use Rattle.ug_events.specs.declared.event.Event.{Event}
use Rattle.ug_world.specs.declared.peer_state.PeerState.{PeerState}
use Rattle.ug_world.specs.World.{World}
use Rattle.ug_world.specs.Verdicts.{verdict}
use Rattle.ug_world.specs.Worlds.{worlds, last_world, outcome, world_after}
use Rattle.ug_speaker.specs.Speech.{Speech, capabilities_of}
use Rattle.ug_world.specs.After.{after, come_up, gone_down, with_policy, refiltered, with_orf, changed_peer}
use Rattle.ug_speaker.specs.Told.{world_after as through}
use Rattle.ug_speaker.specs.Owes.{IsSpeaker}
use Rattle.ug_event_loop.specs.Contents.{WireTold, Content, EachFrom, EachWire}
use Rattle.ug_event_loop.specs.Kept.{IsSent, IsSessionRight, IsSessionWhole, IsWireRight, IsWireOf}
use Rattle.ug_event_loop.proofs.EachWires.{EachWireFrom, one-by-one}
use Rattle.ug_event_loop.proofs.StoryLines.{accepted, accepted_event, last-accepted}
use Rattle.ug_event_loop.proofs.Runs.{events-are}
use Rattle.ug_report.specs.Report.{losses_from}
use Rattle.ug_report.specs.declared.endings.Loss.{Loss}
use Rattle.ug_report.specs.Statuses.{row_of}
use Rattle.ug_report.specs.declared.status.Status.{Status}
use Rattle.ug_report.specs.declared.status.Status.TheVariants as statuses
use Rattle.ug_pieces.specs.Lines.{ended_from, rest_from, where_some}
use Rattle.ug_event_loop.specs.Standing.{said_by}
use Rattle.ug_event_loop.specs.Files.{most_lines, most_bytes, lines_read}
use Rattle.ug_event_loop.specs.Reading.{first_of}
use Rattle.ug_event_loop.specs.declared.grammar.Grammar.{Grammar}
use Rattle.ug_event_loop.specs.declared.grammar.Grammar.TheVariants.{Every}
use Rattle.ug_selfrun.specs.Lines.{line_of, lines_of, accepted_by, accepted_events}
use Rattle.ug_selfrun.specs.Standings.{HoldsTable, HoldTables}
use Rattle.ug_run.specs.Told.{RunTold}
use Rattle.ug_run.specs.Outcomes.{Course, taken, marked, EndsWell, IsDoneBy, IsOutcome}
use Rattle.ug_commands.specs.Files.{IsPartOf}
use Rattle.ug_run.specs.Promise.{IsEarly, IsRun, IsPromised, IsCounted, IsStopped, IsStoppedFrom}
use Rattle.ug_run.specs.Drawn.{IsSummed, IsDrawnRun}

-- ---- the lines

pub first_lines : (events : List Event) → first_of events ≡ lines_of (map event_of events)
first_lines [] = refl
first_lines (e ∷ events) = ap (λ (ls : List (Reads Saying)). line_of (event_of e) ∷ ls) (first_lines events)

same_event : (v : Option ℕ) (e : Happening) → accepted_event v e ≡ accepted_by v e
same_event None e = refl
same_event (Some number) e = refl

pub accepted_same : (w : World) (events : List Happening) → accepted w (lines_of events) ≡ accepted_events w events
accepted_same w [] = refl
accepted_same w (e ∷ events) =
    let next = world_after w (outcome w (line_of e)) in
    ap (λ (es : List Happening). es ++ accepted next (lines_of events)) (same_event (verdict w e) e) ∙ ap (λ (es : List Happening). accepted_by (verdict w e) e ++ es) (accepted_same next events)

-- ---- the sessions

abbrev told : WireState → WireTold
told wire = record { sessions = Some wire.sessions; faults = wire.faults }

-- one session, and of it two facts
one_session : (P Q : ℕ → List ℕ → Content → Type 0) (n : ℕ) (sessions : List (List ℕ)) (contents : List Content) (k : ℕ) (bytes : List ℕ) → slice_get sessions k ≡ Some bytes
    → EachFrom P n sessions contents → EachFrom Q n sessions contents → (c : Content) × (m : ℕ) × (m ≡ n + k) × P m bytes c × Q m bytes c
one_session P Q n [] contents k bytes at p q = absurd cc
one_session P Q n (s ∷ sessions) [] k bytes at p q = absurd p
one_session P Q n (s ∷ sessions) (c ∷ contents) zero bytes at p q =
    let same : s ≡ bytes = cc in
    let here : n ≡ n + zero = omega arith in
    (c, n, here, subst (λ (b : List ℕ). P n b c) same p.0, subst (λ (b : List ℕ). Q n b c) same q.0)
one_session P Q n (s ∷ sessions) (c ∷ contents) (suc k) bytes at p q =
    let one = one_session P Q (n + 1) sessions contents k bytes at p.1 q.1 in
    let far : (n + 1) + k ≡ n + suc k = omega arith in
    (one.0, one.1, one.2 ∙ far, one.3, one.4)

last_place : (m l n : ℕ) → l - 1 < l → m ≡ 1 + (l - 1) → l ≡ n → m ≡ n
last_place m l n h e f = omega arith

-- the last session of a peer that is up, where none was lost
table_held : (ws : List World) (last : World) (p : ℕ) (s : PeerState) (wire : WireState) (contents : List Content) → IsWireRight ws last true p s (told wire) contents [] → HoldsTable last p s wire.sessions
table_held ws last p s wire contents right up bytes at =
    let one = one_session (IsSessionRight ws p s []) (λ n bytes c. n ≡ s.sessions → IsSessionWhole last p c) 1 wire.sessions contents (length wire.sessions - 1) bytes at right.each (right.end refl up refl) in
    let is_last : one.1 ≡ s.sessions = last_place one.1 (length wire.sessions) s.sessions (slice_get_within wire.sessions (length wire.sessions - 1) bytes at) one.2 right.counted in
    let whole = one.4 is_last in
    record {
      messages = one.0.messages;
      rest = one.0.rest;
      read = sent_is_received (capabilities_of s.peer) (IsSent s.peer.enhanced_refresh) bytes one.0.messages one.0.rest one.3.messages;
      leaves = whole.told.whole;
    }

-- ---- the wires

no_losses : (p : ℕ) (l : List ℕ) (rest : List Loss) → map (λ (n : ℕ). record { peer = p; session = n }) l ++ rest ≡ [] → (l ≡ []) × (rest ≡ [])
no_losses p [] rest h = (refl, h)
no_losses p (n ∷ l) rest h = absurd cc

tables_from : (ws : List World) (last : World) (p : ℕ) (ps : List PeerState) (wires : List WireState) (contents : List (List Content)) (lost : List (List ℕ))
    → ((k : ℕ) (s : PeerState) → slice_get ps k ≡ Some s → slice_get last.peers (p + k) ≡ Some s) → length ps ≡ length wires → losses_from p lost ≡ []
    → EachWireFrom (IsWireOf ws last true) p (map told wires) contents lost → HoldTables last p ps (map (λ (wire : WireState). wire.sessions) wires)
tables_from ws last p [] [] contents lost at many none h = tt
tables_from ws last p [] (wire ∷ wires) contents lost at many none h = absurd cc
tables_from ws last p (s ∷ ps) [] contents lost at many none h = absurd cc
tables_from ws last p (s ∷ ps) (wire ∷ wires) [] lost at many none h = absurd h
tables_from ws last p (s ∷ ps) (wire ∷ wires) (c ∷ contents) [] at many none h = absurd h
tables_from ws last p (s ∷ ps) (wire ∷ wires) (c ∷ contents) (l ∷ lost) at many none h =
    let unlost = no_losses p l (losses_from (p + 1) lost) none in
    let place : p + 0 ≡ p = omega arith in
    let here : slice_get last.peers p ≡ Some s = subst (λ (k : ℕ). slice_get last.peers k ≡ Some s) place (at 0 s refl) in
    let is : h.0.0 ≡ s = (let there = h.0.1 in cc) in
    let right : IsWireRight ws last true p s (told wire) c [] =
    subst (λ (x : PeerState). IsWireRight ws last true p x (told wire) c []) is (subst (λ (ns : List ℕ). IsWireRight ws last true p h.0.0 (told wire) c ns) unlost.0 h.0.2) in
    let fewer : length ps ≡ length wires = omega arith in (
      table_held ws last p s wire c right,
      tables_from ws last (p + 1) ps wires contents lost
          (λ k x is_at. let far : p + suc k ≡ (p + 1) + k = omega arith in subst (λ (n : ℕ). slice_get last.peers n ≡ Some x) far (at (suc k) x is_at)) fewer unlost.1 h.1,
    )

-- ---- an event leaves as many peers

length_after : (w : World) (e : Happening) → length (after w e).peers ≡ length w.peers
unfolding after
length_after w (ComesUp name) = length-map w.peers (changed_peer name come_up)
length_after w (GoesDown name) = length-map w.peers (changed_peer name gone_down)
length_after w (AsksAgain name) = length-map w.peers (changed_peer name refiltered)
length_after w (SendsRequest name) = length-map w.peers (changed_peer name refiltered)
length_after w (SendsList name request) = length-map w.peers (changed_peer name (with_orf request))
length_after w (HasPolicy name policy) = length-map w.peers (changed_peer name (with_policy policy))
length_after w (HasEntries name entries) = refl
length_after w (HasPaths prefix paths) = refl
length_after w (HasNone prefix) = refl

length_through : (w : World) (es : List Happening) → length (through w es).peers ≡ length w.peers
length_through w [] = refl
length_through w (e ∷ es) = length_through (after w e) es ∙ length_after w e

-- ---- the run

none_taken : {A : Type 0} (n : ℕ) → take {A = A} n [] ≡ []
none_taken zero = refl
none_taken (suc n) = refl

none_ended : (n : ℕ) (b : Bool) → ended_from [] (take n []) ++ (if b then where_some (rest_from [] []) else []) ≡ []
unfolding ended_from rest_from
none_ended n true = ap (λ (bs : List ℕ). ended_from [] bs ++ []) (none_taken n)
none_ended n false = ap (λ (bs : List ℕ). ended_from [] bs ++ []) (none_taken n)

-- an empty file has no lines
nothing_counted : map (said_by Every) (lines_read true []) ≡ []
nothing_counted = ap (map (said_by Every)) (ap (take most_lines) (none_ended most_bytes (nat_le 0 most_bytes)) ∙ none_taken most_lines)

nothing_read : (read rest : List ℕ) → [] ≡ read ++ rest → (read ≡ []) × (rest ≡ [])
nothing_read [] rest h = (refl, sym h)
nothing_read (b ∷ read) rest h = absurd cc

-- a run that completed came to `Ok` or failed in its report
completed_ran : (status : Status) → (row_of status).completed ≡ true → status ≡ statuses.NoMemory → ⊥
completed_ran status done is = let at : (row_of statuses.NoMemory).completed ≡ true = subst (λ (s : Status). (row_of s).completed ≡ true) is done in cc

module _ {Opening State Job Said : Type 0} (rules : Rules Opening State Job Said) (speech : Speech Opening State Job Said) where
  module _ (speaks : IsSpeaker rules speech) (w : World) (events : List Event) (run : RunTold Job Said) (wires : List WireState) (wires_are : run.wires ≡ map told wires) (empty : file_told run.before.files [] ≡ Bytes [])
      (ended_well : run.status ≡ statuses.Ok) where
    abbrev Held : Type 0
    Held = HoldTables (last_world w (lines_of (map event_of events))) 0 (last_world w (lines_of (map event_of events))).peers (map (λ (wire : WireState). wire.sessions) wires)

    run_home : IsRun rules speech w Every (first_of events) [] run → Held × IsDrawnRun rules speech w (map event_of events) run.history
    run_home is =
        let c = is.course in
        let well : EndsWell rules speech w Every (first_of events) run c = subst (λ (s : Status). IsOutcome rules speech w Every (first_of events) run c s) ended_well is.outcome in
        let complete = well.complete in
        let done = complete.done in
        let none : c.read ≡ [] = (nothing_read c.read c.rest (subst (λ (f : FileTold). IsPartOf f c.read c.rest) empty is.file.is_part)).0 in
        let no_lines : c.lines ≡ [] = complete.all ∙ (ap (λ (bytes : List ℕ). map (said_by Every) (lines_read true bytes)) none ∙ nothing_counted) in
        let all : taken c ≡ lines_of (map event_of events) =
        ap (λ (ls : List (Reads Saying)). c.ahead ++ ls) no_lines ∙ (append-nil c.ahead ∙ (complete.all_ahead ∙ first_lines events)) in
        let last = last_world w (taken c) in
        let many : length last.peers ≡ length w.peers = ap (λ (v : World). length v.peers) (last-accepted w (taken c)) ∙ length_through w (accepted w (taken c)) in
        let wires_many : length run.wires ≡ length wires = ap (λ (ws : List WireTold). length ws) wires_are ∙ length-map wires told in (
          subst (λ (ls : List (Reads Saying)). HoldTables (last_world w ls) 0 (last_world w ls).peers (map (λ (wire : WireState). wire.sessions) wires)) all
              (tables_from (worlds w (taken c)) last 0 last.peers wires c.contents c.lost (λ k s at. let same : k ≡ 0 + k = omega arith in subst (λ (n : ℕ). slice_get last.peers n ≡ Some s) same at)
              (many ∙ (sym complete.kept.all ∙ wires_many)) well.none_lost
              (one-by-one (IsWireOf (worlds w (taken c)) last true) (map told wires) c.contents c.lost
              (subst (λ (ws : List WireTold). EachWire (IsWireOf (worlds w (taken c)) last true) ws c.contents c.lost) wires_are complete.kept.each))),
          record {
            root = done.root;
            first = done.begins;
            legal = done.closed.legal;
            taken = events-are rules speech speaks done.root (taken c) (marked c) true run.wires run.history done.closed
                ∙ (ap (λ (v : World). accepted v (taken c)) done.begins ∙ (ap (accepted w) all ∙ accepted_same w (map event_of events)));
            drained = done.closed.drained refl;
            closed = done.stopped ∙ ap not complete.unspent;
          },
        )

    pub came_home : IsPromised rules speech w Every (first_of events) [] run → Held × IsDrawnRun rules speech w (map event_of events) run.history
    came_home (inl early) = absurd (subst (λ (s : Status). IsEarly (length w.peers) (length run.wires) run.after.picks.is_open s) ended_well early.early)
    came_home (inr is) = run_home is.1

  -- the same, where the world and the events are known by equations
  pub came_back : (speaks : IsSpeaker rules speech) (w w' : World) (events : List Event) (es : List Happening) (run : RunTold Job Said) (wires : List WireState)
      → IsPromised rules speech w' Every (first_of events) [] run → run.wires ≡ map told wires → w' ≡ w → map event_of events ≡ es → file_told run.before.files [] ≡ Bytes [] → run.status ≡ statuses.Ok
      → HoldTables (last_world w (lines_of es)) 0 (last_world w (lines_of es)).peers (map (λ (wire : WireState). wire.sessions) wires) × IsDrawnRun rules speech w es run.history
  came_back speaks w w' events es run wires promised wires_are e f g h =
      subst (λ (hs : List Happening). HoldTables (last_world w (lines_of hs)) 0 (last_world w (lines_of hs)).peers (map (λ (wire : WireState). wire.sessions) wires) × IsDrawnRun rules speech w hs run.history) f
      (came_home speaks w events run wires wires_are g h (subst (λ (v : World). IsPromised rules speech v Every (first_of events) [] run) e promised))

  -- what is known of the end of a run, whatever it came to
  module _ (w : World) (grammar : Grammar) (first : List (Reads Saying)) (run : RunTold Job Said) (c : Course) where
    stopped_by : (complete : Bool) → IsDoneBy rules speech w grammar first run c complete → IsStoppedFrom rules speech w run.spent run.history
    stopped_by complete done = record { root = done.root; first = done.begins; stopped = done.stopped }

    stopped_at : (status : Status) → IsOutcome rules speech w grammar first run c status → IsStoppedFrom rules speech w run.spent run.history
    stopped_at statuses.Ok h = stopped_by true h.complete.done
    stopped_at (statuses.Lost peer session) h = stopped_by true h.complete.done
    stopped_at statuses.ReadFault h = stopped_by false h.cut.done
    stopped_at statuses.ReportFault h = stopped_by false h.cut.done
    stopped_at statuses.NoMemory h = stopped_by false h.cut.done
    stopped_at statuses.TooLong h = stopped_by false h.cut.done
    stopped_at statuses.Usage h = absurd h
    stopped_at (statuses.Config number field) h = absurd h
    stopped_at statuses.SiteFault h = absurd h
    stopped_at (statuses.Malformed cause offset) h = absurd h
    stopped_at (statuses.Refuted peer session kind message key) h = absurd h
    stopped_at (statuses.Unclear line) h = absurd h

  pub stopped_as : (w w' : World) (grammar : Grammar) (first : List (Reads Saying)) (events : List ℕ) (run : RunTold Job Said) → w' ≡ w
      → IsPromised rules speech w' grammar first events run → IsStopped rules speech w run.spent run.history
  stopped_as w w' grammar first events run e (inl early) = inl (early.none, early.unspent)
  stopped_as w w' grammar first events run e (inr is) =
      inr (subst (λ (v : World). IsStoppedFrom rules speech v run.spent run.history) e (stopped_at w' grammar first run is.1.course run.status is.1.outcome))

  -- what a run counted that came to `Ok`, whatever was reported of it
  pub counted_as : (w w' : World) (run status : Status) (history : List (Entry Job Said)) (before after : ℕ) → w' ≡ w → ((status ≡ statuses.NoMemory → ⊥) → run ≡ statuses.Ok)
      → IsCounted rules speech w' (row_of run).completed history before after → IsCounted rules speech w (row_of status).completed history before after
  counted_as w w' run status history before after e f (inl none) = inl none
  counted_as w w' run status history before after e f (inr c) = inr (record {
    root = c.root;
    first = c.first ∙ e;
    least = c.least;
    most = λ is. c.most (ap (λ (s : Status). (row_of s).completed) (f (completed_ran status is)));
  })

-- the wires are those of a run in whose last world their tables are the private ones
pub held_as : (v last : World) (ws ws' : List WireState) → v ≡ last → ws ≡ ws' → HoldTables last 0 last.peers (map (λ (wire : WireState). wire.sessions) ws') → HoldTables v 0 v.peers (map (λ (wire : WireState). wire.sessions) ws)
held_as v last ws ws' e f h =
    subst (λ (x : World). HoldTables x 0 x.peers (map (λ (wire : WireState). wire.sessions) ws)) (sym e) (subst (λ (x : List WireState). HoldTables last 0 last.peers (map (λ (wire : WireState). wire.sessions) x)) (sym f) h)

-- the report of a run is that of what it came to
pub summed_as : (number : ℕ) (last last' : World) (accepted accepted' refused refused' : ℕ) (status : Status) (before held : Option (List ℕ)) (failed : Type 0)
    → last' ≡ last → accepted' ≡ accepted → refused' ≡ refused → IsSummed number last' accepted' refused' status before held failed → IsSummed number last accepted refused status before held failed
summed_as number last last' accepted accepted' refused refused' status before held failed e f g h =
    subst (λ (v : World). IsSummed number v accepted refused status before held failed) e
    (subst (λ (n : ℕ). IsSummed number last' n refused status before held failed) f (subst (λ (n : ℕ). IsSummed number last' accepted' n status before held failed) g h))

pub summed_fault : (number : ℕ) (last : World) (accepted refused : ℕ) (status : Status) (before held : Option (List ℕ)) (failed : Type 0)
    → status ≡ statuses.ReportFault → IsSummed number last accepted refused status before held failed → failed
summed_fault number last accepted refused status before held failed is h = (subst (λ (s : Status). IsSummed number last accepted refused s before held failed) is h).0

pub summed_usage : (number : ℕ) (last : World) (accepted refused : ℕ) (status : Status) (before held : Option (List ℕ)) (failed : Type 0)
    → status ≡ statuses.Usage → IsSummed number last accepted refused status before held failed → ⊥
summed_usage number last accepted refused status before held failed is h = subst (λ (s : Status). IsSummed number last accepted refused s before held failed) is h

pub summed_unread : (number : ℕ) (last : World) (accepted refused : ℕ) (status : Status) (before held : Option (List ℕ)) (failed : Type 0)
    → status ≡ statuses.ReadFault → IsSummed number last accepted refused status before held failed → ⊥
summed_unread number last accepted refused status before held failed is h = subst (λ (s : Status). IsSummed number last accepted refused s before held failed) is h

pub summed_unwired : (number : ℕ) (last : World) (accepted refused : ℕ) (status : Status) (before held : Option (List ℕ)) (failed : Type 0)
    → status ≡ statuses.SiteFault → IsSummed number last accepted refused status before held failed → ⊥
summed_unwired number last accepted refused status before held failed is h = subst (λ (s : Status). IsSummed number last accepted refused s before held failed) is h
