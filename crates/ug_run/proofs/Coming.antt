-- What a run comes to, by how its reading ended.
use Rattle.std.proofs.Common.{◌≡◌, ℕ, ◌≤◌, Bool, true, false, List, [], ◌∷◌, ◌++◌, length, map, Option, Some, None, inl, inr, refl, sym, ◌∙◌, ap, subst, append_assoc, arith}
use Rattle.std.specs.Prelude.{◌&&◌, not, ◌⊎◌, ◌==◌}
use Rattle.std.specs.List.{concat, flat_map}
use Rattle.std.proofs.lemmas.List.{append-nil}
use Rattle.ug_types.specs.declared.mark.Mark.{Mark}
use Rattle.ug_types.specs.Bytes.{is_empty}
use Rattle.ug_edge.specs.Told.{Rose, IsEnded, HasPicked, WireName, file_told, AppendsPiece}
use Rattle.ug_pieces.specs.Reporting.{AppendsFront}
use Rattle.ug_pieces.specs.AppendingLaws.{AppendsPiece-more, AppendsFront-more}
use Rattle.ug_board.specs.Entry.{Entry}
use Rattle.ug_board.specs.Rules.{Rules, IsMachine}
use Rattle.ug_board.specs.History.{IsLegal, replay}
use Rattle.ug_board.specs.Deeds.{Each}
use Rattle.ug_events.specs.Events.{Saying}
use Rattle.ug_events.specs.Reads.{Reads}
use Rattle.ug_world.specs.World.{World}
use Rattle.ug_world.specs.Worlds.{worlds, last_world}
use Rattle.ug_speaker.specs.Speech.{Speech}
use Rattle.ug_speaker.specs.Owes.{IsOpening, IsSpeaker}
use Rattle.ug_speaker.specs.Story.{IsSound}
use Rattle.ug_report.specs.declared.endings.Loss.{Loss}
use Rattle.ug_report.specs.Report.{names_in, loss_text, counts_text, accepted_count, line_texts, end_text, losses_from, losses_status}
use Rattle.ug_event_loop.specs.declared.grammar.Grammar.{Grammar}
use Rattle.ug_event_loop.specs.declared.tally.Tally.{Tally}
use Rattle.ug_event_loop.specs.declared.stop.Stop.TheVariants as stops
use Rattle.ug_event_loop.specs.declared.reading.End.{End}
use Rattle.ug_event_loop.specs.declared.reading.End.TheVariants as ends
use Rattle.ug_event_loop.specs.Standing.{said_by, AreLanes, IsTally, HasTaken, IsReportedUntil, StandsAt, StopsAt, Stands, Stops, BuilderView, BuilderStands, BuilderStops}
use Rattle.ug_event_loop.specs.Files.{lines_read, IsPastLimits}
use Rattle.ug_event_loop.specs.Turns.{IsEndedAt, IsClosedAt}
use Rattle.ug_event_loop.specs.Reading.{Outside, EndsAt}
use Rattle.ug_commands.specs.Files.{IsPartOf, AppendsThenStatus}
use Rattle.ug_report.specs.Statuses.{status_text}
use Rattle.ug_report.specs.declared.status.Status.{Status}
use Rattle.ug_report.specs.declared.status.Status.TheVariants as statuses
use Rattle.ug_commands.proofs.Ends.{rest_of, no_rest, not_missing, agrees_read, then_status}
use Rattle.ug_event_loop.specs.Contents.{WireTold, Content}
use Rattle.ug_event_loop.specs.Crew.{EachLaneFrom, IsCrewed, IsClosed, all_losses}
use Rattle.ug_event_loop.specs.Kept.{IsKept, IsWireOf, AreCounted}
use Rattle.ug_event_loop.proofs.Lists.{each-front, each-join}
use Rattle.ug_event_loop.proofs.Keeps.{closed-kept}
use Rattle.ug_run.specs.Ends.{last_text, IsConcluded, CompletesBy, IsFinished}
use Rattle.ug_run.specs.Told.{Before, After, RunTold}
use Rattle.ug_run.specs.Outcomes.{Course, Completes, IsCut, IsOutcome}
use Rattle.ug_run.specs.Promise.{IsRun}
use Rattle.ug_run.proofs.Stories.{not_true, lines-sound, others-lanes, IsBehind, ended-all, closed-all, story-all}

-- ---- lines

ended_empty : (left : Option (List ℕ)) → (ended : Bool) → (ended ≡ true → IsEnded left) → ended ≡ true → is_empty (rest_of left) ≡ true
ended_empty left ended then is = ap is_empty (no_rest left (then is))

-- ---- reports

module _ (names : List (List ℕ)) (w : World) (lines : List (Reads Saying)) (marks : List (List Mark)) (losses : List Loss) (tally : Tally) (tallied : IsTally w lines tally) (before mid held : Option (List ℕ)) (failed : Type 0)
    (reported : AppendsPiece before mid (concat (line_texts names 1 w lines marks))) where
  abbrev all_text : List ℕ
  all_text = concat (line_texts names 1 w lines marks) ++ end_text names w lines losses

  last_is : last_text names losses tally.accepted tally.refused ≡ end_text names w lines losses
  last_is =
      ap (λ n. flat_map (loss_text names) losses ++ counts_text n tally.refused) tallied.accepted
      ∙ ap (λ n. flat_map (loss_text names) losses ++ counts_text (accepted_count w lines) n) tallied.refused

  ends_whole : AppendsPiece mid held (last_text names losses tally.accepted tally.refused) → AppendsPiece before held all_text
  ends_whole piece = AppendsPiece-more before mid held (concat (line_texts names 1 w lines marks)) (end_text names w lines losses) reported (subst (λ (t : List ℕ). AppendsPiece mid held t) last_is piece)

  ends_front : AppendsFront mid held (last_text names losses tally.accepted tally.refused) → AppendsFront before held all_text
  ends_front front = AppendsFront-more before mid held (concat (line_texts names 1 w lines marks)) (end_text names w lines losses) reported (subst (λ (t : List ℕ). AppendsFront mid held t) last_is front)

  ends_lost : AppendsThenStatus mid held failed (last_text names losses tally.accepted tally.refused) (losses_status names losses)
      → AppendsThenStatus before held failed all_text (losses_status names losses)
  ends_lost h =
      let all = concat (line_texts names 1 w lines marks) in
      let piece : AppendsPiece mid held (end_text names w lines losses ++ h.0) = subst (λ (t : List ℕ). AppendsPiece mid held (t ++ h.0)) last_is h.3 in
      (h.0, h.1, h.2, subst (λ (t : List ℕ). AppendsPiece before held t) (sym (append_assoc all (end_text names w lines losses) h.0)) (AppendsPiece-more before mid held all (end_text names w lines losses ++ h.0) reported piece), h.4)

-- ---- what is kept where a run completed is kept where it didn't

wire_less : (ws : List World) (last : World) (p : ℕ) (wire : WireTold) (contents : List Content) (lost : List ℕ) → IsWireOf ws last true p wire contents lost → IsWireOf ws last false p wire contents lost
wire_less ws last p wire contents lost (s, there, right) = (
  s,
  there,
  record {
    counted = less wire.sessions right.counted;
    each = right.each;
    rise = right.rise;
    were = right.were;
    faults = right.faults;
    harmless = right.harmless;
    end = λ no. absurd cc;
  },
)
  where
    less : (sessions : Option (List (List ℕ))) → AreCounted true s.sessions sessions → AreCounted false s.sessions sessions
    less None counted = tt
    less (Some sessions) counted = omega arith

kept-less : (w : World) (lines : List (Reads Saying)) (marks : List (List Mark)) (wires : List WireTold) (contents : List (List Content)) (lost : List (List ℕ))
    → IsKept w lines marks true wires contents lost → IsKept w lines marks false wires contents lost
kept-less w lines marks wires contents lost kept = record {
  all = kept.all;
  each = record {
    all_contents = kept.each.all_contents;
    all_lost = kept.each.all_lost;
    at = λ p wire c numbers is holds loses. wire_less (worlds w lines) (last_world w lines) p wire c numbers (kept.each.at p wire c numbers is holds loses);
  };
  marked = kept.marked;
  sync = kept.sync;
  begun = kept.begun;
  rise = kept.rise;
  held = kept.held;
  again = kept.again;
}

-- ---- the run

module _ {Opening State Job Said : Type 0} (rules : Rules Opening State Job Said) (speech : Speech Opening State Job Said) (machine : IsMachine rules) (speaks : IsSpeaker rules speech)
    (w : World) (opens : IsOpening w) (grammar : Grammar) (first : List (Reads Saying)) (first_sound : Each IsSound first) (root : Opening) (root_is : speech.first root ≡ w)
    (wires : List WireTold) (all : length wires ≡ length w.peers) (history : List (Entry Job Said)) (legal : IsLegal rules root history) (owned : Each (λ (entry : Entry Job Said). entry.pass ≤ length wires) history)
    (unnoted : Bool) (crew : (complete : Bool) → (complete ≡ true → unnoted ≡ false) → EachLaneFrom (IsCrewed rules speech root history complete) 0 wires)
    (b : BuilderView Opening Job Said) (b_root : b.pass.root ≡ Some root) (b_names : b.names ≡ names_in w) (behind_b : IsBehind rules speech root history b.pass.seen)
    (name : List ℕ) (before : Before) (after : After) (left : Option (List ℕ)) (picked : HasPicked before.files name left) (stays_picked : after.picks.is_open ≡ true)
    (mid : Option (List ℕ)) (made_for : List WireName) (spent : Bool) (off : spent ≡ false → IsClosedAt rules speech false b.pass.root b.pass.seen)
    (still_open : spent ≡ true → speech.closed (replay rules root history) ≡ false) where
  abbrev seen : List (Entry Job Said)
  seen = b.pass.seen

  abbrev held : Option (List ℕ)
  held = after.held

  abbrev failed : Type 0
  failed = Rose before.faults after.faults

  abbrev rest : List ℕ
  rest = rest_of after.left

  abbrev IsOver : State → Type 0
  IsOver s = (speech.drained s ≡ true) × (speech.closed s ≡ true)

  -- the run, had it ended so
  abbrev told : Status → RunTold Job Said
  told status = record { before = before; after = after; status = status; wires = wires; made_for = made_for; history = history; spent = spent }

  abbrev IsRunAt : Status → Type 0
  IsRunAt status = IsRun rules speech w grammar first name (told status)

  abbrev said : List (List ℕ) → List (Reads Saying)
  said lines = map (said_by grammar) lines

  lanes : AreLanes history
  lanes = others-lanes rules speech root history false wires (crew false (λ no. absurd cc)) owned

  lanes_seen : AreLanes seen
  lanes_seen = each-front _ seen behind_b.later (subst (λ (h : List (Entry Job Said)). AreLanes h) behind_b.parts lanes)

  closed_at : spent ≡ false → speech.closed (replay rules root seen) ≡ true
  closed_at unspent = subst (λ (r : Option Opening). IsClosedAt rules speech false r seen) b_root (off unspent) refl

  -- no job may follow, unless the board was spent
  stopped_by : (s : Bool) → spent ≡ s → speech.closed (replay rules root history) ≡ not s
  stopped_by true is = still_open is
  stopped_by false is = closed-all rules speech root history speaks.steps legal lanes seen behind_b (closed_at is)

  closes : (ahead lines : List (Reads Saying)) (marks : List (List Mark)) (complete : Bool) (taken : HasTaken rules speech root ahead lines marks seen) → Each IsSound ahead → Each IsSound lines
      → (complete ≡ true → unnoted ≡ false) → (complete ≡ true → IsOver (replay rules root seen)) → IsClosed rules speech root (ahead ++ lines) (taken.first_marks ++ marks) complete wires history
  closes ahead lines marks complete taken ahead_sound sound noted over = record {
    opens = subst (λ (v : World). IsOpening v) (sym root_is) opens;
    sound = each-join IsSound ahead lines ahead_sound sound;
    legal = legal;
    story = story-all rules speech root history speaks.steps legal lanes seen behind_b (ahead ++ lines) (taken.first_marks ++ marks) taken.story;
    crew = crew complete noted;
    all = all ∙ ap (λ (v : World). length v.peers) (sym root_is);
    owned = owned;
    drained = λ done. (ended-all rules speech root history speaks.steps legal lanes seen behind_b (over done)).0;
  }

  -- ---- where a builder stands, or stopped

  stands_at : (ahead lines : List (Reads Saying)) → BuilderStands rules speech b ahead lines before.held mid → StandsAt rules speech root ahead lines (names_in w) seen before.held mid b.tally
  stands_at ahead lines stands =
      subst (λ (ns : List (List ℕ)). StandsAt rules speech root ahead lines ns seen before.held mid b.tally) b_names
      (subst (λ (r : Option Opening). Stands rules speech r ahead lines b.names seen before.held mid b.tally) b_root stands lanes_seen)

  stops_at : (stop : _) (ahead lines : List (Reads Saying)) → BuilderStops rules speech stop b ahead lines before.held mid → StopsAt rules speech stop root ahead lines (names_in w) seen before.held mid
  stops_at stop ahead lines stops =
      subst (λ (ns : List (List ℕ)). StopsAt rules speech stop root ahead lines ns seen before.held mid) b_names
      (subst (λ (r : Option Opening). Stops rules speech stop r ahead lines b.names seen before.held mid) b_root stops lanes_seen)

  over_at : IsEndedAt rules speech b.pass.root seen → IsOver (replay rules root seen)
  over_at ended = subst (λ (r : Option Opening). IsEndedAt rules speech r seen) b_root ended

  -- what the report says of lines that were taken in this world
  abbrev texts_of : World → List (Reads Saying) → List (Reads Saying) → List (List Mark) → List (List ℕ)
  texts_of v ahead lines marks = line_texts (names_in w) 1 (last_world v ahead) lines marks

  module _ (read : List ℕ) (is_part : IsPartOf (file_told before.files name) read rest) where
    abbrev course : (ahead lines : List (Reads Saying)) (ahead_marks marks : List (List Mark)) → List (List Content) → List (List ℕ) → Course
    course ahead lines ahead_marks marks contents lost = record {
      read = read;
      rest = rest;
      ahead = ahead;
      lines = lines;
      ahead_marks = ahead_marks;
      marks = marks;
      contents = contents;
      lost = lost;
    }

    run_as : (status : Status) (ahead lines : List (Reads Saying)) (ahead_marks marks : List (List Mark)) (contents : List (List Content)) (lost : List (List ℕ)) → length ahead_marks ≡ length ahead
        → IsOutcome rules speech w grammar first (told status) (course ahead lines ahead_marks marks contents lost) status → IsRunAt status
    run_as status ahead lines ahead_marks marks contents lost aligned outcome = record {
      course = course ahead lines ahead_marks marks contents lost;
      file = record {
        is_part = is_part;
        there = not_missing before.files name left picked;
        opened = stays_picked;
        agrees = agrees_read after.picks.is_open after.left read stays_picked;
      };
      aligned = aligned;
      outcome = outcome;
    }

    -- A run that did not complete. What it keeps may be what a run keeps that did.
    cut_with : (status : Status) (ahead lines : List (Reads Saying)) (marks : List (List Mark)) (taken : HasTaken rules speech root ahead lines marks seen) → Each IsSound ahead → Each IsSound lines
        → (contents : List (List Content)) (lost : List (List ℕ)) → IsKept (speech.first root) (ahead ++ lines) (taken.first_marks ++ marks) false wires contents lost
        → IsCut rules speech w grammar first (told status) (course ahead lines taken.first_marks marks contents lost)
    cut_with status ahead lines marks taken ahead_sound sound contents lost kept = record {
      kept = subst (λ (v : World). IsKept v (ahead ++ lines) (taken.first_marks ++ marks) false wires contents lost) root_is kept;
      done = record {
        root = root;
        begins = root_is;
        closed = closes ahead lines marks false taken ahead_sound sound (λ no. absurd cc) (λ no. absurd cc);
        stopped = stopped_by spent refl;
      };
    }

    cut_short : (status : Status) (ahead lines : List (Reads Saying)) (marks : List (List Mark)) (taken : HasTaken rules speech root ahead lines marks seen) → Each IsSound ahead → Each IsSound lines
        → ((contents : List (List Content)) (lost : List (List ℕ)) → IsCut rules speech w grammar first (told status) (course ahead lines taken.first_marks marks contents lost)
        → IsOutcome rules speech w grammar first (told status) (course ahead lines taken.first_marks marks contents lost) status)
        → IsRunAt status
    cut_short status ahead lines marks taken ahead_sound sound outcome =
        let closed = closes ahead lines marks false taken ahead_sound sound (λ no. absurd cc) (λ no. absurd cc) in
        let kept = closed-kept rules speech machine speaks root (ahead ++ lines) (taken.first_marks ++ marks) false wires history closed in
        run_as status ahead lines taken.first_marks marks kept.0 kept.1 taken.aligned (outcome kept.0 kept.1 (cut_with status ahead lines marks taken ahead_sound sound kept.0 kept.1 kept.2))

    -- what the report got, in the world in which the run began
    reported_at : (ahead lines : List (Reads Saying)) (stands : StandsAt rules speech root ahead lines (names_in w) seen before.held mid b.tally)
        → AppendsPiece before.held mid (concat (texts_of w ahead lines stands.marks))
    reported_at ahead lines stands = subst (λ (v : World). AppendsPiece before.held mid (concat (texts_of v ahead lines stands.marks))) root_is stands.reported

    tallied_at : (ahead lines : List (Reads Saying)) (stands : StandsAt rules speech root ahead lines (names_in w) seen before.held mid b.tally) → IsTally (last_world w ahead) lines b.tally
    tallied_at ahead lines stands = subst (λ (v : World). IsTally (last_world v ahead) lines b.tally) root_is stands.tallied

    -- Memory ran out when all this was told of the lines that were taken.
    starved : (ahead lines : List (Reads Saying)) (stands : StandsAt rules speech root ahead lines (names_in w) seen before.held mid b.tally) → Each IsSound ahead → Each IsSound lines
        → (later : List (Reads Saying)) → first ≡ ahead ++ later → (later ≡ []) ⊎ ((read ≡ []) × (lines ≡ []))
        → (untaken : List (Reads Saying)) → said (lines_read (is_empty rest) read) ≡ lines ++ untaken
        → AppendsThenStatus mid held failed [] (status_text statuses.NoMemory) → IsRunAt statuses.NoMemory
    starved ahead lines stands ahead_sound sound later parts begun untaken front line = cut_short statuses.NoMemory ahead lines stands.marks stands.taken ahead_sound sound (λ contents lost cut. record {
      cut = cut;
      later = later;
      front_ahead = parts;
      begun = begun;
      untaken = untaken;
      front = front;
      told = texts_of w ahead lines stands.marks;
      untold = [];
      parts = sym (append-nil (texts_of w ahead lines stands.marks));
      report = then_status before.held mid held failed (concat (texts_of w ahead lines stands.marks)) (status_text statuses.NoMemory) (reported_at ahead lines stands) line;
    })

    -- ---- by how reading ended

    module _ (ended : IsEnded after.left) (limited : IsPastLimits read → ⊥) (over : IsOver (replay rules root seen))
        (stands : StandsAt rules speech root first (said (lines_read true read)) (names_in w) seen before.held mid b.tally) where
      abbrev lines : List (Reads Saying)
      lines = said (lines_read true read)

      sound : Each IsSound lines
      sound = lines-sound grammar (lines_read true read)

      no_rest_here : rest ≡ []
      no_rest_here = no_rest after.left ended

      counted_all : said (lines_read (is_empty rest) read) ≡ lines ++ []
      counted_all = ap (λ (r : List ℕ). said (lines_read (is_empty r) read)) no_rest_here ∙ sym (append-nil lines)

      module _ (peers : ℕ) (peers_are : peers ≡ length wires) where
        -- the losses that were reported
        abbrev reported_losses : List Loss
        reported_losses = losses_from 0 (all_losses 0 peers history)

        abbrev ConcludesAs : Status → List Loss → Type 0
        ConcludesAs status losses = IsConcluded (names_in w) losses b.tally.accepted b.tally.refused mid held failed status

        -- they are those of the sessions that were lost
        same_losses : (lost : List (List ℕ)) → lost ≡ all_losses 0 (length wires) history → reported_losses ≡ losses_from 0 lost
        same_losses lost is = ap (λ n. losses_from 0 (all_losses 0 n history)) peers_are ∙ ap (losses_from 0) (sym is)

        concluded_at : (status : Status) (lost : List (List ℕ)) → lost ≡ all_losses 0 (length wires) history → ConcludesAs status reported_losses → ConcludesAs status (losses_from 0 lost)
        concluded_at status lost is concluded = subst (λ (ls : List Loss). ConcludesAs status ls) (same_losses lost is) concluded

        -- everything was told
        keeps : unnoted ≡ false → (contents : List (List Content)) × (lost : List (List ℕ)) × IsKept (speech.first root) (first ++ lines) (stands.taken.first_marks ++ stands.marks) true wires contents lost
            × (true ≡ true → lost ≡ all_losses 0 (length wires) history)
        keeps none =
            closed-kept rules speech machine speaks root (first ++ lines) (stands.taken.first_marks ++ stands.marks) true wires history (closes first lines stands.marks true stands.taken first_sound sound (λ _. none) (λ _. over))

        completed : unnoted ≡ false → (status : Status)
            → ((contents : List (List Content)) (lost : List (List ℕ)) → lost ≡ all_losses 0 (length wires) history
            → Completes rules speech w grammar first (told status) (course first lines stands.taken.first_marks stands.marks contents lost)
            → IsOutcome rules speech w grammar first (told status) (course first lines stands.taken.first_marks stands.marks contents lost) status)
            → IsRunAt status
        completed none status outcome =
            let kept = keeps none in
            let closed : speech.closed (replay rules root history) ≡ true = (ended-all rules speech root history speaks.steps legal lanes seen behind_b over).1 in
            run_as status first lines stands.taken.first_marks stands.marks kept.0 kept.1 stands.taken.aligned (outcome kept.0 kept.1 (kept.3 refl) (record {
              whole = no_rest_here;
              within = limited;
              all_ahead = refl;
              all = refl;
              counts = stands.counts;
              kept = subst (λ (v : World). IsKept v (first ++ lines) (stands.taken.first_marks ++ stands.marks) true wires kept.0 kept.1) root_is kept.2;
              done = record {
                root = root;
                begins = root_is;
                closed = closes first lines stands.marks true stands.taken first_sound sound (λ _. none) (λ _. over);
                stopped = stopped_by spent refl;
              };
              unspent = not_true spent (sym (stopped_by spent refl) ∙ closed);
              losses_told = kept.3 refl;
            }))

        ends_well : unnoted ≡ false → ConcludesAs statuses.Ok reported_losses → IsRunAt statuses.Ok
        ends_well none concluded = completed none statuses.Ok (λ contents lost is complete.
            let here = concluded_at statuses.Ok lost is concluded in
            record {
              complete = complete;
              none_lost = here.0;
              report = ends_whole (names_in w) (last_world w first) lines stands.marks (losses_from 0 lost) b.tally (tallied_at first lines stands) before.held mid held failed (reported_at first lines stands) here.1;
            })

        ends_with_loss : unnoted ≡ false → (peer session : ℕ) → ConcludesAs (statuses.Lost peer session) reported_losses → IsRunAt (statuses.Lost peer session)
        ends_with_loss none peer session concluded = completed none (statuses.Lost peer session) (λ contents lost is complete.
            let here = concluded_at (statuses.Lost peer session) lost is concluded in
            record {
              complete = complete;
              first_lost = here.0;
              report = ends_lost (names_in w) (last_world w first) lines stands.marks (losses_from 0 lost) b.tally (tallied_at first lines stands) before.held mid held failed (reported_at first lines stands) here.1;
            })

        -- Everything was told, and then the report failed: what is kept is what a run that completed keeps.
        unwritten : unnoted ≡ false → ConcludesAs statuses.ReportFault reported_losses → IsRunAt statuses.ReportFault
        unwritten none concluded =
            let kept = keeps none in
            let here = concluded_at statuses.ReportFault kept.1 (kept.3 refl) concluded in
            run_as statuses.ReportFault first lines stands.taken.first_marks stands.marks kept.0 kept.1 stands.taken.aligned (record {
              cut = cut_with statuses.ReportFault first lines stands.marks stands.taken first_sound sound kept.0 kept.1
                  (kept-less (speech.first root) (first ++ lines) (stands.taken.first_marks ++ stands.marks) wires kept.0 kept.1 kept.2);
              all_ahead = refl;
              untaken = [];
              front = counted_all;
              report = inr (record {
                all = refl;
                losses_told = ap (losses_from 0) (kept.3 refl);
                report =
                    ends_front (names_in w) (last_world w first) lines stands.marks (losses_from 0 kept.1) b.tally (tallied_at first lines stands) before.held mid held failed (reported_at first lines stands) here.1;
              });
            })

        starved_last : AppendsThenStatus mid held failed [] (status_text statuses.NoMemory) → IsRunAt statuses.NoMemory
        starved_last line = starved first lines stands first_sound sound [] (sym (append-nil first)) (inl refl) [] counted_all line

        concludes : unnoted ≡ false → (status : Status) → ConcludesAs status reported_losses → IsRunAt status
        concludes none statuses.Ok h = ends_well none h
        concludes none (statuses.Lost peer session) h = ends_with_loss none peer session h
        concludes none statuses.ReportFault h = unwritten none h
        concludes none statuses.NoMemory h = starved_last h
        concludes none statuses.Usage h = absurd h
        concludes none (statuses.Config number field) h = absurd h
        concludes none statuses.ReadFault h = absurd h
        concludes none statuses.SiteFault h = absurd h
        concludes none statuses.TooLong h = absurd h
        concludes none (statuses.Malformed cause offset) h = absurd h
        concludes none (statuses.Refuted peer session kind message key) h = absurd h
        concludes none (statuses.Unclear line) h = absurd h

        by_losses : (u : Bool) → unnoted ≡ u → (status : Status)
            → CompletesBy (names_in w) reported_losses b.tally.accepted b.tally.refused mid held failed u status → IsRunAt status
        by_losses false is status h = concludes is status h
        by_losses true is status h = subst (λ (s : Status). IsRunAt s) (sym h.0) (starved_last h.1)

    -- the file could not be read
    unread : (IsPastLimits read → ⊥) → StandsAt rules speech root first (said (lines_read false read)) (names_in w) seen before.held mid b.tally
        → AppendsThenStatus mid held failed [] (status_text statuses.ReadFault) → IsRunAt statuses.ReadFault
    unread limited stands line = cut_short statuses.ReadFault first (said (lines_read false read)) stands.marks stands.taken first_sound (lines-sound grammar (lines_read false read)) (λ contents lost cut. record {
      cut = cut;
      within = limited;
      all_ahead = refl;
      all = refl;
      report = then_status before.held mid held failed (concat (texts_of w first (said (lines_read false read)) stands.marks)) (status_text statuses.ReadFault) (reported_at first (said (lines_read false read)) stands) line;
    })

    -- it is too long
    too_long : IsPastLimits read → StandsAt rules speech root first (said (lines_read (is_empty rest) read)) (names_in w) seen before.held mid b.tally
        → AppendsThenStatus mid held failed [] (status_text statuses.TooLong) → IsRunAt statuses.TooLong
    too_long past stands line = cut_short statuses.TooLong first (said (lines_read (is_empty rest) read)) stands.marks stands.taken first_sound (lines-sound grammar (lines_read (is_empty rest) read)) (λ contents lost cut. record {
      cut = cut;
      past = past;
      all_ahead = refl;
      all = refl;
      report = then_status before.held mid held failed (concat (texts_of w first (said (lines_read (is_empty rest) read)) stands.marks)) (status_text statuses.TooLong) (reported_at first (said (lines_read (is_empty rest) read)) stands) line;
    })

    -- memory ran out, or the report could not be written, when some of the lines were taken
    some_sound : (some more : List (Reads Saying)) → said (lines_read (is_empty rest) read) ≡ some ++ more → Each IsSound some
    some_sound some more parts = each-front IsSound some more (subst (λ (ls : List (Reads Saying)). Each IsSound ls) parts (lines-sound grammar (lines_read (is_empty rest) read)))

    starved_within : StopsAt rules speech stops.NoMemory root first (said (lines_read (is_empty rest) read)) (names_in w) seen before.held mid
        → AppendsThenStatus mid held failed [] (status_text statuses.NoMemory) → IsRunAt statuses.NoMemory
    starved_within stop line = cut_short statuses.NoMemory first stop.some stop.marks stop.taken first_sound (some_sound stop.some stop.more stop.parts) (λ contents lost cut.
        let reported = subst (λ (v : World). IsReportedUntil stops.NoMemory before.held mid (texts_of v first stop.some stop.marks)) root_is stop.reported in
        record {
          cut = cut;
          later = [];
          front_ahead = sym (append-nil first);
          begun = inl refl;
          untaken = stop.more;
          front = stop.parts;
          told = reported.0;
          untold = reported.1;
          parts = reported.2;
          report = then_status before.held mid held failed (concat reported.0) (status_text statuses.NoMemory) reported.3 line;
        })

    unwritten_within : StopsAt rules speech stops.Report root first (said (lines_read (is_empty rest) read)) (names_in w) seen before.held mid → held ≡ mid → IsRunAt statuses.ReportFault
    unwritten_within stop same = cut_short statuses.ReportFault first stop.some stop.marks stop.taken first_sound (some_sound stop.some stop.more stop.parts) (λ contents lost cut. record {
      cut = cut;
      all_ahead = refl;
      untaken = stop.more;
      front = stop.parts;
      report = inl (subst (λ (h : Option (List ℕ)). AppendsFront before.held h (concat (texts_of w first stop.some stop.marks))) (sym same)
          (subst (λ (v : World). IsReportedUntil stops.Report before.held mid (texts_of v first stop.some stop.marks)) root_is stop.reported));
    })

    -- memory ran out for one of the first events, or before them
    not_begun : read ≡ [] → (ahead more : List (Reads Saying)) → first ≡ ahead ++ more → StandsAt rules speech root ahead [] (names_in w) seen before.held mid b.tally
        → AppendsThenStatus mid held failed [] (status_text statuses.NoMemory) → IsRunAt statuses.NoMemory
    not_begun none ahead more parts stands line =
        starved ahead [] stands (each-front IsSound ahead more (subst (λ (ls : List (Reads Saying)). Each IsSound ls) parts first_sound)) tt more parts (inr (none, refl)) (said (lines_read (is_empty rest) read)) refl line

    -- ---- all of them

    whole_when : (e : Bool) → (e ≡ true → IsEnded after.left) → e ≡ true → is_empty rest ≡ true
    whole_when e then is = ended_empty after.left e then is

    module _ (peers : ℕ) (peers_are : peers ≡ length wires) (old : BuilderView Opening Job Said) (old_grammar : old.grammar ≡ grammar) (reads reads' writes writes' counted counted' : ℕ) where
      abbrev outside : Outside
      outside = record { left = left; reads_failed = reads; held = before.held; writes_failed = writes; steps = counted }

      abbrev outside' : Outside
      outside' = record { left = after.left; reads_failed = reads'; held = mid; writes_failed = writes'; steps = counted' }

      -- the verbs are those of the run
      ends_here : (end : End) → EndsAt rules speech first old b outside outside' end read → EndsAt rules speech first (record old { grammar = grammar }) b outside outside' end read
      ends_here end h = subst (λ (g : Grammar). EndsAt rules speech first (record old { grammar = g }) b outside outside' end read) old_grammar h

      comes_at : (end : End) (status : Status) → EndsAt rules speech first (record old { grammar = grammar }) b outside outside' end read
          → IsFinished (names_in w) (losses_from 0 (all_losses 0 peers history)) b.tally.accepted b.tally.refused mid held failed end unnoted status → IsRunAt status
      comes_at ends.Complete status h finished =
          by_losses h.0 h.1 (over_at h.3) (stands_at first (said (lines_read true read)) h.2) peers peers_are unnoted refl status finished
      comes_at ends.Read status h finished =
          subst (λ (s : Status). IsRunAt s) (sym finished.0) (unread h.0 (stands_at first (said (lines_read false read)) h.1) finished.1)
      comes_at ends.TooLong status h finished =
          subst (λ (s : Status). IsRunAt s) (sym finished.0) (too_long h.0 (stands_at first (said (lines_read (is_empty rest) read)) (h.1 (is_empty rest))) finished.1)
      comes_at ends.NoMemory status (inl h) finished =
          subst (λ (s : Status). IsRunAt s) (sym finished.0)
          (starved_within (stops_at stops.NoMemory first (said (lines_read (is_empty rest) read)) (h.2 (is_empty rest) (whole_when h.0 h.1))) finished.1)
      comes_at ends.NoMemory status (inr h) finished =
          subst (λ (s : Status). IsRunAt s) (sym finished.0) (not_begun h.none h.within.some h.within.more h.within.parts (stands_at h.within.some [] h.within.stands) finished.1)
      comes_at ends.Report status h finished =
          subst (λ (s : Status). IsRunAt s) (sym finished.0)
          (unwritten_within (stops_at stops.Report first (said (lines_read (is_empty rest) read)) (h.0.2 (is_empty rest) (whole_when h.0.0 h.0.1))) finished.1)

      pub comes : (end : End) (status : Status) → EndsAt rules speech first old b outside outside' end read
          → IsFinished b.names (losses_from 0 (all_losses 0 peers history)) b.tally.accepted b.tally.refused mid held failed end unnoted status → IsRunAt status
      comes end status h finished =
          comes_at end status (ends_here end h)
          (subst (λ (ns : List (List ℕ)). IsFinished ns (losses_from 0 (all_losses 0 peers history)) b.tally.accepted b.tally.refused mid held failed end unnoted status) b_names finished)
