-- What the lines of a story did: the events of its history are those that were accepted, and each line was done in the
-- world that the lines before it lead to.
use Rattle.std.proofs.Common.{◌≡◌, ℕ, zero, suc, true, List, [], ◌∷◌, ◌++◌, ◌<◌, take, slice_get, Option, Some, None, Ok, Err, refl, sym, ◌∙◌, ap, subst, arith, append_assoc}
use Rattle.std.specs.Prelude.{◌==◌}
use Rattle.std.proofs.lemmas.List.{append-nil}
use Rattle.ug_types.specs.declared.mark.Mark.{Mark}
use Rattle.ug_board.specs.declared.steps.BoardStep.{BoardStep}
use Rattle.ug_board.specs.declared.steps.BoardStep.TheVariants.{Job as DoJob, Lane as LaneTakes}
use Rattle.ug_board.specs.Entry.{Entry}
use Rattle.ug_board.specs.Rules.{Rules}
use Rattle.ug_board.specs.History.{IsLegal}
use Rattle.ug_board.specs.Deeds.{Each}
use Rattle.ug_events.specs.Events.{Happening, Saying, SaysNothing, SaysSync, Says}
use Rattle.ug_events.specs.Reads.{Reads}
use Rattle.ug_world.specs.World.{World}
use Rattle.ug_world.specs.After.{after}
use Rattle.ug_world.specs.Verdicts.{verdict}
use Rattle.ug_world.specs.Worlds.{judged, outcome, world_after as next_world, where_accepted, accepted_worlds, worlds, last_world}
use Rattle.ug_speaker.specs.Speech.{Purpose, TakesEvent, MarksTold, Ends, Prepares, Speech, events_for}
use Rattle.ug_speaker.specs.Told.{worlds_through, world_after, step_events, events_in, world_at}
use Rattle.ug_speaker.specs.Owes.{AreEvents, StepsRight}
use Rattle.ug_speaker.specs.Story.{IsSound, IsUnasked, IsUnaskedStep, IsBetween, IsDone, IsNothing, DoesEvent, Does, IsStory}
use Rattle.ug_event_loop.proofs.Lists.{each-front, each-back, each-join, each-so}
use Rattle.ug_event_loop.proofs.Growing.{events-join, after-append, legal-front, events-append, world-further, world-still}
use Rattle.ug_event_loop.proofs.Owned.{IsJob, IsBuilders, IsBuildersEntry}

-- ---- the events of lines

abbrev pub accepted_event : Option ℕ → Happening → List Happening
accepted_event None e = e ∷ []
accepted_event (Some number) e = []

abbrev pub line_events : World → Reads Saying → List Happening
line_events w (Ok SaysNothing) = []
line_events w (Ok SaysSync) = []
line_events w (Ok (Says e)) = accepted_event (verdict w e) e
line_events w (Err refusal) = []

-- the events that are accepted
abbrev pub accepted : World → List (Reads Saying) → List Happening
accepted w [] = []
accepted w (line ∷ lines) = line_events w line ++ accepted (next_world w (outcome w line)) lines

by_verdict : (w : World) (e : Happening) (v : Option ℕ) → next_world w (judged w e v) ≡ world_after w (accepted_event v e)
by_verdict w e None = refl
by_verdict w e (Some number) = refl

pub line-next : (w : World) (line : Reads Saying) → next_world w (outcome w line) ≡ world_after w (line_events w line)
line-next w (Ok SaysNothing) = refl
line-next w (Ok SaysSync) = refl
line-next w (Ok (Says e)) = by_verdict w e (verdict w e)
line-next w (Err refusal) = refl

pub last-accepted : (w : World) (lines : List (Reads Saying)) → last_world w lines ≡ world_after w (accepted w lines)
last-accepted w [] = refl
last-accepted w (line ∷ lines) =
    last-accepted (next_world w (outcome w line)) lines
    ∙ (ap (λ (v : World). world_after v (accepted (next_world w (outcome w line)) lines)) (line-next w line)
    ∙ sym (after-append w (line_events w line) (accepted (next_world w (outcome w line)) lines)))

through_verdict :
    (w : World) (e : Happening) (lines : List (Reads Saying)) (v : Option ℕ) → ((u : World) → worlds u lines ≡ worlds_through u (accepted u lines))
    → w ∷ where_accepted (judged w e v) (accepted_worlds (next_world w (judged w e v)) lines) ≡ worlds_through w (accepted_event v e ++ accepted (next_world w (judged w e v)) lines)
through_verdict w e lines None rest = ap (λ (ws : List World). w ∷ ws) (rest (after w e))
through_verdict w e lines (Some number) rest = rest w

pub worlds-accepted : (w : World) (lines : List (Reads Saying)) → worlds w lines ≡ worlds_through w (accepted w lines)
worlds-accepted w [] = refl
worlds-accepted w (Ok SaysNothing ∷ lines) = worlds-accepted w lines
worlds-accepted w (Ok SaysSync ∷ lines) = worlds-accepted w lines
worlds-accepted w (Ok (Says e) ∷ lines) = through_verdict w e lines (verdict w e) (λ u. worlds-accepted u lines)
worlds-accepted w (Err refusal ∷ lines) = worlds-accepted w lines

-- the events are of their form
sound_event : (e : Happening) (v : Option ℕ) → IsSound (Ok (Says e)) → AreEvents (accepted_event v e)
sound_event e None sound = (sound, tt)
sound_event e (Some number) sound = tt

sound_line : (w : World) (line : Reads Saying) → IsSound line → AreEvents (line_events w line)
sound_line w (Ok SaysNothing) sound = tt
sound_line w (Ok SaysSync) sound = tt
sound_line w (Ok (Says e)) sound = sound_event e (verdict w e) sound
sound_line w (Err refusal) sound = tt

pub accepted-sound : (w : World) (lines : List (Reads Saying)) → Each IsSound lines → AreEvents (accepted w lines)
accepted-sound w [] sound = tt
accepted-sound w (line ∷ lines) (first, more) =
    events-join (line_events w line) (accepted (next_world w (outcome w line)) lines) (sound_line w line first) (accepted-sound (next_world w (outcome w line)) lines more)

module _ {Opening State Job Said : Type 0} (rules : Rules Opening State Job Said) (speech : Speech Opening State Job Said) where
  -- ---- the builder's entries are jobs

  abbrev pub IsJobEntry : Entry Job Said → Type 0
  IsJobEntry entry = (entry.pass == 0) ≡ true → IsJob entry.step

  job_between : (step : BoardStep Job) → IsUnaskedStep rules speech step → IsJob step
  job_between (DoJob job) is = tt
  job_between (LaneTakes step) is = absurd is

  jobs_quiet : (quiet : List (Entry Job Said)) → Each (IsBetween rules speech) quiet → Each IsJobEntry quiet
  jobs_quiet quiet is = each-so (IsBetween rules speech) IsJobEntry (λ entry between zero. job_between entry.step (between zero)) quiet is

  jobs_one : (opening : Opening) (before : List (Entry Job Said)) (purpose : Purpose) (ms : List Mark) (did : List (Entry Job Said)) → IsDone rules speech purpose opening before ms did → Each IsJobEntry did
  jobs_one opening before purpose ms did done = subst (λ (es : List (Entry Job Said)). Each IsJobEntry es) (sym done.entry) (λ zero. tt, tt)

  jobs_none : (ms : List Mark) (did : List (Entry Job Said)) → IsNothing rules speech ms did → Each IsJobEntry did
  jobs_none ms did nothing = subst (λ (es : List (Entry Job Said)). Each IsJobEntry es) (sym nothing.1) tt

  jobs_event : (v : Option ℕ) (e : Happening) (opening : Opening) (before : List (Entry Job Said)) (ms : List Mark) (did : List (Entry Job Said)) → DoesEvent rules speech v e opening before ms did → Each IsJobEntry did
  jobs_event None e opening before ms did does = jobs_one opening before (TakesEvent e) ms did does
  jobs_event (Some number) e opening before ms did does = jobs_none ms did does

  jobs_did : (line : Reads Saying) (opening : Opening) (before : List (Entry Job Said)) (ms : List Mark) (did : List (Entry Job Said)) → Does rules speech line opening before ms did → Each IsJobEntry did
  jobs_did (Ok SaysNothing) opening before ms did does = jobs_none ms did does
  jobs_did (Ok SaysSync) opening before ms did does = jobs_one opening before MarksTold ms did does
  jobs_did (Ok (Says e)) opening before ms did does = jobs_event (verdict (world_at rules speech opening before) e) e opening before ms did does
  jobs_did (Err refusal) opening before ms did does = jobs_none ms did does

  pub story-jobs : (opening : Opening) (before : List (Entry Job Said)) (lines : List (Reads Saying)) (marks : List (List Mark)) (entries : List (Entry Job Said))
      → IsStory rules speech opening before lines marks entries → Each IsJobEntry entries
  story-jobs opening before [] [] entries story = jobs_quiet entries story
  story-jobs opening before [] (ms ∷ marks) entries story = absurd story
  story-jobs opening before (line ∷ lines) [] entries story = absurd story
  story-jobs opening before (line ∷ lines) (ms ∷ marks) entries (quiet, did, later, parts, between, does, rest) =
      subst (λ (es : List (Entry Job Said)). Each IsJobEntry es) (sym parts)
      (each-join IsJobEntry quiet (did ++ later) (jobs_quiet quiet between)
      (each-join IsJobEntry did later (jobs_did line opening (before ++ quiet) ms did does) (story-jobs opening (before ++ (quiet ++ did)) lines marks later rest)))

  -- ---- their events

  none_unasked : (purpose : Purpose) → IsUnasked purpose → events_for purpose ≡ []
  none_unasked (TakesEvent e) is = absurd is
  none_unasked MarksTold is = absurd is
  none_unasked Ends is = refl
  none_unasked Prepares is = refl

  none_step : (pass : ℕ) (step : BoardStep Job) → IsBuilders pass step → ((pass == 0) ≡ true → IsUnaskedStep rules speech step) → step_events rules speech step ≡ []
  none_step pass (DoJob job) builders between = none_unasked (speech.purpose job) (between builders)
  none_step pass (LaneTakes step) builders between = refl

  quiet_events : (quiet : List (Entry Job Said)) → Each (λ (entry : Entry Job Said). IsBuildersEntry entry) quiet → Each (IsBetween rules speech) quiet → events_in rules speech quiet ≡ []
  quiet_events [] builders between = refl
  quiet_events (entry ∷ quiet) (builder, builders) (first, between) =
      ap (λ (es : List Happening). es ++ events_in rules speech quiet) (none_step entry.pass entry.step builder first) ∙ quiet_events quiet builders between

  pub did-one : (opening : Opening) (before : List (Entry Job Said)) (purpose : Purpose) (ms : List Mark) (did : List (Entry Job Said)) → IsDone rules speech purpose opening before ms did
      → events_in rules speech did ≡ events_for purpose
  did-one opening before purpose ms did done =
      ap (events_in rules speech) done.entry ∙ (append-nil (events_for (speech.purpose done.job)) ∙ ap events_for done.is)

  did_none : (ms : List Mark) (did : List (Entry Job Said)) → IsNothing rules speech ms did → events_in rules speech did ≡ []
  did_none ms did nothing = ap (events_in rules speech) nothing.1

  did_event : (v : Option ℕ) (e : Happening) (opening : Opening) (before : List (Entry Job Said)) (ms : List Mark) (did : List (Entry Job Said)) → DoesEvent rules speech v e opening before ms did
      → events_in rules speech did ≡ accepted_event v e
  did_event None e opening before ms did does = did-one opening before (TakesEvent e) ms did does
  did_event (Some number) e opening before ms did does = did_none ms did does

  pub did-events : (line : Reads Saying) (opening : Opening) (before : List (Entry Job Said)) (ms : List Mark) (did : List (Entry Job Said)) → Does rules speech line opening before ms did
      → events_in rules speech did ≡ line_events (world_at rules speech opening before) line
  did-events (Ok SaysNothing) opening before ms did does = did_none ms did does
  did-events (Ok SaysSync) opening before ms did does = did-one opening before MarksTold ms did does
  did-events (Ok (Says e)) opening before ms did does = did_event (verdict (world_at rules speech opening before) e) e opening before ms did does
  did-events (Err refusal) opening before ms did does = did_none ms did does

  -- ---- a line, and what comes behind it

  module _ (steps : StepsRight rules speech) (opening : Opening) (history : List (Entry Job Said)) (legal : IsLegal rules opening history) (builders : Each (λ (entry : Entry Job Said). IsBuildersEntry entry) history) where
    abbrev World_at : List (Entry Job Said) → World
    World_at h = world_at rules speech opening h

    -- the first line of a story from here on
    pub record IsFirst (before : List (Entry Job Said)) (line : Reads Saying) (lines : List (Reads Saying)) (ms : List Mark) (marks : List (List Mark)) : Type 0 where
      pub quiet : List (Entry Job Said)
      pub did : List (Entry Job Said)
      pub later : List (Entry Job Said)
      pub parts : history ≡ (before ++ quiet) ++ (did ++ later)
      pub further : history ≡ (before ++ (quiet ++ did)) ++ later
      pub does : Does rules speech line opening (before ++ quiet) ms did
      pub same : World_at (before ++ quiet) ≡ World_at before
      pub next : World_at (before ++ (quiet ++ did)) ≡ next_world (World_at before) (outcome (World_at before) line)
      pub events : events_in rules speech (quiet ++ did) ≡ line_events (World_at before) line
      pub rest : IsStory rules speech opening (before ++ (quiet ++ did)) lines marks later

    legal_front : (front more : List (Entry Job Said)) → history ≡ front ++ more → IsLegal rules opening front
    legal_front front more parts = legal-front rules (rules.start opening) front more (subst (λ (h : List (Entry Job Said)). IsLegal rules opening h) parts legal)

    module _ (before : List (Entry Job Said)) (line : Reads Saying) (lines : List (Reads Saying)) (ms : List Mark) (marks : List (List Mark)) (entries quiet did later : List (Entry Job Said))
        (whole : history ≡ before ++ entries) (parts : entries ≡ quiet ++ (did ++ later)) (between : Each (IsBetween rules speech) quiet) (does : Does rules speech line opening (before ++ quiet) ms did)
        (rest : IsStory rules speech opening (before ++ (quiet ++ did)) lines marks later) where
      parts_here : history ≡ (before ++ quiet) ++ (did ++ later)
      parts_here = whole ∙ (ap (λ (es : List (Entry Job Said)). before ++ es) parts ∙ sym (append_assoc before quiet (did ++ later)))

      parts_further : history ≡ (before ++ (quiet ++ did)) ++ later
      parts_further = whole ∙ (ap (λ (es : List (Entry Job Said)). before ++ es) (parts ∙ sym (append_assoc quiet did later)) ∙ sym (append_assoc before (quiet ++ did) later))

      builders_quiet : Each (λ (entry : Entry Job Said). IsBuildersEntry entry) quiet
      builders_quiet =
          each-back (λ (entry : Entry Job Said). IsBuildersEntry entry) before quiet
          (each-front (λ (entry : Entry Job Said). IsBuildersEntry entry) (before ++ quiet) (did ++ later) (subst (λ (h : List (Entry Job Said)). Each (λ (entry : Entry Job Said). IsBuildersEntry entry) h) parts_here builders))

      no_events : events_in rules speech quiet ≡ []
      no_events = quiet_events quiet builders_quiet between

      same_world : World_at (before ++ quiet) ≡ World_at before
      same_world = world-still rules speech steps opening before quiet (legal_front (before ++ quiet) (did ++ later) parts_here) no_events

      events_here : events_in rules speech (quiet ++ did) ≡ line_events (World_at before) line
      events_here =
          events-append rules speech quiet did
          ∙ (ap (λ (es : List Happening). es ++ events_in rules speech did) no_events
          ∙ (did-events line opening (before ++ quiet) ms did does ∙ ap (λ (w : World). line_events w line) same_world))

      next_here : World_at (before ++ (quiet ++ did)) ≡ next_world (World_at before) (outcome (World_at before) line)
      next_here =
          world-further rules speech steps opening before (quiet ++ did) (legal_front (before ++ (quiet ++ did)) later parts_further)
          ∙ (ap (λ (es : List Happening). world_after (World_at before) es) events_here ∙ sym (line-next (World_at before) line))

      abbrev first_here : IsFirst before line lines ms marks
      first_here = record {
        quiet = quiet;
        did = did;
        later = later;
        parts = parts_here;
        further = parts_further;
        does = does;
        same = same_world;
        next = next_here;
        events = events_here;
        rest = rest;
      }

    pub first-of-story : (before : List (Entry Job Said)) (line : Reads Saying) (lines : List (Reads Saying)) (ms : List Mark) (marks : List (List Mark)) (entries : List (Entry Job Said)) → history ≡ before ++ entries
        → IsStory rules speech opening before (line ∷ lines) (ms ∷ marks) entries → IsFirst before line lines ms marks
    first-of-story before line lines ms marks entries whole (quiet, did, later, parts, between, does, rest) =
        first_here before line lines ms marks entries quiet did later whole parts between does rest

    -- the events of the history are those that were accepted
    pub story-events : (before : List (Entry Job Said)) (lines : List (Reads Saying)) (marks : List (List Mark)) (entries : List (Entry Job Said)) → history ≡ before ++ entries
        → IsStory rules speech opening before lines marks entries → events_in rules speech entries ≡ accepted (World_at before) lines
    story-events before [] [] entries whole story =
        quiet_events entries (each-back (λ (entry : Entry Job Said). IsBuildersEntry entry) before entries (subst (λ (h : List (Entry Job Said)). Each (λ (entry : Entry Job Said). IsBuildersEntry entry) h) whole builders)) story
    story-events before [] (ms ∷ marks) entries whole story = absurd story
    story-events before (line ∷ lines) [] entries whole story = absurd story
    story-events before (line ∷ lines) (ms ∷ marks) entries whole (quiet, did, later, parts, between, does, rest) =
        let first = first_here before line lines ms marks entries quiet did later whole parts between does rest in
        ap (events_in rules speech) (parts ∙ sym (append_assoc quiet did later))
        ∙ (events-append rules speech (quiet ++ did) later
        ∙ (ap (λ (es : List Happening). es ++ events_in rules speech later) first.events
        ∙ ap (λ (es : List Happening). line_events (World_at before) line ++ es)
        (story-events (before ++ (quiet ++ did)) lines marks later first.further rest ∙ ap (λ (w : World). accepted w lines) first.next)))

    -- ---- a line by its place

    -- A line was done behind a front of the history, in this world.
    pub record IsLineAt (start : List (Entry Job Said)) (line : Reads Saying) (ms : List Mark) (w : World) : Type 0 where
      pub more : List (Entry Job Said)
      pub did : List (Entry Job Said)
      pub later : List (Entry Job Said)
      pub parts : history ≡ (start ++ more) ++ (did ++ later)
      pub world : World_at (start ++ more) ≡ w
      pub does : Does rules speech line opening (start ++ more) ms did

    abbrev line_further : (before between : List (Entry Job Said)) (line : Reads Saying) (ms : List Mark) (w : World) → IsLineAt (before ++ between) line ms w → IsLineAt before line ms w
    line_further before between line ms w at =
        let same : (before ++ between) ++ at.more ≡ before ++ (between ++ at.more) = append_assoc before between at.more in
        record {
          more = between ++ at.more;
          did = at.did;
          later = at.later;
          parts = at.parts ∙ ap (λ (h : List (Entry Job Said)). h ++ (at.did ++ at.later)) same;
          world = ap World_at (sym same) ∙ at.world;
          does = subst (λ (h : List (Entry Job Said)). Does rules speech line opening h ms at.did) same at.does;
        }

    abbrev line_first : (before : List (Entry Job Said)) (line' : Reads Saying) (lines : List (Reads Saying)) (ms' : List Mark) (marks : List (List Mark)) (line : Reads Saying) (ms : List Mark)
        → IsFirst before line' lines ms' marks → line' ≡ line → ms' ≡ ms → IsLineAt before line ms (World_at before)
    line_first before line' lines ms' marks line ms first same_line same_marks = record {
      more = first.quiet;
      did = first.did;
      later = first.later;
      parts = first.parts;
      world = first.same;
      does =
          subst (λ (l : Reads Saying). Does rules speech l opening (before ++ first.quiet) ms first.did) same_line
          (subst (λ (l : List Mark). Does rules speech line' opening (before ++ first.quiet) l first.did) same_marks first.does);
    }

    pub line-at : (before : List (Entry Job Said)) (lines : List (Reads Saying)) (marks : List (List Mark)) (entries : List (Entry Job Said)) (i : ℕ) (line : Reads Saying) (ms : List Mark)
        → history ≡ before ++ entries → IsStory rules speech opening before lines marks entries → slice_get lines i ≡ Some line → slice_get marks i ≡ Some ms
        → IsLineAt before line ms (last_world (World_at before) (take i lines))
    line-at before [] marks entries i line ms whole story is has = absurd cc
    line-at before (line' ∷ lines) [] entries i line ms whole story is has = absurd story
    line-at before (line' ∷ lines) (ms' ∷ marks) entries zero line ms whole story is has =
        let first = first-of-story before line' lines ms' marks entries whole story in
        let same_line : line' ≡ line = cc in
        let same_marks : ms' ≡ ms = cc in
        line_first before line' lines ms' marks line ms first same_line same_marks
    line-at before (line' ∷ lines) (ms' ∷ marks) entries (suc i) line ms whole story is has =
        let first = first-of-story before line' lines ms' marks entries whole story in
        let there = line-at (before ++ (first.quiet ++ first.did)) lines marks first.later i line ms first.further first.rest is has in
        subst (λ (w : World). IsLineAt before line ms (last_world w (take i lines))) first.next
        (line_further before (first.quiet ++ first.did) line ms (last_world (World_at (before ++ (first.quiet ++ first.did))) (take i lines)) there)

    -- Two lines: the later was done behind what the earlier did.
    pub record AreLinesAt (start : List (Entry Job Said)) (line : Reads Saying) (ms : List Mark) (w : World) (line' : Reads Saying) (ms' : List Mark) (w' : World) : Type 0 where
      pub first : IsLineAt start line ms w
      pub second : IsLineAt ((start ++ first.more) ++ first.did) line' ms' w'

    lines_further : (before between : List (Entry Job Said)) (line : Reads Saying) (ms : List Mark) (w : World) (line' : Reads Saying) (ms' : List Mark) (w' : World)
        → AreLinesAt (before ++ between) line ms w line' ms' w' → AreLinesAt before line ms w line' ms' w'
    lines_further before between line ms w line' ms' w' at =
        let same : (before ++ between) ++ at.first.more ≡ before ++ (between ++ at.first.more) = append_assoc before between at.first.more in
        record {
          first = line_further before between line ms w at.first;
          second = subst (λ (h : List (Entry Job Said)). IsLineAt (h ++ at.first.did) line' ms' w') same at.second;
        }

    pub lines-at : (before : List (Entry Job Said)) (lines : List (Reads Saying)) (marks : List (List Mark)) (entries : List (Entry Job Said)) (i j : ℕ) (line line' : Reads Saying) (ms ms' : List Mark)
        → i < j → history ≡ before ++ entries → IsStory rules speech opening before lines marks entries → slice_get lines i ≡ Some line → slice_get marks i ≡ Some ms → slice_get lines j ≡ Some line' → slice_get marks j ≡ Some ms'
        → AreLinesAt before line ms (last_world (World_at before) (take i lines)) line' ms' (last_world (World_at before) (take j lines))
    lines-at before [] marks entries i j line line' ms ms' less whole story is has is' has' = absurd cc
    lines-at before (l ∷ lines) [] entries i j line line' ms ms' less whole story is has is' has' = absurd story
    lines-at before (l ∷ lines) (m ∷ marks) entries i zero line line' ms ms' less whole story is has is' has' = absurd (omega arith)
    lines-at before (l ∷ lines) (m ∷ marks) entries zero (suc j) line line' ms ms' less whole story is has is' has' =
        let first = first-of-story before l lines m marks entries whole story in
        let same_line : l ≡ line = cc in
        let same_marks : m ≡ ms = cc in
        let there = line-at (before ++ (first.quiet ++ first.did)) lines marks first.later j line' ms' first.further first.rest is' has' in
        record {
          first = line_first before l lines m marks line ms first same_line same_marks;
          second =
              subst (λ (h : List (Entry Job Said)). IsLineAt h line' ms' (last_world (World_at before) (take (suc j) (l ∷ lines)))) (sym (append_assoc before first.quiet first.did))
              (subst (λ (w : World). IsLineAt (before ++ (first.quiet ++ first.did)) line' ms' (last_world w (take j lines))) first.next there);
        }
    lines-at before (l ∷ lines) (m ∷ marks) entries (suc i) (suc j) line line' ms ms' less whole story is has is' has' =
        let first = first-of-story before l lines m marks entries whole story in
        let both = lines-at (before ++ (first.quiet ++ first.did)) lines marks first.later i j line line' ms ms' (omega arith) first.further first.rest is has is' has' in
        subst (λ (w : World). AreLinesAt before line ms (last_world w (take i lines)) line' ms' (last_world w (take j lines))) first.next
        (lines_further before (first.quiet ++ first.did) line ms (last_world (World_at (before ++ (first.quiet ++ first.did))) (take i lines)) line' ms' (last_world (World_at (before ++ (first.quiet ++ first.did))) (take j lines)) both)
