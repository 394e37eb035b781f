-- What comes back at the end of a run, and what the run comes to.
use Rattle.std.proofs.Common.{◌≡◌, ℕ, ◌≤◌, Bool, true, false, List, [], ◌∷◌, length, map, Option, Some, inl, inr, refl, sym, ◌∙◌, ap, subst, arith}
use Rattle.std.specs.List.{list_any}
use Rattle.std.proofs.lemmas.List.{length-map}
use Rattle.ug_edge.specs.Told.{Rose, IsEnded, TakesFront, WireName, HasPicked}
use Rattle.ug_pieces.specs.Pieces.{HasRead}
use Rattle.ug_pieces.specs.ReadingLaws.{Rose-later}
use Rattle.ug_board.specs.Entry.{Entry}
use Rattle.ug_board.specs.Rules.{Rules, IsMachine}
use Rattle.ug_board.specs.Deeds.{Each}
use Rattle.ug_turnstile.specs.Passes.{Held, Agrees}
use Rattle.ug_board.specs.History.{IsLegal, MayGoOn, replay}
use Rattle.ug_sender.specs.Lanes.{LaneView}
use Rattle.ug_events.specs.Events.{Saying}
use Rattle.ug_events.specs.Reads.{Reads}
use Rattle.ug_events.specs.Views.{event_of}
use Rattle.ug_events.specs.declared.event.Event.{Event}
use Rattle.ug_world.specs.World.{World}
use Rattle.ug_speaker.specs.Speech.{Speech}
use Rattle.ug_speaker.specs.Owes.{AreEvents, IsOpening, IsSpeaker}
use Rattle.ug_speaker.specs.Story.{IsSound}
use Rattle.ug_report.specs.declared.endings.Loss.{Loss}
use Rattle.ug_report.specs.Report.{losses_from, losses_status}
use Rattle.ug_sender.specs.Posts.{posts}
use Rattle.ug_event_loop.specs.declared.grammar.Grammar.{Grammar}
use Rattle.ug_event_loop.specs.declared.reading.End.{End}
use Rattle.ug_event_loop.specs.declared.reading.End.TheVariants as ends
use Rattle.ug_event_loop.specs.Standing.{BuilderView}
use Rattle.ug_event_loop.specs.Turns.{IsClosedAt}
use Rattle.ug_event_loop.specs.FreshLaws.{fresh-stands}
use Rattle.ug_event_loop.specs.Reading.{Outside, first_of, EndsAt, HasEnded}
use Rattle.ug_run.specs.Lanes.{AreAtPosts, AreKept}
use Rattle.ug_run.specs.Boards.{IsHistoryOf}
use Rattle.ug_run.specs.Runs.{RunView, IsBegun}
use Rattle.ug_run.proofs.LaneLaws.{posts_fresh, lanes_many, lanes_for}
use Rattle.ug_run.proofs.Running.{same-many, same-for, same-at, root-is}
use Rattle.ug_report.specs.Statuses.{row_of, status_text}
use Rattle.ug_report.specs.declared.status.Status.{Status}
use Rattle.ug_report.specs.declared.status.Status.TheVariants as statuses
use Rattle.ug_commands.proofs.Ends.{part_read, later_status}
use Rattle.ug_event_loop.specs.Contents.{WireTold}
use Rattle.ug_event_loop.specs.Crew.{all_losses}
use Rattle.ug_run.specs.Ends.{last_text, IsConcluded, CompletesBy, IsFinished}
use Rattle.ug_run.specs.Told.{Before, After}
use Rattle.ug_run.specs.Promise.{IsRun, IsCounted}
use Rattle.ug_event_loop.proofs.Counting.{least-whole, most-whole}
use Rattle.ug_run.proofs.Stories.{crew-from, IsBehind, behind, legal-open}
use Rattle.ug_run.proofs.Histories.{some_is}
use Rattle.ug_run.proofs.Coming.{comes}

-- ---- the first events

pub first-sound : (first : List Event) → AreEvents (map event_of first) → Each IsSound (first_of first)
first-sound [] form = tt
first-sound (event ∷ first) form = (form.0, first-sound first form.1)

-- ---- a fault within a part of a run is one of the run

module _ (names : List (List ℕ)) (losses : List Loss) (accepted refused : ℕ) (before held : Option (List ℕ)) (F G : Type 0) (f : F → G) where
  concluded_later : (status : Status) → IsConcluded names losses accepted refused before held F status → IsConcluded names losses accepted refused before held G status
  concluded_later statuses.Ok h = h
  concluded_later (statuses.Lost peer session) h = (h.0, later_status before held F G (last_text names losses accepted refused) (losses_status names losses) f h.1)
  concluded_later statuses.ReportFault h = (f h.0, h.1)
  concluded_later statuses.NoMemory h = later_status before held F G [] (status_text statuses.NoMemory) f h
  concluded_later statuses.Usage h = absurd h
  concluded_later (statuses.Config number field) h = absurd h
  concluded_later statuses.ReadFault h = absurd h
  concluded_later statuses.SiteFault h = absurd h
  concluded_later statuses.TooLong h = absurd h
  concluded_later (statuses.Malformed cause offset) h = absurd h
  concluded_later (statuses.Refuted peer session kind message key) h = absurd h
  concluded_later (statuses.Unclear line) h = absurd h

  completes_later : (unnoted : Bool) (status : Status) → CompletesBy names losses accepted refused before held F unnoted status → CompletesBy names losses accepted refused before held G unnoted status
  completes_later false status h = concluded_later status h
  completes_later true status h = (h.0, later_status before held F G [] (status_text statuses.NoMemory) f h.1)

  pub finished-later : (end : End) (unnoted : Bool) (status : Status) → IsFinished names losses accepted refused before held F end unnoted status → IsFinished names losses accepted refused before held G end unnoted status
  finished-later ends.Complete unnoted status h = completes_later unnoted status h
  finished-later ends.Read unnoted status h = (h.0, later_status before held F G [] (status_text statuses.ReadFault) f h.1)
  finished-later ends.Report unnoted status h = h
  finished-later ends.NoMemory unnoted status h = (h.0, later_status before held F G [] (status_text statuses.NoMemory) f h.1)
  finished-later ends.TooLong unnoted status h = (h.0, later_status before held F G [] (status_text statuses.TooLong) f h.1)

-- ---- what a status says of the outside

module _ (names : List (List ℕ)) (losses : List Loss) (accepted refused : ℕ) (before held : Option (List ℕ)) (F : Type 0) where
  -- the statuses that need a cause
  record Causes (status : Status) : Type 0 where
    unread : status ≡ statuses.ReadFault → ⊥
    made : status ≡ statuses.SiteFault → ⊥
    failed : status ≡ statuses.ReportFault → F

  concluded_causes : (status : Status) → IsConcluded names losses accepted refused before held F status → Causes status
  concluded_causes statuses.Ok h = record { unread = λ is. cc; made = λ is. cc; failed = λ is. absurd cc }
  concluded_causes (statuses.Lost peer session) h = record { unread = λ is. cc; made = λ is. cc; failed = λ is. absurd cc }
  concluded_causes statuses.ReportFault h = record { unread = λ is. cc; made = λ is. cc; failed = λ is. h.0 }
  concluded_causes statuses.NoMemory h = record { unread = λ is. cc; made = λ is. cc; failed = λ is. absurd cc }
  concluded_causes statuses.Usage h = absurd h
  concluded_causes (statuses.Config number field) h = absurd h
  concluded_causes statuses.ReadFault h = absurd h
  concluded_causes statuses.SiteFault h = absurd h
  concluded_causes statuses.TooLong h = absurd h
  concluded_causes (statuses.Malformed cause offset) h = absurd h
  concluded_causes (statuses.Refuted peer session kind message key) h = absurd h
  concluded_causes (statuses.Unclear line) h = absurd h

  completes_causes : (unnoted : Bool) (status : Status) → CompletesBy names losses accepted refused before held F unnoted status → Causes status
  completes_causes false status h = concluded_causes status h
  completes_causes true status h = record { unread = λ is. (let at : statuses.NoMemory ≡ statuses.ReadFault = sym h.0 ∙ is in cc); made = λ is. (let at : statuses.NoMemory ≡ statuses.SiteFault = sym h.0 ∙ is in cc); failed = λ is. (let at : statuses.NoMemory ≡ statuses.ReportFault = sym h.0 ∙ is in absurd cc) }

  pub finished-read : (P : Type 0) (end : End) (unnoted : Bool) (status : Status) → IsFinished names losses accepted refused before held F end unnoted status → (end ≡ ends.Read → P) → status ≡ statuses.ReadFault → P
  finished-read P ends.Complete unnoted status h by_read is = absurd ((completes_causes unnoted status h).unread is)
  finished-read P ends.Read unnoted status h by_read is = by_read refl
  finished-read P ends.Report unnoted status h by_read is = let at : statuses.ReportFault ≡ statuses.ReadFault = sym h.0 ∙ is in absurd cc
  finished-read P ends.NoMemory unnoted status h by_read is = let at : statuses.NoMemory ≡ statuses.ReadFault = sym h.0 ∙ is in absurd cc
  finished-read P ends.TooLong unnoted status h by_read is = let at : statuses.TooLong ≡ statuses.ReadFault = sym h.0 ∙ is in absurd cc

  -- a read that failed is told as that
  pub finished-unread : (end : End) (unnoted : Bool) (status : Status) → IsFinished names losses accepted refused before held F end unnoted status → end ≡ ends.Read → status ≡ statuses.ReadFault
  finished-unread ends.Complete unnoted status h is = absurd cc
  finished-unread ends.Read unnoted status h is = h.0
  finished-unread ends.Report unnoted status h is = absurd cc
  finished-unread ends.NoMemory unnoted status h is = absurd cc
  finished-unread ends.TooLong unnoted status h is = absurd cc

  pub finished-report : (P : Type 0) (end : End) (unnoted : Bool) (status : Status) → IsFinished names losses accepted refused before held F end unnoted status → (end ≡ ends.Report → P) → (F → P) → status ≡ statuses.ReportFault → P
  finished-report P ends.Complete unnoted status h by_report by_last is = by_last ((completes_causes unnoted status h).failed is)
  finished-report P ends.Read unnoted status h by_report by_last is = let at : statuses.ReadFault ≡ statuses.ReportFault = sym h.0 ∙ is in absurd cc
  finished-report P ends.Report unnoted status h by_report by_last is = by_report refl
  finished-report P ends.NoMemory unnoted status h by_report by_last is = let at : statuses.NoMemory ≡ statuses.ReportFault = sym h.0 ∙ is in absurd cc
  finished-report P ends.TooLong unnoted status h by_report by_last is = let at : statuses.TooLong ≡ statuses.ReportFault = sym h.0 ∙ is in absurd cc

  pub finished-made : (end : End) (unnoted : Bool) (status : Status) → IsFinished names losses accepted refused before held F end unnoted status → status ≡ statuses.SiteFault → ⊥
  finished-made ends.Complete unnoted status h is = (completes_causes unnoted status h).made is
  finished-made ends.Read unnoted status h is = let at : statuses.ReadFault ≡ statuses.SiteFault = sym h.0 ∙ is in cc
  finished-made ends.Report unnoted status h is = let at : statuses.ReportFault ≡ statuses.SiteFault = sym h.0 ∙ is in cc
  finished-made ends.NoMemory unnoted status h is = let at : statuses.NoMemory ≡ statuses.SiteFault = sym h.0 ∙ is in cc
  finished-made ends.TooLong unnoted status h is = let at : statuses.TooLong ≡ statuses.SiteFault = sym h.0 ∙ is in cc

  pub finished-whole : (P : Type 0) (end : End) (unnoted : Bool) (status : Status) → IsFinished names losses accepted refused before held F end unnoted status → (end ≡ ends.Complete → P) → (row_of status).completed ≡ true → P
  finished-whole P ends.Complete unnoted status h by_end done = by_end refl
  finished-whole P ends.Read unnoted status h by_end done = let at : (row_of statuses.ReadFault).completed ≡ true = subst (λ (s : Status). (row_of s).completed ≡ true) h.0 done in absurd cc
  finished-whole P ends.Report unnoted status h by_end done = let at : (row_of statuses.ReportFault).completed ≡ true = subst (λ (s : Status). (row_of s).completed ≡ true) h.0 done in absurd cc
  finished-whole P ends.NoMemory unnoted status h by_end done = let at : (row_of statuses.NoMemory).completed ≡ true = subst (λ (s : Status). (row_of s).completed ≡ true) h.0 done in absurd cc
  finished-whole P ends.TooLong unnoted status h by_end done = let at : (row_of statuses.TooLong).completed ≡ true = subst (λ (s : Status). (row_of s).completed ≡ true) h.0 done in absurd cc

-- ---- how the reading ended

module _ {Opening State Job Said : Type 0} (rules : Rules Opening State Job Said) (speech : Speech Opening State Job Said) where
  module _ (first : List (Reads Saying)) (old new : BuilderView Opening Job Said) (o o' : Outside) (read : List ℕ) where
    pub read-rose : (end : End) → EndsAt rules speech first old new o o' end read → end ≡ ends.Read → Rose o.reads_failed o'.reads_failed
    read-rose ends.Read h is = h.2
    read-rose ends.Complete h is = absurd cc
    read-rose ends.Report h is = absurd cc
    read-rose ends.NoMemory h is = absurd cc
    read-rose ends.TooLong h is = absurd cc

    pub report-rose : (end : End) → EndsAt rules speech first old new o o' end read → end ≡ ends.Report → Rose o.writes_failed o'.writes_failed
    report-rose ends.Report h is = h.1
    report-rose ends.Complete h is = absurd cc
    report-rose ends.Read h is = absurd cc
    report-rose ends.NoMemory h is = absurd cc
    report-rose ends.TooLong h is = absurd cc

    pub whole-ended : (end : End) → EndsAt rules speech first old new o o' end read → end ≡ ends.Complete → IsEnded o'.left
    whole-ended ends.Complete h is = h.0
    whole-ended ends.Read h is = absurd cc
    whole-ended ends.Report h is = absurd cc
    whole-ended ends.NoMemory h is = absurd cc
    whole-ended ends.TooLong h is = absurd cc

pub rose-sooner : (a b c : ℕ) → Rose a b → b ≤ c → Rose a c
rose-sooner a b c (inl less) le = inl (omega arith)
rose-sooner a b c (inr full) le = inr full

-- ---- the whole

abbrev toldl : {W Opening Job Said : Type 0} → (W → Option (List (List ℕ))) → (W → ℕ) → LaneView W Opening Job Said → WireTold
toldl sessions faults lane = record { sessions = sessions lane.wire; faults = faults lane.wire }

abbrev told_one : {W : Type 0} → (W → Option (List (List ℕ))) → (W → ℕ) → W → WireTold
told_one sessions faults wire = record { sessions = sessions wire; faults = faults wire }

told_wires : {W Opening Job Said : Type 0} (sessions : W → Option (List (List ℕ))) (faults : W → ℕ) (lanes : List (LaneView W Opening Job Said))
    → map (told_one sessions faults) (map (λ (lane : LaneView W Opening Job Said). lane.wire) lanes) ≡ map (toldl sessions faults) lanes
told_wires sessions faults [] = refl
told_wires sessions faults (lane ∷ lanes) = ap (λ (ts : List WireTold). toldl sessions faults lane ∷ ts) (told_wires sessions faults lanes)

-- what isn't spent in the end was never spent
never_spent : (a b : Bool) → (a ≡ true → b ≡ true) → b ≡ false → a ≡ false
never_spent true b then unspent = let spent : b ≡ true = then refl in absurd cc
never_spent false b then unspent = refl

abbrev agrees_at : {Opening Job Said : Type 0} → Opening → List (Entry Job Said) → Held (Entry Job Said) Opening → Type 0
agrees_at {Opening} {Job} {Said} root history pass = Agrees (λ (entry : Entry Job Said). entry.pass) root history pass

abbrev legal_at : {Opening State Job Said : Type 0} → Rules Opening State Job Said → Opening → List (Entry Job Said) → Type 0
legal_at rules root history = IsLegal rules root history

-- a run that began and was read
module _ {W Opening State Job Said : Type 0} (rules : Rules Opening State Job Said) (speech : Speech Opening State Job Said) (made_for : W → WireName)
    (w : World) (grammar : Grammar) (wires : List W) (run run' : RunView W Opening Job Said) (is : IsBegun speech made_for w grammar wires run)
    (first : List (Reads Saying)) (o o' : Outside) (end : End) (ended : HasEnded rules speech first run.builder run'.builder o o' end) where
  root_begun : run.builder.pass.root ≡ Some is.dealt.root
  root_begun = root-is speech w run.gate run.builder.pass is.passes is.dealt

  none_seen : run.builder.pass.seen ≡ []
  none_seen = ap (λ (p : Held (Entry Job Said) Opening). p.seen) is.dealt.head

  -- what was read
  pub was-read : HasRead o.left o'.left (EndsAt rules speech first run.builder run'.builder o o' end)
  was-read = ended.ended (fresh-stands rules speech run.builder is.dealt.root o.held root_begun none_seen (ap (λ (b : BuilderView Opening Job Said). b.tally) is.builder))

  -- what the status says of the outside
  module _ (names : List (List ℕ)) (losses : List Loss) (accepted refused : ℕ) (before held : Option (List ℕ)) (F : Type 0) (unnoted : Bool) (status : Status) (finished : IsFinished names losses accepted refused before held F end unnoted status) where
    pub home-read : status ≡ statuses.ReadFault → Rose o.reads_failed o'.reads_failed
    home-read is =
        finished-read names losses accepted refused before held F (Rose o.reads_failed o'.reads_failed) end unnoted status finished (read-rose rules speech first run.builder run'.builder o o' was-read.read end was-read.so) is

    pub home-unharmed : (status ≡ statuses.ReadFault → ⊥) → o'.reads_failed ≡ o.reads_failed
    home-unharmed not_read = ended.unharmed (λ is. not_read (finished-unread names losses accepted refused before held F end unnoted status finished is))

    pub home-report : (failed : ℕ) → o'.writes_failed ≤ failed → (F → Rose o'.writes_failed failed) → status ≡ statuses.ReportFault → Rose o.writes_failed failed
    home-report failed more last is =
        finished-report names losses accepted refused before held F (Rose o.writes_failed failed) end unnoted status finished
        (λ e. rose-sooner o.writes_failed o'.writes_failed failed (report-rose rules speech first run.builder run'.builder o o' was-read.read end was-read.so e) more)
        (λ rose. Rose-later o.writes_failed o'.writes_failed failed ended.writes more (last rose)) is

    pub home-whole : (row_of status).completed ≡ true → IsEnded o'.left
    home-whole done =
        finished-whole names losses accepted refused before held F (IsEnded o'.left) end unnoted status finished (whole-ended rules speech first run.builder run'.builder o o' was-read.read end was-read.so) done

  module _ (same : posts run'.lanes ≡ posts run.lanes) where
    lanes_all : length run'.lanes ≡ length w.peers
    lanes_all = same-many run'.lanes run.lanes same ∙ (ap length is.lanes ∙ (lanes_many made_for 0 wires is.passes (is.dealt.all ∙ sym is.all) ∙ is.all))

    lanes_at : AreAtPosts run.gate.id (Some is.dealt.root) 0 run'.lanes
    lanes_at =
        same-at run.gate.id (Some is.dealt.root) run'.lanes run.lanes same
        (subst (λ (ls : List (LaneView W Opening Job Said)). AreAtPosts run.gate.id (Some is.dealt.root) 0 ls) (sym is.lanes) (posts_fresh made_for run.gate.id is.dealt.root 0 wires is.passes is.dealt.others))

    -- for whom the wires that come back were made
    pub home-for : map (λ (lane : LaneView W Opening Job Said). lane.made_for) run'.lanes ≡ map made_for wires
    home-for =
        same-for run'.lanes run.lanes same
        ∙ (ap (λ (ls : List (LaneView W Opening Job Said)). map (λ (lane : LaneView W Opening Job Said). lane.made_for) ls) is.lanes ∙ lanes_for made_for 0 wires is.passes (is.dealt.all ∙ sym is.all))

  -- the history that came home
  module _ (history : List (Entry Job Said)) (hist : IsHistoryOf rules run'.builder.pass run'.lanes history) where
    root-same : hist.root ≡ is.dealt.root
    root-same = some_is hist.root is.dealt.root (sym hist.known ∙ (ended.same.pass.2 ∙ root_begun))

    behind-home : IsBehind rules speech is.dealt.root history run'.builder.pass.seen
    behind-home =
        let number : run'.builder.pass.number ≡ 0 = ended.same.pass.1 ∙ ap (λ (p : Held (Entry Job Said) Opening). p.number) is.dealt.head in
        behind rules speech is.dealt.root history run'.builder.pass number (subst (λ (r : Opening). agrees_at r history run'.builder.pass) root-same hist.builder_agrees)

    -- what it counted
    pub counted-home : (completed : Bool) → (completed ≡ true → end ≡ ends.Complete) → IsCounted rules speech w completed history o.steps o'.steps
    counted-home completed complete =
        let home = behind-home in
        inr (record {
          root = is.dealt.root;
          first = is.dealt.first;
          least = least-whole rules run.builder.pass.root is.dealt.root root_begun run.builder.pass.seen run'.builder.pass.seen home.later history none_seen home.parts home.others o.steps o'.steps ended.least;
          most = λ done. most-whole rules run.builder.pass.root is.dealt.root root_begun run.builder.pass.seen run'.builder.pass.seen home.later history none_seen home.parts home.others o.steps o'.steps (ended.most (complete done));
        })

  -- what the run comes to
  pub came-home :
      (machine : IsMachine rules) (speaks : IsSpeaker rules speech) (sessions : W → Option (List (List ℕ))) (begun faults : W → ℕ) (same : posts run'.lanes ≡ posts run.lanes)
      (history : List (Entry Job Said)) (hist : IsHistoryOf rules run'.builder.pass run'.lanes history) → IsOpening w → Each IsSound first → AreKept rules sessions begun faults run'.lanes
      → (name : List ℕ) (before : Before) (after : After) → HasPicked before.files name o.left → after.left ≡ o'.left → after.picks.is_open ≡ true → o.held ≡ before.held → (made_for' : List WireName)
      → (F : Type 0) → (F → Rose before.faults after.faults) → (status : Status)
      → IsFinished run'.builder.names (losses_from 0 (all_losses 0 (length run'.lanes) history)) run'.builder.tally.accepted run'.builder.tally.refused o'.held after.held F end (list_any (λ (lane : LaneView W Opening Job Said). lane.unnoted) run'.lanes) status
      → (back : List W) → back ≡ map (λ (lane : LaneView W Opening Job Said). lane.wire) run'.lanes
      → (spent : Bool) → (run'.builder.pass.spent ≡ true → spent ≡ true) → (spent ≡ true → (root : Opening) → run'.builder.pass.root ≡ Some root → MayGoOn rules root history)
      → IsRun rules speech w grammar first name (record { before = before; after = after; status = status; wires = map (told_one sessions faults) back; made_for = made_for'; history = history; spent = spent })
  came-home machine speaks sessions begun faults same history hist opens sound kept name before after picked left_is stays held_is made_for' F f status finished back back_is spent spends goes_on =
      let old : BuilderView Opening Job Said = run.builder in
      let new : BuilderView Opening Job Said = run'.builder in
      let lanes : List (LaneView W Opening Job Said) = run'.lanes in
      let G : Type 0 = Rose before.faults after.faults in
      let root : Opening = is.dealt.root in
      let root_new : new.pass.root ≡ Some root = ended.same.pass.2 ∙ root_begun in
      let count : length (map (toldl sessions faults) lanes) ≡ length lanes = length-map lanes (toldl sessions faults) in
      let wires_all : length (map (toldl sessions faults) lanes) ≡ length w.peers = count ∙ lanes_all same in
      let done = was-read in
      let agree = subst (λ (r : Opening). Each (λ (lane : LaneView W Opening Job Said). agrees_at r history lane.pass) lanes) (root-same history hist) hist.lanes_agree in
      let fine = finished-later new.names (losses_from 0 (all_losses 0 (length lanes) history)) new.tally.accepted new.tally.refused o'.held after.held F G f end (list_any (λ (lane : LaneView W Opening Job Said). lane.unnoted) lanes) status finished in
      let so =
      subst (λ (h : Option (List ℕ)). EndsAt rules speech first old new (record o { held = h }) (record o' { left = after.left }) end done.read) held_is
      (subst (λ (l : Option (List ℕ)). EndsAt rules speech first old new o (record o' { left = l }) end done.read) (sym left_is) done.so) in
      let run_is = comes rules speech machine speaks w opens grammar first sound root is.dealt.first (map (toldl sessions faults) lanes) wires_all history
      (subst (λ (r : Opening). legal_at rules r history) (root-same history hist) hist.legal)
      (subst (λ n. Each (λ (entry : Entry Job Said). entry.pass ≤ n) history) (sym count) hist.owned)
      (list_any (λ (lane : LaneView W Opening Job Said). lane.unnoted) lanes)
      (λ complete noted. crew-from rules speech sessions begun faults run.gate.id root history complete 0 lanes (lanes_at same) kept agree (λ over. noted over))
      new root_new (ended.same.names ∙ ap (λ (b : BuilderView Opening Job Said). b.names) is.builder) (behind-home history hist)
      name before after o.left picked stays o'.held made_for' spent
      (λ unspent. subst (λ (u : Bool). IsClosedAt rules speech u new.pass.root new.pass.seen) (never_spent new.pass.spent spent spends unspent) ended.closed)
      (λ is'. let more = goes_on is' root root_new in legal-open rules speech speaks.steps more.0 (replay rules root history) more.1)
      done.read (part_read before.files name o.left after.left done.read picked (subst (λ (l : Option (List ℕ)). TakesFront o.left l done.read) (sym left_is) done.taken))
      (length lanes) (sym count) old (ap (λ (b : BuilderView Opening Job Said). b.grammar) is.builder) o.reads_failed o'.reads_failed o.writes_failed o'.writes_failed o.steps o'.steps end status so fine in
      subst (λ (ts : List WireTold). IsRun rules speech w grammar first name (record { before = before; after = after; status = status; wires = ts; made_for = made_for'; history = history; spent = spent }))
      (sym (ap (λ (ws : List W). map (told_one sessions faults) ws) back_is ∙ told_wires sessions faults lanes)) run_is
