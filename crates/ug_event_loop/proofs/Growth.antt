-- What was told, and what was lost, as a history grows.
use Rattle.std.proofs.Common.{◌≡◌, ℕ, ◌≤◌, Bool, true, false, List, [], ◌∷◌, ◌++◌, length, take, refl, sym, ◌∙◌, ap, append_assoc}
use Rattle.std.specs.Prelude.{◌==◌, ◌||◌, fold, if◌then◌else◌}
use Rattle.std.specs.List.{list_any}
use Rattle.std.proofs.lemmas.List.{append-nil, take_at, take-append-le}
use Rattle.std.proofs.lemmas.List.Folds.{list_any-append}
use Rattle.ug_types.specs.Messages.{Message}
use Rattle.ug_board.specs.declared.steps.BoardStep.{BoardStep}
use Rattle.ug_board.specs.declared.steps.BoardStep.TheVariants.{Job as DoJob, Lane as LaneTakes}
use Rattle.ug_board.specs.declared.steps.BoardSaid.{BoardSaid}
use Rattle.ug_board.specs.declared.steps.BoardSaid.TheVariants.{Job as JobSaid, Lane as LaneGot}
use Rattle.ug_board.specs.declared.steps.LaneStep.TheVariants.{Next, Lost}
use Rattle.ug_board.specs.declared.steps.LaneSaid.{LaneSaid}
use Rattle.ug_board.specs.declared.steps.LaneSaid.TheVariants.{Begun, Hand, Idle, Stop, Noted}
use Rattle.ug_board.specs.Entry.{Entry}
use Rattle.ug_board.specs.Rules.{Rules}
use Rattle.ug_board.specs.History.{IsLegalStep, IsLegalFrom, after_step, replay, job_entry}
use Rattle.ug_board.specs.Deeds.{Deed, Begins, Hands, Loses, when, to_peer, is_to, lane_deeds, step_deeds, deeds_from, losses}
use Rattle.ug_board.specs.Sessions.{Session, hand_last, after_deed, sessions_of}
use Rattle.ug_board.proofs.Growth.{deeds_from-append}
use Rattle.ug_board.proofs.Folding.{sessions_of-append, losses-append}
use Rattle.ug_speaker.specs.Speech.{Speech}
use Rattle.ug_speaker.specs.Told.{handed_in, deeds_to, told, is_lost}
use Rattle.ug_event_loop.specs.Crew.{step_losses, losses_in}

-- ---- sessions

abbrev Grows : List Message → List Message → Type 0
Grows old new = (more : List Message) × (new ≡ old ++ more)

still : (ms : List Message) → Grows ms ms
still ms = ([], sym (append-nil ms))

grows_on : (one two three : List Message) → Grows one two → Grows two three → Grows one three
grows_on one two three first second =
    (first.0 ++ second.0, second.1 ∙ (ap (λ (ms : List Message). ms ++ second.0) first.1 ∙ append_assoc one first.0 second.0))

begun_nothing : (n k : ℕ) (sessions : List (Session Message)) → handed_in n (sessions ++ record { number = k; handed = [] } ∷ []) ≡ handed_in n sessions
begun_nothing n k [] = by (k == n)
  where
    by : (b : Bool) → ◌≡◌ {A = List Message} (if b then [] else []) []
    by true = refl
    by false = refl
begun_nothing n k (session ∷ sessions) = ap (λ (rest : List Message). if session.number == n then session.handed else rest) (begun_nothing n k sessions)

item_by : (n : ℕ) (item : Message) (session : Session Message) (b : Bool) → Grows (handed_in n (session ∷ [])) (handed_in n ((if b then record { number = session.number; handed = session.handed ++ item ∷ [] } else session) ∷ []))
item_by n item session false = still (handed_in n (session ∷ []))
item_by n item session true = by (session.number == n)
  where
    by : (b : Bool) → Grows (if b then session.handed else []) (if b then session.handed ++ item ∷ [] else [])
    by true = (item ∷ [], refl)
    by false = ([], refl)

else_grows : (b : Bool) (here old new : List Message) → Grows old new → Grows (if b then here else old) (if b then here else new)
else_grows true here old new grows = still here
else_grows false here old new grows = grows

hand_grows : (n k : ℕ) (item : Message) (sessions : List (Session Message)) → Grows (handed_in n sessions) (handed_in n (hand_last k item sessions))
hand_grows n k item [] = still []
hand_grows n k item (session ∷ []) = item_by n item session (session.number == k)
hand_grows n k item (session ∷ next ∷ sessions) =
    else_grows (session.number == n) session.handed (handed_in n (next ∷ sessions)) (handed_in n (hand_last k item (next ∷ sessions))) (hand_grows n k item (next ∷ sessions))

deed_grows : (n : ℕ) (sessions : List (Session Message)) (deed : Deed Message) → Grows (handed_in n sessions) (handed_in n (after_deed sessions deed))
deed_grows n sessions (Begins k) = ([], begun_nothing n k sessions ∙ sym (append-nil (handed_in n sessions)))
deed_grows n sessions (Hands k item) = hand_grows n k item sessions
deed_grows n sessions (Loses k) = still (handed_in n sessions)

deeds_grow : (n : ℕ) (sessions : List (Session Message)) (deeds : List (Deed Message)) → Grows (handed_in n sessions) (handed_in n (fold after_deed sessions deeds))
deeds_grow n sessions [] = still (handed_in n sessions)
deeds_grow n sessions (deed ∷ deeds) =
    grows_on (handed_in n sessions) (handed_in n (after_deed sessions deed)) (handed_in n (fold after_deed (after_deed sessions deed) deeds)) (deed_grows n sessions deed) (deeds_grow n (after_deed sessions deed) deeds)

-- two fronts of one list: the longer holds the shorter
pub front-within : (all one other more rest : List Message) → all ≡ one ++ more → all ≡ other ++ rest → length one ≤ length other → take (length one) other ≡ one
front-within all one other more rest is is' less =
    sym (take-append-le (length one) other rest less) ∙ (ap (take (length one)) (sym is' ∙ is) ∙ take_at one more (length one) refl)

or_left : (a b : Bool) → a ≡ true → (a || b) ≡ true
or_left a b is = rw is refl

module _ {Opening State Job Said : Type 0} (rules : Rules Opening State Job Said) (speech : Speech Opening State Job Said) where
  pub deeds-further : (p : ℕ) (opening : Opening) (front more : List (Entry Job Said))
      → deeds_to rules speech p opening (front ++ more) ≡ deeds_to rules speech p opening front ++ deeds_from rules speech.message (to_peer p) (replay rules opening front) more
  deeds-further p opening front more = deeds_from-append rules speech.message (to_peer p) (rules.start opening) front more

  -- what was told stays told
  pub told-grows : (p n : ℕ) (opening : Opening) (front more : List (Entry Job Said)) → (x : List Message) × (told rules speech p n opening (front ++ more) ≡ told rules speech p n opening front ++ x)
  told-grows p n opening front more =
      let further = deeds_from rules speech.message (to_peer p) (replay rules opening front) more in
      let grows = deeds_grow n (sessions_of (deeds_to rules speech p opening front)) further in
      (grows.0, ap (λ (ds : List (Deed Message)). handed_in n (sessions_of ds)) (deeds-further p opening front more) ∙ (ap (handed_in n) (sessions_of-append (deeds_to rules speech p opening front) further) ∙ grows.1))

  -- what is lost stays lost
  pub lost-stays : (p n : ℕ) (opening : Opening) (front more : List (Entry Job Said)) → is_lost rules speech p n opening front ≡ true → is_lost rules speech p n opening (front ++ more) ≡ true
  lost-stays p n opening front more is =
      let further = deeds_from rules speech.message (to_peer p) (replay rules opening front) more in
      ap (λ (ds : List (Deed Message)). list_any (λ (m : ℕ). m == n) (losses ds)) (deeds-further p opening front more)
      ∙ (ap (list_any (λ (m : ℕ). m == n)) (losses-append (deeds_to rules speech p opening front) further)
      ∙ (list_any-append (λ (m : ℕ). m == n) (losses (deeds_to rules speech p opening front)) (losses further)
      ∙ or_left (is_lost rules speech p n opening front) (list_any (λ (m : ℕ). m == n) (losses further)) is))

  -- a job tells no peer anything
  pub job-tells-none : (p : ℕ) (opening : Opening) (front : List (Entry Job Said)) (pass : ℕ) (job : Job) (state : State)
      → deeds_to rules speech p opening (front ++ job_entry rules pass job state ∷ []) ≡ deeds_to rules speech p opening front
  job-tells-none p opening front pass job state = deeds-further p opening front (job_entry rules pass job state ∷ []) ∙ append-nil (deeds_to rules speech p opening front)

  -- ---- losses that are entries

  next_losses : (b : Bool) (q : ℕ) (said : LaneSaid) (state : State) → losses (when b (lane_deeds speech.message (Next q) said state)) ≡ []
  next_losses true q (Begun session) state = refl
  next_losses true q (Hand session made len) state = refl
  next_losses true q Idle state = refl
  next_losses true q Stop state = refl
  next_losses true q Noted state = refl
  next_losses false q said state = refl

  lost_losses : (b : Bool) (n : ℕ) → losses {X = Message} (when b (Loses n ∷ [])) ≡ (if b then n ∷ [] else [])
  lost_losses true n = refl
  lost_losses false n = refl

  one_losses : (p : ℕ) (step : BoardStep Job) (said : BoardSaid Said) (state : State) → IsLegalStep rules step said state → losses (when (is_to p step) (step_deeds speech.message step said state)) ≡ step_losses p step
  one_losses p (DoJob job) said state legal = refl
  one_losses p (LaneTakes (Next q)) (LaneGot said) state legal = next_losses (q == p) q said state
  one_losses p (LaneTakes (Lost q n)) (LaneGot said) state legal = lost_losses (q == p) n
  one_losses p (LaneTakes step) (JobSaid said) state legal = absurd legal

  pub losses-entries : (p : ℕ) (state : State) (entries : List (Entry Job Said)) → IsLegalFrom rules state entries → losses (deeds_from rules speech.message (to_peer p) state entries) ≡ losses_in p entries
  losses-entries p state [] legal = refl
  losses-entries p state (entry ∷ entries) legal =
      let here = when (to_peer p entry) (step_deeds speech.message entry.step entry.said state) in
      losses-append here (deeds_from rules speech.message (to_peer p) (after_step rules entry.step state) entries)
      ∙ (ap (λ (ns : List ℕ). ns ++ losses (deeds_from rules speech.message (to_peer p) (after_step rules entry.step state) entries)) (one_losses p entry.step entry.said state legal.0)
      ∙ ap (λ (ns : List ℕ). step_losses p entry.step ++ ns) (losses-entries p (after_step rules entry.step state) entries legal.1))
