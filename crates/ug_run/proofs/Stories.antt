-- A run whose board is closed: its story is that of its lines, and each wire holds what its lane was handed.
use Rattle.std.proofs.Common.{◌≡◌, ℕ, zero, suc, ◌+◌, ◌<◌, ◌≤◌, Bool, true, false, List, [], ◌∷◌, ◌++◌, length, map, slice_get, Option, Some, Ok, Err, inl, inr, refl, sym, ◌∙◌, ap, subst, arith}
use Rattle.std.specs.Prelude.{◌==◌, ◌||◌, ◌&&◌, not, nat_lt, is_none, filter}
use Rattle.std.specs.List.{list_any}
use Rattle.std.proofs.lemmas.Bool.{cases_lt, eq-eqb}
use Rattle.std.proofs.lemmas.List.{append-nil, append_cancel_left}
use Rattle.std.proofs.lemmas.List.Elements.{filter-append}
use Rattle.atomic_table.specs.Seated.{TableId}
use Rattle.ug_types.specs.declared.mark.Mark.{Mark}
use Rattle.ug_board.specs.declared.steps.BoardStep.{BoardStep}
use Rattle.ug_board.specs.declared.steps.BoardStep.TheVariants.{Job as DoJob, Lane as LaneTakes}
use Rattle.ug_board.specs.declared.steps.BoardSaid.{BoardSaid}
use Rattle.ug_board.specs.declared.steps.BoardSaid.TheVariants.{Job as JobSaid, Lane as LaneGot}
use Rattle.ug_board.specs.Entry.{Entry}
use Rattle.ug_board.specs.Rules.{Rules}
use Rattle.ug_board.specs.History.{IsLegalStep, IsLegalFrom, IsLegal, after_step, replay_from, replay}
use Rattle.ug_board.proofs.Histories.{replay_from-append}
use Rattle.ug_board.specs.Deeds.{Each, of_pass, to_peer, is_to}
use Rattle.ug_turnstile.specs.Passes.{Held, Agrees}
use Rattle.ug_sender.specs.Lanes.{LaneView, KeepsLane}
use Rattle.ug_events.specs.Events.{Happening, IsEvent, Saying, SaysNothing, SaysSync, Says}
use Rattle.ug_events.specs.Reads.{Reads}
use Rattle.ug_events.specs.Grammar.{verb_of, routes_verb_of}
use Rattle.ug_commands.proofs.EventLines.{line_sound}
use Rattle.ug_speaker.specs.Speech.{Purpose, TakesEvent, MarksTold, Ends, Prepares, Speech}
use Rattle.ug_speaker.specs.Owes.{IsTimely, StepsRight}
use Rattle.ug_world.specs.Verdicts.{verdict}
use Rattle.ug_speaker.specs.Story.{IsSound, IsBetween, IsStory}
use Rattle.ug_speaker.specs.StoryLaws.{story-between}
use Rattle.ug_event_loop.specs.declared.grammar.Grammar.{Grammar}
use Rattle.ug_event_loop.specs.declared.grammar.Grammar.TheVariants as grammars
use Rattle.ug_event_loop.specs.Standing.{said_by, IsLaneStep, AreLanes}
use Rattle.ug_event_loop.proofs.Worlds.{lanes-back, legal-back}
use Rattle.ug_run.specs.Lanes.{AreAtPosts, AreKept}
use Rattle.ug_event_loop.specs.Contents.{WireTold}
use Rattle.ug_event_loop.specs.Crew.{EachLaneFrom, IsCrewed}
use Rattle.ug_event_loop.proofs.Lists.{each-so, each-with, each-all, each-any, none-passes, get-there}
use Rattle.ug_event_loop.proofs.Owned.{lane-at, own-steps}

-- ---- what lines say is sound

sound_by : (r : Reads Saying) → ((e : Happening) → r ≡ Ok (Says e) → IsEvent e) → IsSound r
sound_by (Ok SaysNothing) fine = tt
sound_by (Ok SaysSync) fine = tt
sound_by (Ok (Says e)) fine = fine e refl
sound_by (Err refusal) fine = tt

said_sound : (g : Grammar) (line : List ℕ) → IsSound (said_by g line)
said_sound grammars.Every line = sound_by (said_by grammars.Every line) (λ e is. line_sound verb_of line e is)
said_sound grammars.Routes line = sound_by (said_by grammars.Routes line) (λ e is. line_sound routes_verb_of line e is)

pub lines-sound : (g : Grammar) (lines : List (List ℕ)) → Each IsSound (map (said_by g) lines)
lines-sound g [] = tt
lines-sound g (line ∷ lines) = (said_sound g line, lines-sound g lines)

-- ---- jobs

pub not_true : (b : Bool) → not b ≡ true → b ≡ false
not_true true h = absurd cc
not_true false h = refl

last_true : (a b : Bool) → (a && b) ≡ true → b ≡ true
last_true true b h = h
last_true false b h = absurd cc

-- Where a job may be done the work is not ended.
module _ {Opening State Job Said : Type 0} (rules : Rules Opening State Job Said) (speech : Speech Opening State Job Said) where
  open_for : (p : Purpose) (legal : Bool) (s : State) → IsTimely rules speech p legal s → legal ≡ true → speech.closed s ≡ false
  open_for (TakesEvent e) legal s timely may =
      let new = is_none (verdict (speech.world s) e) in
      let few = nat_lt (speech.world s).version 4294967295 in
      not_true (speech.closed s) (last_true (speech.settled s) (not (speech.closed s)) (last_true few (speech.settled s && not (speech.closed s)) (last_true new (few && (speech.settled s && not (speech.closed s))) (sym timely ∙ may))))
  open_for MarksTold legal s timely may = not_true (speech.closed s) (last_true (speech.drained s) (not (speech.closed s)) (sym timely ∙ may))
  open_for Ends legal s timely may = not_true (speech.closed s) (sym timely ∙ may)
  open_for Prepares legal s timely may = timely may

  pub legal-open : StepsRight rules speech → (job : Job) (s : State) → rules.legal job s ≡ true → speech.closed s ≡ false
  legal-open steps job s may = open_for (speech.purpose job) (rules.legal job s) s (steps.timely job s) may

-- ---- lanes

neither : (a b : Bool) → (a || b) ≡ false → (a ≡ false) × (b ≡ false)
neither true b e = absurd cc
neither false b e = (refl, e)

lane_by : {J : Type 0} (count pass : ℕ) (step : BoardStep J) → pass ≤ count → ((q : ℕ) → q < count → (pass == (q + 1)) ≡ true → is_to q step ≡ true) → (pass == 0) ≡ false → IsLaneStep step
lane_by count zero step few own other = let same : (0 == 0) ≡ true = eq-eqb 0 0 refl in absurd cc
lane_by count (suc q) (DoJob job) few own other =
    let never : false ≡ true = own q (omega arith) (eq-eqb (suc q) (q + 1) (omega arith)) in absurd cc
lane_by count (suc q) (LaneTakes step) few own other = tt

module _ {W Opening State Job Said : Type 0} (rules : Rules Opening State Job Said) (speech : Speech Opening State Job Said) (sessions : W → Option (List (List ℕ))) (begun faults : W → ℕ) where
  -- what the wire of a lane tells
  abbrev pub told : LaneView W Opening Job Said → WireTold
  told lane = record { sessions = sessions lane.wire; faults = faults lane.wire }

  module _ (id : TableId) (root : Opening) (history : List (Entry Job Said)) (complete : Bool) where
    abbrev AgreeAll : List (LaneView W Opening Job Said) → Type 0
    AgreeAll lanes = Each (λ (lane : LaneView W Opening Job Said). Agrees (λ (entry : Entry Job Said). entry.pass) root history lane.pass) lanes

    -- The lanes are the crew of the run.
    pub crew-from : (p : ℕ) (lanes : List (LaneView W Opening Job Said)) → AreAtPosts id (Some root) p lanes → AreKept rules sessions begun faults lanes → AgreeAll lanes
        → (complete ≡ true → list_any (λ lane. lane.unnoted) lanes ≡ false) → EachLaneFrom (IsCrewed rules speech root history complete) p (map told lanes)
    crew-from p [] at kept agree noted = tt
    crew-from p (lane ∷ lanes) at kept agree noted = (
      record {
        pass = lane.pass;
        number = at.2;
        agrees = agree.0;
        begun = begun lane.wire;
        latest = lane.latest;
        unnoted = lane.unnoted;
        kept = subst (λ q. KeepsLane rules lane.pass q (sessions lane.wire) (begun lane.wire) (faults lane.wire) lane.latest lane.unnoted) at.3 kept.0;
        noted = λ done. (neither lane.unnoted (list_any (λ (l : LaneView W Opening Job Said). l.unnoted) lanes) (noted done)).0;
      },
      crew-from (p + 1) lanes at.4 kept.1 agree.1 (λ done. (neither lane.unnoted (list_any (λ (l : LaneView W Opening Job Said). l.unnoted) lanes) (noted done)).1),
    )

module _ {Opening State Job Said : Type 0} (rules : Rules Opening State Job Said) (speech : Speech Opening State Job Said) (root : Opening) (history : List (Entry Job Said)) where
  -- ---- whoever isn't the builder took steps of lanes

  module _ (complete : Bool) (wires : List WireTold) (crew : EachLaneFrom (IsCrewed rules speech root history complete) 0 wires) (owned : Each (λ (entry : Entry Job Said). entry.pass ≤ length wires) history) where
    abbrev OwnsAt : ℕ → Entry Job Said → Type 0
    OwnsAt q entry = q < length wires → (entry.pass == (q + 1)) ≡ true → is_to q entry.step ≡ true

    crewed_at : (p : ℕ) (wire : WireTold) → slice_get wires p ≡ Some wire → IsCrewed rules speech root history complete p wire
    crewed_at p wire is =
        let here : 0 + p ≡ p = omega arith in
        subst (λ k. IsCrewed rules speech root history complete k wire) here (lane-at (IsCrewed rules speech root history complete) 0 wires p wire crew is)

    own_at : (q : ℕ) → Each (OwnsAt q) history
    own_at q = elim (cases_lt q (length wires)) [
      | inl less ↦
          let found = get-there wires q less in
          each-so (λ (entry : Entry Job Said). (entry.pass == (q + 1)) ≡ true → to_peer q entry ≡ true) (OwnsAt q) (λ entry own _. own) history
          (own-steps rules speech root history complete q found.0 (crewed_at q found.0 found.1))
      | inr more ↦ each-any (OwnsAt q) (λ entry less. absurd (omega arith)) history
    ]

    pub others-lanes : AreLanes history
    others-lanes =
        each-with (λ (entry : Entry Job Said). entry.pass ≤ length wires) (λ (entry : Entry Job Said). (q : ℕ) → OwnsAt q entry)
        (λ (entry : Entry Job Said). of_pass 0 entry ≡ false → IsLaneStep entry.step)
        (λ entry few own other. lane_by (length wires) entry.pass entry.step few own other) history owned (each-all OwnsAt history own_at)

  -- ---- what came behind the last that the builder saw

  -- the entries behind it are nobody's but the lanes'
  pub record IsBehind (seen : List (Entry Job Said)) : Type 0 where
    pub later : List (Entry Job Said)
    pub parts : history ≡ seen ++ later
    pub others : Each (λ (entry : Entry Job Said). of_pass 0 entry ≡ false) later

  pub behind : (pass : Held (Entry Job Said) Opening) → pass.number ≡ 0 → Agrees (λ (entry : Entry Job Said). entry.pass) root history pass → IsBehind pass.seen
  behind pass number agrees =
      let later = agrees.1.0 in
      let mine = λ (es : List (Entry Job Said)). filter (of_pass 0) es in
      let same : mine history ≡ mine pass.seen = subst (λ n. filter (of_pass n) history ≡ filter (of_pass n) pass.seen) number agrees.2 in
      let none : mine later ≡ [] =
      append_cancel_left (mine pass.seen) (mine later) [] (sym (filter-append (of_pass 0) pass.seen later) ∙ (ap mine (sym agrees.1.1) ∙ (same ∙ sym (append-nil (mine pass.seen))))) in
      record { later = later; parts = agrees.1.1; others = none-passes (of_pass 0) later none }

  between_later : (later : List (Entry Job Said)) → Each (λ (entry : Entry Job Said). of_pass 0 entry ≡ false) later → Each (IsBetween rules speech) later
  between_later later others = each-so (λ (entry : Entry Job Said). of_pass 0 entry ≡ false) (IsBetween rules speech) (λ entry no yes. absurd cc) later others

  abbrev IsEnded : State → Type 0
  IsEnded s = (speech.drained s ≡ true) × (speech.closed s ≡ true)

  ended_step : (steps : StepsRight rules speech) (step : BoardStep Job) (said : BoardSaid Said) (s : State) → IsLegalStep rules step said s → IsLaneStep step → IsEnded s → IsEnded (after_step rules step s)
  ended_step steps (DoJob job) said s legal lane ended = absurd lane
  ended_step steps (LaneTakes step) (JobSaid said) s legal lane ended = absurd legal
  ended_step steps (LaneTakes step) (LaneGot said) s legal lane ended = (steps.drained_after_lane step s legal.0 ended.0, steps.closed_after_lane step s legal.0 ∙ ended.1)

  closed_step : (steps : StepsRight rules speech) (step : BoardStep Job) (said : BoardSaid Said) (s : State) → IsLegalStep rules step said s → IsLaneStep step → speech.closed s ≡ true → speech.closed (after_step rules step s) ≡ true
  closed_step steps (DoJob job) said s legal lane closed = absurd lane
  closed_step steps (LaneTakes step) (JobSaid said) s legal lane closed = absurd legal
  closed_step steps (LaneTakes step) (LaneGot said) s legal lane closed = steps.closed_after_lane step s legal.0 ∙ closed

  ended_on : (steps : StepsRight rules speech) (s : State) (later : List (Entry Job Said)) → IsLegalFrom rules s later → Each (λ (entry : Entry Job Said). IsLaneStep entry.step) later → IsEnded s → IsEnded (replay_from rules s later)
  ended_on steps s [] legal lanes ended = ended
  ended_on steps s (entry ∷ later) legal lanes ended =
      ended_on steps (after_step rules entry.step s) later legal.1 lanes.1 (ended_step steps entry.step entry.said s legal.0 lanes.0 ended)

  closed_on : (steps : StepsRight rules speech) (s : State) (later : List (Entry Job Said)) → IsLegalFrom rules s later → Each (λ (entry : Entry Job Said). IsLaneStep entry.step) later → speech.closed s ≡ true
      → speech.closed (replay_from rules s later) ≡ true
  closed_on steps s [] legal lanes closed = closed
  closed_on steps s (entry ∷ later) legal lanes closed =
      closed_on steps (after_step rules entry.step s) later legal.1 lanes.1 (closed_step steps entry.step entry.said s legal.0 lanes.0 closed)

  -- ---- the run

  module _ (steps : StepsRight rules speech) (legal : IsLegal rules root history) (lanes : AreLanes history) (seen : List (Entry Job Said)) (is : IsBehind seen) where
    goes_on : replay rules root history ≡ replay_from rules (replay rules root seen) is.later
    goes_on = ap (replay rules root) is.parts ∙ replay_from-append rules (rules.start root) seen is.later

    lanes_later : Each (λ (entry : Entry Job Said). IsLaneStep entry.step) is.later
    lanes_later =
        let back : AreLanes is.later = lanes-back seen is.later (subst (λ (h : List (Entry Job Said)). AreLanes h) is.parts lanes) in
        each-with (λ (entry : Entry Job Said). of_pass 0 entry ≡ false → IsLaneStep entry.step) (λ (entry : Entry Job Said). of_pass 0 entry ≡ false)
        (λ (entry : Entry Job Said). IsLaneStep entry.step) (λ entry lane other. lane other) is.later back is.others

    legal_later : IsLegalFrom rules (replay rules root seen) is.later
    legal_later = legal-back rules (rules.start root) seen is.later (subst (λ (h : List (Entry Job Said)). IsLegal rules root h) is.parts legal)

    pub ended-all : IsEnded (replay rules root seen) → IsEnded (replay rules root history)
    ended-all ended = subst (λ (s : State). IsEnded s) (sym goes_on) (ended_on steps (replay rules root seen) is.later legal_later lanes_later ended)

    -- no job may follow either where the builder saw that none may
    pub closed-all : speech.closed (replay rules root seen) ≡ true → speech.closed (replay rules root history) ≡ true
    closed-all closed = subst (λ (s : State). speech.closed s ≡ true) (sym goes_on) (closed_on steps (replay rules root seen) is.later legal_later lanes_later closed)

    pub story-all : (lines : List (Reads Saying)) (marks : List (List Mark)) → IsStory rules speech root [] lines marks seen → IsStory rules speech root [] lines marks history
    story-all lines marks story =
        subst (λ (h : List (Entry Job Said)). IsStory rules speech root [] lines marks h) (sym is.parts)
        (story-between rules speech root [] lines marks seen is.later story (between_later is.later is.others))
