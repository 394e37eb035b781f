-- Whose the entries of a closed history are: the builder's are its jobs, and those of the pass of a lane are the steps
-- to its peer.
use Rattle.std.proofs.Common.{◌≡◌, ℕ, zero, suc, ◌+◌, ◌<◌, ◌≤◌, Bool, true, false, List, [], ◌∷◌, ◌++◌, length, slice_get, Option, Some, refl, sym, ◌∙◌, ap, subst, arith, inl, inr}
use Rattle.std.specs.Prelude.{◌==◌, filter}
use Rattle.std.proofs.lemmas.Bool.{cases_eq, cases_lt, eqb-true, eq-eqb}
use Rattle.std.proofs.lemmas.Bool.Decides.{nat_tests}
use Rattle.std.proofs.lemmas.List.{append-nil, append_cancel_left}
use Rattle.std.proofs.lemmas.List.Elements.{filter-append}
use Rattle.ug_board.specs.declared.steps.BoardStep.{BoardStep}
use Rattle.ug_board.specs.declared.steps.BoardStep.TheVariants.{Job as DoJob, Lane as LaneTakes}
use Rattle.ug_board.specs.declared.steps.LaneStep.TheVariants.{Next, Lost}
use Rattle.ug_board.specs.Entry.{Entry}
use Rattle.ug_board.specs.Rules.{Rules}
use Rattle.ug_board.specs.History.{replay_from}
use Rattle.ug_board.specs.Deeds.{Deed, Each, is_to, to_peer, of_pass, deeds}
use Rattle.ug_board.proofs.Growth.{deeds_from-append, deeds_from-alike, deeds_from-others}
use Rattle.ug_turnstile.specs.Passes.{Held}
use Rattle.ug_sender.specs.Lanes.{deeds_at, pass_deeds}
use Rattle.ug_speaker.specs.Speech.{Speech}
use Rattle.ug_event_loop.specs.Contents.{WireTold}
use Rattle.ug_event_loop.specs.Crew.{IsCrewed, EachLaneFrom}
use Rattle.ug_event_loop.proofs.Lists.{each-join, each-so, each-with, each-all, each-any, none-passes, get-there}

-- the wire at a place, counted from here on
pub lane-at : (P : ℕ → WireTold → Type 0) (p : ℕ) (wires : List WireTold) (n : ℕ) (wire : WireTold) → EachLaneFrom P p wires → slice_get wires n ≡ Some wire → P (p + n) wire
lane-at P p [] n wire each is = absurd cc
lane-at P p (w ∷ wires) zero wire each is =
    let same : w ≡ wire = cc in
    let here : p ≡ p + 0 = omega arith in
    subst (λ k. P k wire) here (subst (λ (x : WireTold). P p x) same each.0)
lane-at P p (w ∷ wires) (suc n) wire each is =
    let there : p + 1 + n ≡ p + suc n = omega arith in
    subst (λ k. P k wire) there (lane-at P (p + 1) wires n wire each.1 is)

-- the step is a job
abbrev pub IsJob : {J : Type 0} → BoardStep J → Type 0
IsJob (DoJob job) = Unit {0}
IsJob (LaneTakes step) = ⊥

-- a job is the builder's, who has pass 0
abbrev pub IsBuilders : {J : Type 0} → ℕ → BoardStep J → Type 0
IsBuilders pass (DoJob job) = (pass == 0) ≡ true
IsBuilders pass (LaneTakes step) = Unit {0}

abbrev pub IsBuildersEntry : {J R : Type 0} → Entry J R → Type 0
IsBuildersEntry entry = IsBuilders entry.pass entry.step

next_test : (q p : ℕ) → (suc q == (p + 1)) ≡ (q == p)
next_test q p = elim (cases_eq q p) [
  | inl same ↦ eq-eqb (suc q) (p + 1) (omega arith) ∙ sym (eq-eqb q p same)
  | inr apart ↦
      let no : (q == p) ≡ false = grind (arith, nat_tests) in
      let none : (suc q == (p + 1)) ≡ false = grind (arith, nat_tests) in
      none ∙ sym no
]

not_next : (p : ℕ) → (0 == (p + 1)) ≡ false
not_next p = grind (arith, nat_tests)

module _ {J : Type 0} (count : ℕ) where
  -- what is known of an entry: its pass, and the steps that the passes own
  abbrev Owns : ℕ → BoardStep J → Type 0
  Owns pass step = (pass ≤ count) × ((q : ℕ) → q < count → (pass == (q + 1)) ≡ true → is_to q step ≡ true) × ((pass == 0) ≡ true → IsJob step)

  alike_step : (pass : ℕ) (step : BoardStep J) → Owns pass step → (p : ℕ) → (pass == (p + 1)) ≡ is_to p step
  alike_step zero (DoJob job) (few, own, jobs) p = not_next p
  alike_step zero (LaneTakes step) (few, own, jobs) p = absurd (jobs (eq-eqb 0 0 refl))
  alike_step (suc q) (DoJob job) (few, own, jobs) p =
      let never : false ≡ true = own q (omega arith) (eq-eqb (suc q) (q + 1) (omega arith)) in absurd cc
  alike_step (suc q) (LaneTakes (Next other)) (few, own, jobs) p =
      let same : other ≡ q = eqb-true other q (own q (omega arith) (eq-eqb (suc q) (q + 1) (omega arith))) in
      next_test q p ∙ ap (λ (k : ℕ). k == p) (sym same)
  alike_step (suc q) (LaneTakes (Lost other session)) (few, own, jobs) p =
      let same : other ≡ q = eqb-true other q (own q (omega arith) (eq-eqb (suc q) (q + 1) (omega arith))) in
      next_test q p ∙ ap (λ (k : ℕ). k == p) (sym same)

  builders_step : (pass : ℕ) (step : BoardStep J) → Owns pass step → IsBuilders pass step
  builders_step zero (DoJob job) (few, own, jobs) = eq-eqb 0 0 refl
  builders_step (suc q) (DoJob job) (few, own, jobs) =
      let never : false ≡ true = own q (omega arith) (eq-eqb (suc q) (q + 1) (omega arith)) in absurd cc
  builders_step pass (LaneTakes step) owns = tt

module _ {Opening State Job Said : Type 0} (rules : Rules Opening State Job Said) (speech : Speech Opening State Job Said) (opening : Opening) (history : List (Entry Job Said)) (complete : Bool) where
  -- ---- the pass of a lane

  module _ (p : ℕ) (wire : WireTold) (crewed : IsCrewed rules speech opening history complete p wire) where
    abbrev pass : Held (Entry Job Said) Opening
    pass = crewed.pass

    rest : List (Entry Job Said)
    rest = crewed.agrees.1.0

    parts : history ≡ pass.seen ++ rest
    unfolding rest
    parts = crewed.agrees.1.1

    -- nothing behind what it has seen is the pass's
    none_more : filter (of_pass pass.number) rest ≡ []
    none_more =
        append_cancel_left (filter (of_pass pass.number) pass.seen) (filter (of_pass pass.number) rest) []
        (sym (filter-append (of_pass pass.number) pass.seen rest)
        ∙ (ap (filter (of_pass pass.number)) (sym parts) ∙ (crewed.agrees.2 ∙ sym (append-nil (filter (of_pass pass.number) pass.seen)))))

    -- its entries are steps to its peer
    pub own-steps : Each (λ entry. (entry.pass == (p + 1)) ≡ true → to_peer p entry ≡ true) history
    own-steps =
        let more : Each (λ entry. of_pass pass.number entry ≡ true → to_peer p entry ≡ true) rest =
        each-so (λ entry. of_pass pass.number entry ≡ false) (λ entry. of_pass pass.number entry ≡ true → to_peer p entry ≡ true) (λ entry no yes. absurd cc) rest (none-passes (of_pass pass.number) rest none_more)
        in
        let all = each-join (λ entry. of_pass pass.number entry ≡ true → to_peer p entry ≡ true) pass.seen rest crewed.kept.own more in
        subst (λ k. Each (λ entry. (entry.pass == k) ≡ true → to_peer p entry ≡ true) history) crewed.number
        (subst (λ (h : List (Entry Job Said)). Each (λ entry. of_pass pass.number entry ≡ true → to_peer p entry ≡ true) h) (sym parts) all)

    -- and what it was handed is what they tell
    pub pass-told : pass_deeds rules pass ≡ deeds rules rules.handed (of_pass (p + 1)) opening history
    pass-told =
        ap (λ (root : Option Opening). deeds_at rules root pass.number pass.seen) crewed.agrees.0
        ∙ (sym (append-nil (deeds rules rules.handed (of_pass pass.number) opening pass.seen))
        ∙ (ap (λ (ds : List (Deed (List ℕ))). deeds rules rules.handed (of_pass pass.number) opening pass.seen ++ ds)
        (sym (deeds_from-others rules rules.handed (of_pass pass.number) (replay_from rules (rules.start opening) pass.seen) rest none_more))
        ∙ (sym (deeds_from-append rules rules.handed (of_pass pass.number) (rules.start opening) pass.seen rest)
        ∙ (ap (λ (h : List (Entry Job Said)). deeds rules rules.handed (of_pass pass.number) opening h) (sym parts)
        ∙ ap (λ (k : ℕ). deeds rules rules.handed (of_pass k) opening history) crewed.number))))

  -- ---- all of them

  module _ (wires : List WireTold) (crew : EachLaneFrom (IsCrewed rules speech opening history complete) 0 wires) (owned : Each (λ (entry : Entry Job Said). entry.pass ≤ length wires) history)
      (jobs : Each (λ (entry : Entry Job Said). (entry.pass == 0) ≡ true → IsJob entry.step) history) where
    pub crewed-at : (p : ℕ) (wire : WireTold) → slice_get wires p ≡ Some wire → IsCrewed rules speech opening history complete p wire
    crewed-at p wire is =
        let here : 0 + p ≡ p = omega arith in
        subst (λ k. IsCrewed rules speech opening history complete k wire) here (lane-at (IsCrewed rules speech opening history complete) 0 wires p wire crew is)

    -- the steps that one pass owns
    abbrev OwnsAt : ℕ → Entry Job Said → Type 0
    OwnsAt q entry = q < length wires → (entry.pass == (q + 1)) ≡ true → is_to q entry.step ≡ true

    own-at : (q : ℕ) → Each (OwnsAt q) history
    own-at q = elim (cases_lt q (length wires)) [
      | inl less ↦
          let found = get-there wires q less in
          each-so (λ entry. (entry.pass == (q + 1)) ≡ true → to_peer q entry ≡ true) (OwnsAt q) (λ entry own _. own) history (own-steps q found.0 (crewed-at q found.0 found.1))
      | inr more ↦ each-any (OwnsAt q) (λ entry less. absurd (omega arith)) history
    ]

    owns-each : Each (λ (entry : Entry Job Said). Owns (length wires) entry.pass entry.step) history
    owns-each =
        each-with (λ (entry : Entry Job Said). entry.pass ≤ length wires)
        (λ (entry : Entry Job Said). ((q : ℕ) → OwnsAt q entry) × ((entry.pass == 0) ≡ true → IsJob entry.step))
        (λ (entry : Entry Job Said). Owns (length wires) entry.pass entry.step) (λ entry few own. (few, own.0, own.1)) history owned
        (each-with (λ (entry : Entry Job Said). (q : ℕ) → OwnsAt q entry) (λ (entry : Entry Job Said). (entry.pass == 0) ≡ true → IsJob entry.step)
        (λ (entry : Entry Job Said). ((q : ℕ) → OwnsAt q entry) × ((entry.pass == 0) ≡ true → IsJob entry.step)) (λ entry own job. (own, job)) history (each-all OwnsAt history own-at) jobs)

    -- each job is the builder's
    pub builders-each : Each (λ (entry : Entry Job Said). IsBuildersEntry entry) history
    builders-each =
        each-so (λ (entry : Entry Job Said). Owns (length wires) entry.pass entry.step) (λ (entry : Entry Job Said). IsBuildersEntry entry) (λ entry owns. builders_step (length wires) entry.pass entry.step owns) history owns-each

    alike-each : (p : ℕ) → Each (λ (entry : Entry Job Said). of_pass (p + 1) entry ≡ to_peer p entry) history
    alike-each p =
        each-so (λ (entry : Entry Job Said). Owns (length wires) entry.pass entry.step) (λ (entry : Entry Job Said). of_pass (p + 1) entry ≡ to_peer p entry)
        (λ entry owns. alike_step (length wires) entry.pass entry.step owns p) history owns-each

    -- What a pass was handed is what the history tells of its peer.
    pub pass-deeds : (p : ℕ) (wire : WireTold) (is : slice_get wires p ≡ Some wire) → pass_deeds rules (crewed-at p wire is).pass ≡ deeds rules rules.handed (to_peer p) opening history
    pass-deeds p wire is =
        pass-told p wire (crewed-at p wire is)
        ∙ deeds_from-alike rules rules.handed (of_pass (p + 1)) (to_peer p) (rules.start opening) history (alike-each p)
