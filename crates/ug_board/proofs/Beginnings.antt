-- Sessions that begin, counted along a legal history.
use Rattle.std.proofs.Common.{◌≡◌, ℕ, ◌+◌, ◌≤◌, Bool, true, false, List, [], ◌∷◌, ◌++◌, refl, sym, ap, subst, arith, inl, inr, zero-add}
use Rattle.std.proofs.lemmas.Bool.Decides.{eqb_tells}
use Rattle.std.proofs.lemmas.Bool.{eqb-true, eq-eqb}
use Rattle.std.specs.Prelude.{◌==◌}
use Rattle.ug_board.specs.declared.steps.BoardStep.{BoardStep}
use Rattle.ug_board.specs.declared.steps.BoardStep.TheVariants.{Job as DoJob, Lane as LaneTakes}
use Rattle.ug_board.specs.declared.steps.BoardSaid.{BoardSaid}
use Rattle.ug_board.specs.declared.steps.BoardSaid.TheVariants.{Job as JobSaid, Lane as LaneGot}
use Rattle.ug_board.specs.declared.steps.LaneStep.TheVariants.{Next, Lost}
use Rattle.ug_board.specs.declared.steps.LaneSaid.{LaneSaid}
use Rattle.ug_board.specs.declared.steps.LaneSaid.TheVariants.{Begun, Hand, Idle, Stop, Noted}
use Rattle.ug_board.specs.Entry.{Entry}
use Rattle.ug_board.specs.Rules.{Rules, IsMachine, IsNext}
use Rattle.ug_board.specs.History.{IsLegalStep, IsLegalFrom, after_step, replay_from}
use Rattle.ug_board.specs.Deeds.{Deed, Begins, Hands, Loses, Each, when, is_to, to_peer, lane_deeds, step_deeds, deeds_from, begins, IsInTurn}

module _ {Opening State Job Said X : Type 0} (rules : Rules Opening State Job Said) (told : ℕ → State → X) (machine : IsMachine rules) where
  -- what a lane's question tells is what becomes of the sessions begun
  next_tells :
      (other peer : ℕ) (said : LaneSaid) (old new : State) → IsNext rules other old said new → other ≡ peer
      → begins (lane_deeds told (Next other) said old) + rules.begun peer old ≡ rules.begun peer new
  next_tells other peer (Begun session) old new is same =
      let rises : rules.begun peer new ≡ rules.begun peer old + 1 = rw same at is.rises in omega arith
  next_tells other peer (Hand session made len) old new is same = let kept = is.alike peer in omega arith
  next_tells other peer Idle old new is same = let kept = ap (λ s. rules.begun peer s) is in omega arith
  next_tells other peer Stop old new is same = let kept = ap (λ s. rules.begun peer s) is in omega arith
  next_tells other peer Noted old new is same = absurd is

  -- no step takes a session back
  next_keeps :
      (other peer : ℕ) (said : LaneSaid) (old new : State) → IsNext rules other old said new
      → rules.begun peer old ≤ rules.begun peer new
  next_keeps other peer (Begun session) old new is =
      elim (eqb_tells other peer) [
        | inl here ↦ let rises : rules.begun peer new ≡ rules.begun peer old + 1 = rw here.1 at is.rises in omega arith
        | inr apart ↦ let kept = is.others peer (λ e. apart.1 (sym e)) in omega arith
      ]
  next_keeps other peer (Hand session made len) old new is = let kept = is.alike peer in omega arith
  next_keeps other peer Idle old new is = let kept = ap (λ s. rules.begun peer s) is in omega arith
  next_keeps other peer Stop old new is = let kept = ap (λ s. rules.begun peer s) is in omega arith
  next_keeps other peer Noted old new is = absurd is

  -- a legal step that is a lane's of this peer tells what becomes of its sessions
  step_tells :
      (peer : ℕ) (step : BoardStep Job) (said : BoardSaid Said) (state : State)
      → IsLegalStep rules step said state → is_to peer step ≡ true
      → begins (step_deeds told step said state) + rules.begun peer state ≡ rules.begun peer (after_step rules step state)
  step_tells peer (DoJob job) said state legal to = cc
  step_tells peer (LaneTakes (Next other)) (LaneGot said) state legal to =
      rw legal.1 (next_tells other peer (rules.lane_reply (Next other) state) state (rules.after_lane (Next other) state) (machine.next other state) (eqb-true other peer to))
  step_tells peer (LaneTakes (Lost other session)) (LaneGot said) state legal to =
      let kept = machine.losses_begin_none other session state legal.0 peer in omega arith
  step_tells peer (LaneTakes (Next other)) (JobSaid said) state legal to = absurd legal
  step_tells peer (LaneTakes (Lost other session)) (JobSaid said) state legal to = absurd legal

  -- no legal step takes a session back
  step_keeps :
      (peer : ℕ) (step : BoardStep Job) (said : BoardSaid Said) (state : State)
      → IsLegalStep rules step said state
      → rules.begun peer state ≤ rules.begun peer (after_step rules step state)
  step_keeps peer (DoJob job) (JobSaid said) state legal = let kept = machine.jobs_begin_none job state legal.0 peer in omega arith
  step_keeps peer (DoJob job) (LaneGot said) state legal = absurd legal
  step_keeps peer (LaneTakes (Next other)) (LaneGot said) state legal =
      next_keeps other peer (rules.lane_reply (Next other) state) state (rules.after_lane (Next other) state) (machine.next other state)
  step_keeps peer (LaneTakes (Lost other session)) (LaneGot said) state legal =
      let kept = machine.losses_begin_none other session state legal.0 peer in omega arith
  step_keeps peer (LaneTakes (Next other)) (JobSaid said) state legal = absurd legal
  step_keeps peer (LaneTakes (Lost other session)) (JobSaid said) state legal = absurd legal

  pub begins-append : (old new : List (Deed X)) → begins (old ++ new) ≡ begins old + begins new
  begins-append [] new = sym (zero-add (begins new))
  begins-append (Begins session ∷ old) new = let rest = begins-append old new in omega arith
  begins-append (Hands session item ∷ old) new = begins-append old new
  begins-append (Loses session ∷ old) new = begins-append old new

  -- a chosen step of this peer tells what becomes of its sessions, another takes none back
  chosen_tells :
      (peer : ℕ) (b : Bool) (entry : Entry Job Said) (state : State)
      → IsLegalStep rules entry.step entry.said state → (b ≡ true → to_peer peer entry ≡ true)
      → begins (when b (step_deeds told entry.step entry.said state)) + rules.begun peer state ≤ rules.begun peer (after_step rules entry.step state)
  chosen_tells peer true entry state legal to = let told' = step_tells peer entry.step entry.said state legal (to refl) in omega arith
  chosen_tells peer false entry state legal to = let kept = step_keeps peer entry.step entry.said state legal in omega arith

  -- of the sessions of a peer no more are told, by some of its entries, than the state says
  pub begins-at_most :
      (peer : ℕ) (chosen : Entry Job Said → Bool) (state : State) (entries : List (Entry Job Said))
      → IsLegalFrom rules state entries
      → Each (λ entry. chosen entry ≡ true → to_peer peer entry ≡ true) entries
      → begins (deeds_from rules told chosen state entries) + rules.begun peer state ≤ rules.begun peer (replay_from rules state entries)
  begins-at_most peer chosen state [] legal to = omega arith
  begins-at_most peer chosen state (entry ∷ entries) legal to =
      let here = chosen_tells peer (chosen entry) entry state legal.0 to.0 in
      let rest = begins-at_most peer chosen (after_step rules entry.step state) entries legal.1 to.1 in
      omega (arith, begins-append (when (chosen entry) (step_deeds told entry.step entry.said state)) (deeds_from rules told chosen (after_step rules entry.step state) entries))

  IsInTurn-append :
      (begun : ℕ) (old new : List (Deed X)) → IsInTurn begun old → IsInTurn (begins old + begun) new → IsInTurn begun (old ++ new)
  IsInTurn-append begun [] new first then = subst (λ n. IsInTurn n new) (zero-add begun) then
  IsInTurn-append begun (Begins session ∷ old) new first then =
      let same : (1 + begins old) + begun ≡ begins old + (begun + 1) = omega arith in
      (first.0, IsInTurn-append (begun + 1) old new first.1 (subst (λ n. IsInTurn n new) same then))
  IsInTurn-append begun (Hands session item ∷ old) new first then = (first.0, first.1, IsInTurn-append begun old new first.2 then)
  IsInTurn-append begun (Loses session ∷ old) new first then = IsInTurn-append begun old new first then

  next_in_turn :
      (other peer : ℕ) (said : LaneSaid) (old new : State) → IsNext rules other old said new → other ≡ peer
      → IsInTurn (rules.begun peer old) (lane_deeds told (Next other) said old)
  next_in_turn other peer (Begun session) old new is same = let number : session ≡ rules.begun peer old + 1 = rw same at is.number in (number, tt)
  next_in_turn other peer (Hand session made len) old new is same = let last : session ≡ rules.begun peer old = rw same at is.last in (last, is.some, tt)
  next_in_turn other peer Idle old new is same = tt
  next_in_turn other peer Stop old new is same = tt
  next_in_turn other peer Noted old new is same = tt

  step_in_turn :
      (peer : ℕ) (step : BoardStep Job) (said : BoardSaid Said) (state : State)
      → IsLegalStep rules step said state → is_to peer step ≡ true
      → IsInTurn (rules.begun peer state) (step_deeds told step said state)
  step_in_turn peer (DoJob job) said state legal to = tt
  step_in_turn peer (LaneTakes (Next other)) (LaneGot said) state legal to =
      rw legal.1 (next_in_turn other peer (rules.lane_reply (Next other) state) state (rules.after_lane (Next other) state) (machine.next other state) (eqb-true other peer to))
  step_in_turn peer (LaneTakes (Lost other session)) (LaneGot said) state legal to = tt
  step_in_turn peer (LaneTakes (Next other)) (JobSaid said) state legal to = tt
  step_in_turn peer (LaneTakes (Lost other session)) (JobSaid said) state legal to = tt

  -- a step that isn't a lane's of this peer leaves its sessions
  next_leaves :
      (other peer : ℕ) (said : LaneSaid) (old new : State) → IsNext rules other old said new → (other == peer) ≡ false
      → rules.begun peer new ≡ rules.begun peer old
  next_leaves other peer (Begun session) old new is apart = is.others peer (λ e. let same : (other == peer) ≡ true = eq-eqb other peer (sym e) in cc)
  next_leaves other peer (Hand session made len) old new is apart = is.alike peer
  next_leaves other peer Idle old new is apart = ap (λ s. rules.begun peer s) is
  next_leaves other peer Stop old new is apart = ap (λ s. rules.begun peer s) is
  next_leaves other peer Noted old new is apart = absurd is

  step_leaves :
      (peer : ℕ) (step : BoardStep Job) (said : BoardSaid Said) (state : State)
      → IsLegalStep rules step said state → is_to peer step ≡ false
      → rules.begun peer (after_step rules step state) ≡ rules.begun peer state
  step_leaves peer (DoJob job) (JobSaid said) state legal to = machine.jobs_begin_none job state legal.0 peer
  step_leaves peer (DoJob job) (LaneGot said) state legal to = absurd legal
  step_leaves peer (LaneTakes (Next other)) (LaneGot said) state legal to =
      next_leaves other peer (rules.lane_reply (Next other) state) state (rules.after_lane (Next other) state) (machine.next other state) to
  step_leaves peer (LaneTakes (Lost other session)) (LaneGot said) state legal to = machine.losses_begin_none other session state legal.0 peer
  step_leaves peer (LaneTakes (Next other)) (JobSaid said) state legal to = absurd legal
  step_leaves peer (LaneTakes (Lost other session)) (JobSaid said) state legal to = absurd legal

  -- what a step tells of a peer, and what it makes of its sessions
  record Tells (peer : ℕ) (state after : State) (deeds : List (Deed X)) : Type 0 where
    in_turn : IsInTurn (rules.begun peer state) deeds
    counted : begins deeds + rules.begun peer state ≡ rules.begun peer after

  entry_tells :
      (b : Bool) (peer : ℕ) (entry : Entry Job Said) (state : State)
      → IsLegalStep rules entry.step entry.said state → to_peer peer entry ≡ b
      → Tells peer state (after_step rules entry.step state) (when b (step_deeds told entry.step entry.said state))
  entry_tells true peer entry state legal to =
      record { in_turn = step_in_turn peer entry.step entry.said state legal to; counted = step_tells peer entry.step entry.said state legal to }
  entry_tells false peer entry state legal to =
      let kept = step_leaves peer entry.step entry.said state legal to in record { in_turn = tt; counted = omega arith }

  -- all the entries of a peer tell its sessions one by one, and as many as the state says
  history_tells :
      (peer : ℕ) (state : State) (entries : List (Entry Job Said)) → IsLegalFrom rules state entries
      → Tells peer state (replay_from rules state entries) (deeds_from rules told (to_peer peer) state entries)
  history_tells peer state [] legal = record { in_turn = tt; counted = omega arith }
  history_tells peer state (entry ∷ entries) legal =
      let first = when (to_peer peer entry) (step_deeds told entry.step entry.said state) in
      let here = entry_tells (to_peer peer entry) peer entry state legal.0 refl in
      let rest = history_tells peer (after_step rules entry.step state) entries legal.1 in
      record {
        in_turn = IsInTurn-append (rules.begun peer state) first (deeds_from rules told (to_peer peer) (after_step rules entry.step state) entries) here.in_turn
            (subst (λ n. IsInTurn n (deeds_from rules told (to_peer peer) (after_step rules entry.step state) entries)) (sym here.counted) rest.in_turn);
        counted = let h = here.counted in let r = rest.counted in omega (arith, begins-append first (deeds_from rules told (to_peer peer) (after_step rules entry.step state) entries));
      }

  pub in_turn-all :
      (peer : ℕ) (state : State) (entries : List (Entry Job Said)) → IsLegalFrom rules state entries
      → IsInTurn (rules.begun peer state) (deeds_from rules told (to_peer peer) state entries)
  in_turn-all peer state entries legal = (history_tells peer state entries legal).in_turn

  pub begins-all :
      (peer : ℕ) (state : State) (entries : List (Entry Job Said)) → IsLegalFrom rules state entries
      → begins (deeds_from rules told (to_peer peer) state entries) + rules.begun peer state ≡ rules.begun peer (replay_from rules state entries)
  begins-all peer state entries legal = (history_tells peer state entries legal).counted
