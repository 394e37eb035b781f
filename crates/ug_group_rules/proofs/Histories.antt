-- Along each legal history what is so of peers and subgroups stays so, where the routes of each world are fine.
use Rattle.std.proofs.Common.{◌≡◌, ℕ, zero, suc, inl, inr, Bool, true, false, List, [], ◌∷◌, ◌++◌, slice_get, Option, Some, None, refl, sym, ◌∙◌, ap, subst, append_assoc, arith}
use Rattle.std.specs.Prelude.{◌&&◌, ◌==◌, nat_le, not}
use Rattle.std.specs.Option.{option_map}
use Rattle.std.proofs.lemmas.Bool.Decides.{nat_tests}
use Rattle.std.proofs.lemmas.List.{append-nil}
use Rattle.std.proofs.lemmas.Option.{slice_get-map}
use Rattle.ug_types.specs.Messages.{Message}
use Rattle.ug_board.specs.declared.steps.BoardStep.{BoardStep}
use Rattle.ug_board.specs.declared.steps.BoardStep.TheVariants.{Job as DoJob, Lane as LaneTakes}
use Rattle.ug_board.specs.declared.steps.BoardSaid.{BoardSaid}
use Rattle.ug_board.specs.declared.steps.BoardSaid.TheVariants.{Job as JobSaid, Lane as LaneGot}
use Rattle.ug_board.specs.declared.steps.LaneStep.TheVariants.{Next, Lost}
use Rattle.ug_board.specs.Entry.{Entry}
use Rattle.ug_board.specs.History.{IsLegalStep, IsLegalFrom, IsLegal, after_step, replay_from, replay}
use Rattle.ug_board.specs.Deeds.{Deed, Loses, when, is_to, to_peer, lane_deeds, step_deeds, deeds_from}
use Rattle.ug_events.specs.Events.{Happening}
use Rattle.ug_world.specs.declared.peer_state.PeerState.{PeerState}
use Rattle.ug_world.specs.World.{World}
use Rattle.ug_world.specs.After.{after}
use Rattle.ug_speaker.specs.Told.{worlds_through, step_events, events_in, worlds_of, deeds_to}
use Rattle.ug_speaker.specs.Right.{IsAmong}
use Rattle.ug_speaker.proofs.Bools.{both_so}
use Rattle.ug_speaker.proofs.ToldRight.{right-nothing}
use Rattle.ug_speaker.proofs.Counts.{IsCounted}
use Rattle.ug_speaker.specs.Counts.{is_lost_at}
use Rattle.ug_group_rules.specs.Machine.{Subgroup, Member, System, there, owes, is_so, is_full, is_pending, is_parted, may_format, must_part, may_merge, with_packet, format_of, slow_of, merge, take_event, after_next, after_loss, fresh_member, start, Job, Take, Format, Merge, Slow, Sync, Close, Said}
use Rattle.ug_group_rules.specs.Rules.{group_rules, group_speech}
use Rattle.ug_group_rules.proofs.Found.{found-so}
use Rattle.ug_group_rules.proofs.Seated.{counts_of, IsPlacedAt, IsSystem, IsFine}
use Rattle.ug_group_rules.proofs.Formatting.{system-formatted}
use Rattle.ug_group_rules.proofs.Lanes.{system-next}
use Rattle.ug_group_rules.proofs.Losing.{system-lost}
use Rattle.ug_group_rules.proofs.Merging.{system-merged}
use Rattle.ug_group_rules.proofs.Parting.{system-parted}
use Rattle.ug_group_rules.proofs.Events.{system-event}
use Rattle.ug_group_rules.proofs.WorldStays.{world-event, stands-lane}

abbrev pub GroupEntry : Type 0
GroupEntry = Entry Job Said

abbrev pub AreFine : List World → Type 0
AreFine worlds = (w : World) → IsAmong w worlds → IsFine w

-- the deeds of each peer, with those that a step tells of it
abbrev pub deeds_then : (ℕ → List (Deed Message)) → BoardStep Job → BoardSaid Said → System → ℕ → List (Deed Message)
deeds_then deeds_at step said s p = deeds_at p ++ when (is_to p step) (step_deeds group_speech.message step said s)

system_as : (worlds : List World) (ds es : ℕ → List (Deed Message)) (state : System) → ((p : ℕ) → ds p ≡ es p) → IsSystem worlds ds state → IsSystem worlds es state
system_as worlds ds es state same system = record {
  kept = system.kept;
  placed = λ p. subst (λ (d : List (Deed Message)). IsPlacedAt p worlds d state.world state.subgroups (slice_get state.world.peers p) (slice_get state.members p)) (same p) (system.placed p);
}

-- What a step leads to.
pub record Stepped (front : List World) (deeds_at : ℕ → List (Deed Message)) (state : System) (step : BoardStep Job) (said : BoardSaid Said) : Type 0 where
  pub front_then : List World
  pub worlds :
      (es : List Happening) → front ++ worlds_through state.world (step_events group_rules group_speech step ++ es) ≡ front_then ++ worlds_through (after_step group_rules step state).world es
  pub system : IsSystem (front_then ++ (after_step group_rules step state).world ∷ []) (deeds_then deeds_at step said state) (after_step group_rules step state)

module _ (front : List World) (deeds_at : ℕ → List (Deed Message)) (state : System) (system : IsSystem (front ++ state.world ∷ []) deeds_at state) where
  abbrev worlds : List World
  worlds = front ++ state.world ∷ []

  -- a step that isn't an event
  by_step : (step : BoardStep Job) (said : BoardSaid Said) (next : System) → step_events group_rules group_speech step ≡ [] → after_step group_rules step state ≡ next → next.world ≡ state.world
      → IsSystem worlds (deeds_then deeds_at step said state) next → Stepped front deeds_at state step said
  by_step step said next none is same kept =
      let world : (after_step group_rules step state).world ≡ state.world = ap (λ (s : System). s.world) is ∙ same in
      record {
        front_then = front;
        worlds = λ es. ap (λ (l : List Happening). front ++ worlds_through state.world (l ++ es)) none ∙ ap (λ (w : World). front ++ worlds_through w es) (sym world);
        system =
            subst (λ (w : World). IsSystem (front ++ w ∷ []) (deeds_then deeds_at step said state) (after_step group_rules step state)) (sym world)
            (subst (λ (s : System). IsSystem worlds (deeds_then deeds_at step said state) s) (sym is) kept);
      }

  no_deeds : (next : System) → IsSystem worlds deeds_at next → IsSystem worlds (λ p. deeds_at p ++ []) next
  no_deeds next kept = system_as worlds deeds_at (λ p. deeds_at p ++ []) next (λ p. sym (append-nil (deeds_at p))) kept

  by_event : (e : Happening) (said : Said) → Stepped front deeds_at state (DoJob (Take e)) (JobSaid said)
  by_event e said =
      let world = world-event e state in
      record {
        front_then = worlds;
        worlds = λ es. sym (append_assoc front (state.world ∷ []) (worlds_through (after state.world e) es)) ∙ ap (λ (w : World). worlds ++ worlds_through w es) (sym world);
        system =
            system_as (worlds ++ (take_event e state).world ∷ []) deeds_at (λ p. deeds_at p ++ []) (take_event e state) (λ p. sym (append-nil (deeds_at p)))
            (subst (λ (w : World). IsSystem (worlds ++ w ∷ []) deeds_at (take_event e state)) (sym world) (system-event e worlds deeds_at state system));
      }

  by_format : (g : ℕ) (said : Said) → may_format state g ≡ true → IsFine state.world → Stepped front deeds_at state (DoJob (Format g)) (JobSaid said)
  by_format g said may fine =
      let found = found-so state g owes (both_so (is_so state g owes) (not (is_full state g)) may).0 in
      by_step (DoJob (Format g)) (JobSaid said) (with_packet g found.subgroup state) refl (ap (λ (o : Option (Option Subgroup)). format_of g (there o) state) found.is) refl
      (no_deeds (with_packet g found.subgroup state) (system-formatted front state deeds_at system fine g found.subgroup found.is found.passes))

  by_merge : (g h : ℕ) (said : Said) → may_merge state g h ≡ true → Stepped front deeds_at state (DoJob (Merge g h)) (JobSaid said)
  by_merge g h said may = by_step (DoJob (Merge g h)) (JobSaid said) (merge g h state) refl refl refl (no_deeds (merge g h state) (system-merged front state deeds_at system g h may))

  abbrev parts : ℕ → Subgroup → Bool
  parts g x = is_pending x && nat_le state.world.local.slow_after x.stuck

  by_slow : (g : ℕ) (said : Said) → must_part state g ≡ true → Stepped front deeds_at state (DoJob (Slow g)) (JobSaid said)
  by_slow g said must =
      let found = found-so state g (parts g) (both_so (is_so state g (parts g)) (is_full state g && is_parted state g) must).0 in
      by_step (DoJob (Slow g)) (JobSaid said) (slow_of g (Some found.subgroup) state) refl (ap (λ (o : Option (Option Subgroup)). slow_of g (there o) state) found.is) refl
      (no_deeds (slow_of g (Some found.subgroup) state) (system-parted worlds state deeds_at system g found.subgroup found.is))

  closing : IsSystem worlds deeds_at (record state { closed = true })
  closing = record { kept = system.kept; placed = system.placed }

  pub step-job : (job : Job) (said : Said) → group_rules.legal job state ≡ true → IsFine state.world → Stepped front deeds_at state (DoJob job) (JobSaid said)
  step-job (Take e) said legal fine = by_event e said
  step-job (Format g) said legal fine = by_format g said (both_so (may_format state g) (not state.closed) legal).0 fine
  step-job (Merge g h) said legal fine = by_merge g h said (both_so (may_merge state g h) (not state.closed) legal).0
  step-job (Slow g) said legal fine = by_slow g said (both_so (must_part state g) (not state.closed) legal).0
  step-job Sync said legal fine = by_step (DoJob Sync) (JobSaid said) state refl refl refl (no_deeds state system)
  step-job Close said legal fine = by_step (DoJob Close) (JobSaid said) (record state { closed = true }) refl refl refl (no_deeds (record state { closed = true }) closing)

  pub step-any : (step : BoardStep Job) (said : BoardSaid Said) → IsLegalStep group_rules step said state → IsFine state.world → Stepped front deeds_at state step said
  step-any (DoJob job) (JobSaid said) legal fine = step-job job said legal.0 fine
  step-any (LaneTakes (Next q)) (LaneGot said) legal fine =
      by_step (LaneTakes (Next q)) (LaneGot said) (after_next q state) refl refl refl
      (system_as worlds (λ p. deeds_at p ++ (when (q == p) (lane_deeds group_speech.message (Next q) said state) ++ [])) (deeds_then deeds_at (LaneTakes (Next q)) (LaneGot said) state) (after_next q state)
      (λ p. ap (λ (l : List (Deed Message)). deeds_at p ++ l) (append-nil (when (q == p) (lane_deeds group_speech.message (Next q) said state))))
      (system-next worlds deeds_at state system q said legal.1 legal.0))
  step-any (LaneTakes (Lost q n)) (LaneGot said) legal fine =
      by_step (LaneTakes (Lost q n)) (LaneGot said) (after_loss q n state) refl refl (stands-lane (Lost q n) state).0
      (system_as worlds (λ p. deeds_at p ++ (when (q == p) (Loses n ∷ []) ++ [])) (deeds_then deeds_at (LaneTakes (Lost q n)) (LaneGot said) state) (after_loss q n state)
      (λ p. ap (λ (l : List (Deed Message)). deeds_at p ++ l) (append-nil (when (q == p) (Loses n ∷ []))))
      (system-lost worlds deeds_at state system q n legal.0))
  step-any (DoJob job) (LaneGot said) legal fine = absurd legal
  step-any (LaneTakes lane) (JobSaid said) legal fine = absurd legal

-- ---- a history

pub first-among : (w : World) (es : List Happening) (front : List World) → IsAmong w (front ++ worlds_through w es)
first-among w [] [] = inl refl
first-among w (e ∷ es) [] = inl refl
first-among w es (v ∷ front) = inr (first-among w es front)

-- Where a history leads, with what is so there of the system, and what follows is legal there.
pub record Reached (h more : List GroupEntry) (front : List World) (deeds_at : ℕ → List (Deed Message)) (state : System) : Type 0 where
  pub front_then : List World
  pub worlds :
      front ++ worlds_through state.world (events_in group_rules group_speech (h ++ more))
      ≡ front_then ++ worlds_through (replay_from group_rules state h).world (events_in group_rules group_speech more)
  pub system : IsSystem (front_then ++ (replay_from group_rules state h).world ∷ []) (λ p. deeds_at p ++ deeds_from group_rules group_speech.message (to_peer p) state h) (replay_from group_rules state h)
  pub legal : IsLegalFrom group_rules (replay_from group_rules state h) more

pub reach : (h more : List GroupEntry) (front : List World) (deeds_at : ℕ → List (Deed Message)) (state : System) → IsSystem (front ++ state.world ∷ []) deeds_at state → IsLegalFrom group_rules state (h ++ more)
    → AreFine (front ++ worlds_through state.world (events_in group_rules group_speech (h ++ more))) → Reached h more front deeds_at state
reach [] more front deeds_at state system legal fine =
    record { front_then = front; worlds = refl; system = system_as (front ++ state.world ∷ []) deeds_at (λ p. deeds_at p ++ []) state (λ p. sym (append-nil (deeds_at p))) system; legal = legal }
reach (entry ∷ h) more front deeds_at state system legal fine =
    let one = step-any front deeds_at state system entry.step entry.said legal.0 (fine state.world (first-among state.world (events_in group_rules group_speech (entry ∷ h ++ more)) front)) in
    let same = one.worlds (events_in group_rules group_speech (h ++ more)) in
    let next = after_step group_rules entry.step state in
    let rest : Reached h more one.front_then (deeds_then deeds_at entry.step entry.said state) next =
    reach h more one.front_then (deeds_then deeds_at entry.step entry.said state) next one.system legal.1 (subst (λ (ws : List World). AreFine ws) same fine)
    in
    record {
      front_then = rest.front_then;
      worlds = same ∙ rest.worlds;
      system =
          system_as (rest.front_then ++ (replay_from group_rules next h).world ∷ []) (λ p. deeds_then deeds_at entry.step entry.said state p ++ deeds_from group_rules group_speech.message (to_peer p) next h)
          (λ p. deeds_at p ++ deeds_from group_rules group_speech.message (to_peer p) state (entry ∷ h)) (replay_from group_rules next h)
          (λ p. append_assoc (deeds_at p) (when (is_to p entry.step) (step_deeds group_speech.message entry.step entry.said state)) (deeds_from group_rules group_speech.message (to_peer p) next h)) rest.system;
      legal = rest.legal;
    }

fresh_lost : (n : ℕ) → false ≡ is_lost_at (counts_of fresh_member) n
fresh_lost zero = refl
fresh_lost (suc n) = by (nat_le 1 (suc n))
  where
    by : (b : Bool) → false ≡ (b && (nat_le (suc n) 0 && true))
    by true = let none : nat_le (suc n) 0 ≡ false = grind (arith, nat_tests) in rw none refl
    by false = refl

fresh_counted : (s : PeerState) → IsCounted [] s (counts_of fresh_member)
fresh_counted s = record { begun = omega arith; numbers = refl; handed = refl; lost = fresh_lost; within = λ n is. absurd cc }

-- nobody is up
abbrev pub AreDown : World → Type 0
AreDown w = (p : ℕ) (s : PeerState) → slice_get w.peers p ≡ Some s → s.up ≡ false

placed_first : (w : World) (p : ℕ) (o : Option PeerState) → ((s : PeerState) → o ≡ Some s → s.up ≡ false) → IsPlacedAt p (w ∷ []) [] w [] o (option_map (λ (s : PeerState). fresh_member) o)
placed_first w p None down = tt
placed_first w p (Some s) down = record {
  counted = fresh_counted s;
  told = λ n. right-nothing p n s.peer (w ∷ []);
  sat = λ t at. absurd cc;
  empty = λ at. let off = down s refl in rw off refl;
}

pub system-first : (w : World) → AreDown w → IsSystem (w ∷ []) (λ p. []) (start w)
system-first w down = record {
  kept = λ g x is. absurd cc;
  placed = λ p.
      subst (λ (u : Option Member). IsPlacedAt p (w ∷ []) [] w [] (slice_get w.peers p) u) (sym (slice_get-map (λ (s : PeerState). fresh_member) w.peers p))
      (placed_first w p (slice_get w.peers p) (λ s is. down p s is));
}

pub are-systems : (opening : World) (h : List GroupEntry) → AreDown opening → IsLegal group_rules opening h → AreFine (worlds_of group_rules group_speech opening h)
    → IsSystem (worlds_of group_rules group_speech opening h) (λ p. deeds_to group_rules group_speech p opening h) (replay group_rules opening h)
are-systems opening h down legal fine =
    let all : h ++ [] ≡ h = append-nil h in
    let end =
    reach h [] [] (λ p. []) (start opening) (system-first opening down) (subst (λ (l : List GroupEntry). IsLegal group_rules opening l) (sym all) legal)
    (subst (λ (l : List GroupEntry). AreFine (worlds_of group_rules group_speech opening l)) (sym all) fine)
    in
    subst (λ (ws : List World). IsSystem ws (λ p. deeds_to group_rules group_speech p opening h) (replay group_rules opening h))
    (sym (ap (λ (l : List GroupEntry). worlds_of group_rules group_speech opening l) (sym all) ∙ end.worlds)) end.system
