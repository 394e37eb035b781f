-- Each step of a history keeps what a peer was announced since its request.
use Rattle.std.proofs.Common.{◌≡◌, ℕ, Bool, true, List, [], ◌∷◌, ◌++◌, slice_get, Option, Some, sym, ◌∙◌, ap, subst, append_assoc}
use Rattle.std.specs.Prelude.{◌==◌, ◌&&◌, not, nat_le}
use Rattle.std.specs.Option.{option_map}
use Rattle.std.proofs.lemmas.List.{append-nil}
use Rattle.ug_types.specs.Messages.{Message}
use Rattle.ug_board.specs.declared.steps.BoardStep.{BoardStep}
use Rattle.ug_board.specs.declared.steps.BoardStep.TheVariants.{Job as DoJob, Lane as LaneTakes}
use Rattle.ug_board.specs.declared.steps.BoardSaid.{BoardSaid}
use Rattle.ug_board.specs.declared.steps.BoardSaid.TheVariants.{Job as JobSaid, Lane as LaneGot}
use Rattle.ug_board.specs.declared.steps.LaneStep.TheVariants.{Next, Lost}
use Rattle.ug_board.specs.History.{IsLegalStep, IsLegalFrom, after_step, replay_from}
use Rattle.ug_board.specs.Deeds.{Deed, Loses, when, is_to, to_peer, lane_deeds, step_deeds, deeds_from}
use Rattle.ug_events.specs.Events.{Happening}
use Rattle.ug_world.specs.declared.peer_state.PeerState.{PeerState}
use Rattle.ug_world.specs.World.{World}
use Rattle.ug_world.specs.Touches.{is_about}
use Rattle.ug_speaker.specs.Speech.{is_request}
use Rattle.ug_speaker.specs.Told.{worlds_through, events_in}
use Rattle.ug_speaker.proofs.Bools.{both_so}
use Rattle.ug_speaker.proofs.Peers.{peer_after, peers-after}
use Rattle.ug_group_rules.specs.Machine.{Subgroup, System, there, owes, is_so, is_full, is_pending, is_parted, may_format, may_merge, must_part, format_of, slow_of, take_event, after_next, after_loss, Job, Take, Format, Merge, Slow, Sync, Close, Said}
use Rattle.ug_group_rules.specs.Rules.{group_rules, group_speech}
use Rattle.ug_group_rules.proofs.Found.{found-so}
use Rattle.ug_group_rules.proofs.Seated.{IsSystem, IsFine}
use Rattle.ug_group_rules.proofs.WorldStays.{world-event, stands-lane}
use Rattle.ug_group_rules.proofs.Histories.{GroupEntry, AreFine, deeds_then, step-any, first-among}
use Rattle.ug_group_rules.proofs.Asked.{IsAsked, asked-formatted, asked-merged, asked-parted}
use Rattle.ug_group_rules.proofs.AskedLanes.{asked-deeds, asked-next, asked-lost}
use Rattle.ug_group_rules.proofs.AskedTurns.{asked-event}

-- ---- a step

module _ (front : List World) (deeds_at : ℕ → List (Deed Message)) (state : System) (system : IsSystem (front ++ state.world ∷ []) deeds_at state) (p n handed : ℕ) (asked : IsAsked true p n handed (deeds_at p) state.world state) where
  abbrev worlds : List World
  worlds = front ++ state.world ∷ []

  abbrev Then : List (Deed Message) → System → Type 0
  Then deeds next = IsAsked true p n handed deeds next.world next

  no_deeds : (next : System) → IsAsked true p n handed (deeds_at p) next.world next → Then (deeds_at p ++ []) next
  no_deeds next kept = asked-deeds true p n handed (deeds_at p) next.world next kept (deeds_at p ++ []) (sym (append-nil (deeds_at p)))

  by_event : (e : Happening) → Then (deeds_at p) (take_event e state)
  by_event e =
      let next = peer_after e asked.peer in
      subst (λ (w : World). IsAsked true p n handed (deeds_at p) w (take_event e state)) (sym (world-event e state))
      (asked-event e worlds deeds_at state system true p n handed asked (is_request e && is_about e next) (λ s' is.
      let both : Some next ≡ Some s' = sym (peers-after e state.world p ∙ ap (option_map (peer_after e)) asked.is) ∙ is in
      let same : next ≡ s' = cc in ap (λ (s : PeerState). is_request e && is_about e s) (sym same)))

  by_format : (g : ℕ) → may_format state g ≡ true → IsFine state.world → Then (deeds_at p) (format_of g (there (slice_get state.subgroups g)) state)
  by_format g may fine =
      let found = found-so state g owes (both_so (is_so state g owes) (not (is_full state g)) may).0 in
      subst (λ (o : Option (Option Subgroup)). Then (deeds_at p) (format_of g (there o) state)) (sym found.is) (asked-formatted front state deeds_at system true p n handed asked fine g found.subgroup found.is found.passes)

  abbrev parts : ℕ → Subgroup → Bool
  parts g x = is_pending x && nat_le state.world.local.slow_after x.stuck

  by_slow : (g : ℕ) → must_part state g ≡ true → Then (deeds_at p) (slow_of g (there (slice_get state.subgroups g)) state)
  by_slow g must =
      let found = found-so state g (parts g) (both_so (is_so state g (parts g)) (is_full state g && is_parted state g) must).0 in
      subst (λ (o : Option (Option Subgroup)). Then (deeds_at p) (slow_of g (there o) state)) (sym found.is) (asked-parted front state deeds_at system true p n handed asked g found.subgroup found.is)

  asked_job : (job : Job) → group_rules.legal job state ≡ true → IsFine state.world → Then (deeds_at p) (group_rules.after job state)
  asked_job (Take e) legal fine = by_event e
  asked_job (Format g) legal fine = by_format g (both_so (may_format state g) (not state.closed) legal).0 fine
  asked_job (Merge g h) legal fine = asked-merged front state deeds_at system true p n handed asked g h (both_so (may_merge state g h) (not state.closed) legal).0
  asked_job (Slow g) legal fine = by_slow g (both_so (must_part state g) (not state.closed) legal).0
  asked_job Sync legal fine = asked
  asked_job Close legal fine = record { peer = asked.peer; member = asked.member; is = asked.is; at = asked.at; rises = asked.rises; again = asked.again }

  asked_step : (step : BoardStep Job) (said : BoardSaid Said) → IsLegalStep group_rules step said state → IsFine state.world → Then (deeds_then deeds_at step said state p) (after_step group_rules step state)
  asked_step (DoJob job) (JobSaid said) legal fine = no_deeds (group_rules.after job state) (asked_job job legal.0 fine)
  asked_step (LaneTakes (Next q)) (LaneGot said) legal fine =
      asked-deeds true p n handed _ state.world (after_next q state) (asked-next worlds deeds_at state system true p n handed asked q said legal.1 legal.0) (deeds_then deeds_at (LaneTakes (Next q)) (LaneGot said) state p)
      (ap (λ (l : List (Deed Message)). deeds_at p ++ l) (append-nil (when (q == p) (lane_deeds group_speech.message (Next q) said state))))
  asked_step (LaneTakes (Lost q k)) (LaneGot said) legal fine =
      subst (λ (w : World). IsAsked true p n handed (deeds_then deeds_at (LaneTakes (Lost q k)) (LaneGot said) state p) w (after_loss q k state)) (sym (stands-lane (Lost q k) state).0)
      (asked-deeds true p n handed _ state.world (after_loss q k state) (asked-lost worlds deeds_at state system true p n handed asked q k) (deeds_then deeds_at (LaneTakes (Lost q k)) (LaneGot said) state p)
      (ap (λ (l : List (Deed Message)). deeds_at p ++ l) (append-nil (when (q == p) (Loses k ∷ [])))))
  asked_step (DoJob job) (LaneGot said) legal fine = absurd legal
  asked_step (LaneTakes lane) (JobSaid said) legal fine = absurd legal

-- ---- what follows in a history

pub asked-along : (p n handed : ℕ) (h : List GroupEntry) (front : List World) (deeds_at : ℕ → List (Deed Message)) (state : System) → IsSystem (front ++ state.world ∷ []) deeds_at state → IsLegalFrom group_rules state h
    → AreFine (front ++ worlds_through state.world (events_in group_rules group_speech h)) → IsAsked true p n handed (deeds_at p) state.world state
    → IsAsked true p n handed (deeds_at p ++ deeds_from group_rules group_speech.message (to_peer p) state h) (replay_from group_rules state h).world (replay_from group_rules state h)
asked-along p n handed [] front deeds_at state system legal fine asked = asked-deeds true p n handed (deeds_at p) state.world state asked (deeds_at p ++ []) (sym (append-nil (deeds_at p)))
asked-along p n handed (entry ∷ h) front deeds_at state system legal fine asked =
    let good = fine state.world (first-among state.world (events_in group_rules group_speech (entry ∷ h)) front) in
    let one = step-any front deeds_at state system entry.step entry.said legal.0 good in
    let next = after_step group_rules entry.step state in
    asked-deeds true p n handed _ (replay_from group_rules next h).world (replay_from group_rules next h)
    (asked-along p n handed h one.front_then (deeds_then deeds_at entry.step entry.said state) next one.system legal.1
    (subst (λ (ws : List World). AreFine ws) (one.worlds (events_in group_rules group_speech h)) fine) (asked_step front deeds_at state system p n handed asked entry.step entry.said legal.0 good))
    (deeds_at p ++ deeds_from group_rules group_speech.message (to_peer p) state (entry ∷ h))
    (append_assoc (deeds_at p) (when (is_to p entry.step) (step_deeds group_speech.message entry.step entry.said state)) (deeds_from group_rules group_speech.message (to_peer p) next h))
