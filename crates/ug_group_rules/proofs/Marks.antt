-- Marks tell how much was told.
use Rattle.std.proofs.Common.{◌≡◌, ℕ, suc, ◌+◌, ◌<◌, inl, inr, Bool, true, false, List, [], ◌∷◌, ◌++◌, length, slice_get, Option, Some, None, refl, sym, ◌∙◌, ap, subst, arith}
use Rattle.std.specs.Prelude.{◌==◌, ◌&&◌, not, is_some, if◌then◌else◌}
use Rattle.std.proofs.lemmas.Bool.{eqb-true, eq-eqb}
use Rattle.std.proofs.lemmas.Bool.Decides.{nat_tests}
use Rattle.ug_types.specs.declared.mark.Mark.{Mark}
use Rattle.ug_types.specs.Messages.{Message}
use Rattle.ug_board.specs.History.{after_step, replay_from, replay, job_entry}
use Rattle.ug_board.specs.Deeds.{Deed, when, to_peer}
use Rattle.ug_board.specs.Sessions.{sessions_of}
use Rattle.ug_board.proofs.Growth.{deeds_from-append}
use Rattle.ug_world.specs.declared.peer_state.PeerState.{PeerState}
use Rattle.ug_world.specs.World.{World, key_in}
use Rattle.ug_world.specs.Touches.{is_about}
use Rattle.ug_speaker.specs.Speech.{is_request}
use Rattle.ug_speaker.specs.Told.{handed_in, events_in, worlds_of, deeds_to, told, is_lost, mark_of, marks_from}
use Rattle.ug_speaker.specs.Right.{IsAmong}
use Rattle.ug_speaker.specs.Owes.{IsCourse, TellsMarks}
use Rattle.ug_speaker.proofs.Counts.{IsCounted, nothing-in}
use Rattle.ug_speaker.proofs.Pasts.{through-last}
use Rattle.ug_group_rules.specs.Machine.{Seat, Member, System, seat_of, seat_at, handed_now, mark_at, marks_at, take_event, Job, Take, Format, Merge, Slow, Sync, Close}
use Rattle.ug_group_rules.specs.Rules.{group_rules, group_speech, purpose}
use Rattle.ug_group_rules.proofs.Seated.{counts_of, is_live, IsPlaced, IsPlacedAt, IsSystem, IsFine}
use Rattle.ug_group_rules.proofs.WorldStays.{world-event}
use Rattle.ug_group_rules.proofs.Histories.{GroupEntry, step-job}
use Rattle.ug_group_rules.proofs.Courses.{world-led, fine, system}

-- what a member's counts say of how much was told is what was told
told_length : (deeds : List (Deed Message)) (s : PeerState) (m : Member) → IsCounted deeds s (counts_of m) → length (handed_in s.sessions (sessions_of deeds)) ≡ handed_now s.sessions (Some m)
told_length deeds s m counted = by (m.begun == s.sessions) refl
  where
    by : (b : Bool) → (m.begun == s.sessions) ≡ b → length (handed_in s.sessions (sessions_of deeds)) ≡ (if b then m.handed else 0)
    by true e = ap (λ k. length (handed_in k (sessions_of deeds))) (sym (eqb-true m.begun s.sessions e)) ∙ sym counted.handed
    by false e =
        let few = counted.begun in
        let apart : m.begun ≡ s.sessions → ⊥ = λ same. (let yes : (m.begun == s.sessions) ≡ true = eq-eqb m.begun s.sessions same in absurd cc) in
        let less : m.begun < s.sessions = grind (arith, nat_tests) in
        ap length (nothing-in s.sessions 0 m.begun (sessions_of deeds) counted.numbers less)

module _ (opening : World) (h : List GroupEntry) (worlds : List World) (system : IsSystem worlds (λ p. deeds_to group_rules group_speech p opening h) (replay group_rules opening h)) where
  abbrev here : System
  here = replay group_rules opening h

  abbrev deeds_at : ℕ → List (Deed Message)
  deeds_at p = deeds_to group_rules group_speech p opening h

  -- who is live sits somewhere, and nobody else
  seated_live : (p : ℕ) (s : PeerState) (m : Member) → IsPlaced p worlds (deeds_at p) s m here.subgroups (key_in here.world s) → is_live s m ≡ is_some m.seat
  seated_live p s m placed = by m.seat refl
    where
      by : (o : Option Seat) → m.seat ≡ o → is_live s m ≡ is_some o
      by None at = placed.empty at
      by (Some t) at = (placed.sat t at).live

  one_mark : (test : Bool) (p : ℕ) (s : PeerState) (o : Option PeerState) (u : Option Member) → o ≡ Some s → slice_get here.members p ≡ u → IsPlacedAt p worlds (deeds_at p) here.world here.subgroups o u
      → when (test && (s.up && not (is_lost group_rules group_speech p s.sessions opening h))) (mark_of group_rules group_speech p s opening h ∷ [])
      ≡ when (test && is_some (seat_at p here)) (mark_at p s here ∷ [])
  one_mark test p s (Some x) (Some m) is at placed =
      let here_placed : IsPlaced p worlds (deeds_at p) s m here.subgroups (key_in here.world s) =
      (let same : x ≡ s = cc in subst (λ (y : PeerState). IsPlaced p worlds (deeds_at p) y m here.subgroups (key_in here.world y)) same placed)
      in
      let counted = here_placed.counted in
      let live : (s.up && not (is_lost group_rules group_speech p s.sessions opening h)) ≡ is_some (seat_at p here) =
      ap (λ (b : Bool). s.up && not b) (counted.lost s.sessions) ∙ seated_live p s m here_placed ∙ sym (ap (λ (v : Option Member). is_some (seat_of v)) at)
      in
      let handed : length (told group_rules group_speech p s.sessions opening h) ≡ handed_now s.sessions (slice_get here.members p) = told_length (deeds_at p) s m counted ∙ sym (ap (handed_now s.sessions) at) in
      λ i. when (test && live i) (record { version = here.world.version; peer = p; session = s.sessions; handed = handed i } ∷ [])
  one_mark test p s (Some x) None is at placed = absurd placed
  one_mark test p s None u is at placed = absurd cc

  marks_alike : (test : PeerState → Bool) (p : ℕ) (peers : List PeerState) → ((q : ℕ) (s : PeerState) → slice_get peers q ≡ Some s → slice_get here.world.peers (p + q) ≡ Some s)
      → marks_from group_rules group_speech test p peers opening h ≡ marks_at test p peers here
  marks_alike test p [] are = refl
  marks_alike test p (s ∷ peers) are =
      let first : slice_get here.world.peers p ≡ Some s = (let same : p + 0 ≡ p = omega arith in subst (λ k. slice_get here.world.peers k ≡ Some s) same (are 0 s refl)) in
      ap (λ (ms : List Mark). ms ++ marks_from group_rules group_speech test (p + 1) peers opening h) (one_mark (test s) p s (slice_get here.world.peers p) (slice_get here.members p) first refl (system.placed p))
      ∙ ap (λ (ms : List Mark). when (test s && is_some (seat_at p here)) (mark_at p s here ∷ []) ++ ms)
      (marks_alike test (p + 1) peers (λ q t is. (let same : p + suc q ≡ p + 1 + q = omega arith in subst (λ k. slice_get here.world.peers k ≡ Some t) same (are (suc q) t is))))

  marks_all : (test : PeerState → Bool) → marks_at test 0 here.world.peers here ≡ marks_from group_rules group_speech test 0 here.world.peers opening h
  marks_all test = sym (marks_alike test 0 here.world.peers (λ q s is. (let same : 0 + q ≡ q = omega arith in subst (λ k. slice_get here.world.peers k ≡ Some s) (sym same) is)))

-- ---- behind a job

pub replay-push : (s : System) (h : List GroupEntry) (entry : GroupEntry) → replay_from group_rules s (h ++ entry ∷ []) ≡ after_step group_rules entry.step (replay_from group_rules s h)
replay-push s [] entry = refl
replay-push s (first ∷ h) entry = replay-push (after_step group_rules first.step s) h entry

among_end : (w : World) (front : List World) → IsAmong w (front ++ w ∷ [])
among_end w [] = inl refl
among_end w (v ∷ front) = inr (among_end w front)

module _ (opening : World) (h : List GroupEntry) (course : IsCourse group_rules group_speech opening h) (pass : ℕ) (job : Job) (legal : group_rules.legal job (replay group_rules opening h) ≡ true) where
  abbrev state : System
  state = replay group_rules opening h

  abbrev later : List GroupEntry
  later = h ++ job_entry group_rules pass job state ∷ []

  pub replayed : replay group_rules opening later ≡ group_rules.after job state
  replayed = replay-push (group_rules.start opening) h (job_entry group_rules pass job state)

  pub nothing-told : (p : ℕ) → deeds_to group_rules group_speech p opening later ≡ deeds_to group_rules group_speech p opening h ++ []
  nothing-told p = deeds_from-append group_rules group_speech.message (to_peer p) (group_rules.start opening) h (job_entry group_rules pass job state ∷ [])

  pub system-later : (worlds : List World) × IsSystem worlds (λ p. deeds_to group_rules group_speech p opening later) (replay group_rules opening later)
  system-later =
      let end = through-last opening (events_in group_rules group_speech h) in
      let same : worlds_of group_rules group_speech opening h ≡ end.0 ++ state.world ∷ [] = end.1 ∙ ap (λ (w : World). end.0 ++ w ∷ []) (sym (world-led opening h)) in
      let good : IsFine state.world = fine opening h course state.world (subst (λ (ws : List World). IsAmong state.world ws) (sym same) (among_end state.world end.0)) in
      let one =
      step-job end.0 (λ p. deeds_to group_rules group_speech p opening h) state (subst (λ (ws : List World). IsSystem ws (λ p. deeds_to group_rules group_speech p opening h) state) same (system opening h course)) job
      (group_rules.reply job state) legal good
      in
      let worlds = one.front_then ++ (group_rules.after job state).world ∷ [] in (
        worlds,
        subst (λ (s : System). IsSystem worlds (λ p. deeds_to group_rules group_speech p opening later) s) (sym replayed)
            (record {
              kept = one.system.kept;
              placed = λ p.
                  subst
                  (λ (ds : List (Deed Message)). IsPlacedAt p worlds ds (group_rules.after job state).world (group_rules.after job state).subgroups (slice_get (group_rules.after job state).world.peers p)
                  (slice_get (group_rules.after job state).members p)) (sym (nothing-told p)) (one.system.placed p);
            }),
      )

  marks_then : (test : PeerState → Bool)
      → marks_at test 0 (group_rules.after job state).world.peers (group_rules.after job state) ≡ marks_from group_rules group_speech test 0 (replay group_rules opening later).world.peers opening later
  marks_then test = ap (λ (s : System). marks_at test 0 s.world.peers s) (sym replayed) ∙ marks_all opening later system-later.0 system-later.1 test

pub marks-told : (opening : World) (h : List GroupEntry) (pass : ℕ) (job : Job) → IsCourse group_rules group_speech opening h → group_rules.legal job (replay group_rules opening h) ≡ true
    → TellsMarks group_rules group_speech (purpose job) (group_rules.reply job (replay group_rules opening h)) opening (h ++ job_entry group_rules pass job (replay group_rules opening h) ∷ [])
marks-told opening h pass (Take e) course legal =
    let state = replay group_rules opening h in
    let test : PeerState → Bool = λ s. is_request e && is_about e s in
    ap (λ (w : World). marks_at test 0 w.peers (take_event e state)) (sym (world-event e state)) ∙ marks_then opening h course pass (Take e) legal test
marks-told opening h pass (Format g) course legal = refl
marks-told opening h pass (Merge g k) course legal = refl
marks-told opening h pass (Slow g) course legal = refl
marks-told opening h pass Sync course legal = marks_then opening h course pass Sync legal (λ s. true)
marks-told opening h pass Close course legal = refl
