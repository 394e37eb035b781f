-- A mark of `sync`: everything was told by then, and in its session just as many messages as it says.
use Rattle.std.proofs.Common.{◌≡◌, ℕ, ◌+◌, Bool, true, false, List, [], ◌∷◌, ◌++◌, slice_get, Some, Ok, refl, sym, ◌∙◌, ap, subst, arith, append_assoc}
use Rattle.std.specs.Prelude.{◌&&◌, not}
use Rattle.ug_types.specs.declared.mark.Mark.{Mark}
use Rattle.ug_board.specs.Entry.{Entry}
use Rattle.ug_board.specs.Rules.{Rules}
use Rattle.ug_board.specs.History.{replay, job_entry}
use Rattle.ug_board.proofs.Histories.{replay_from-append}
use Rattle.ug_events.specs.Events.{Saying, SaysSync}
use Rattle.ug_events.specs.Reads.{Reads}
use Rattle.ug_world.specs.declared.peer_state.PeerState.{PeerState}
use Rattle.ug_world.specs.World.{World}
use Rattle.ug_speaker.specs.Speech.{Purpose, MarksTold, Speech}
use Rattle.ug_speaker.specs.Told.{told, is_live, mark_of, marks_of_all, world_at}
use Rattle.ug_speaker.specs.Right.{IsAmong, IsToldAll}
use Rattle.ug_speaker.specs.Owes.{IsCourse, IsSpeaker, IsTimely, StaysDrained}
use Rattle.ug_speaker.specs.Story.{IsDone}
use Rattle.ug_event_loop.specs.Contents.{WireTold}
use Rattle.ug_event_loop.specs.Crew.{IsClosed}
use Rattle.ug_event_loop.proofs.Growing.{world-still}
use Rattle.ug_event_loop.proofs.StoryLines.{did-one, IsLineAt}
use Rattle.ug_event_loop.proofs.Marking.{mark-among, marks-told}
use Rattle.ug_event_loop.proofs.Runs.{builders-are, course-at}

module _ {Opening State Job Said : Type 0} (rules : Rules Opening State Job Said) (speech : Speech Opening State Job Said) (speaks : IsSpeaker rules speech)
    (opening : Opening) (lines : List (Reads Saying)) (marks : List (List Mark)) (complete : Bool) (wires : List WireTold) (history : List (Entry Job Said))
    (closed : IsClosed rules speech opening lines marks complete wires history) where
  -- a line of the run, behind a front of its history
  abbrev pub IsLine : List (Entry Job Said) → Reads Saying → List Mark → World → Type 0
  IsLine start line ms w = IsLineAt rules speech speaks.steps opening history closed.legal (builders-are rules speech speaks opening lines marks complete wires history closed) start line ms w

  -- What is so behind a `sync`, of a mark that it made.
  pub record IsSyncedAt (front : List (Entry Job Said)) (w : World) (m : Mark) : Type 0 where
    pub place : ℕ
    pub state : PeerState
    pub there : slice_get (world_at rules speech opening front).peers place ≡ Some state
    pub live : is_live rules speech place state opening front ≡ true
    pub mark : m ≡ mark_of rules speech place state opening front
    pub drained : speech.drained (replay rules opening front) ≡ true
    pub course : IsCourse rules speech opening front
    pub world : world_at rules speech opening front ≡ w

  both_so : (a b : Bool) → (a && b) ≡ true → (a ≡ true) × (b ≡ true)
  both_so true b e = (refl, e)
  both_so false b e = absurd cc

  module _ (h did later : List (Entry Job Said)) (ms : List Mark) (parts : history ≡ h ++ (did ++ later)) (done : IsDone rules speech MarksTold opening h ms did) where
    abbrev state : State
    state = replay rules opening h

    course_did : IsCourse rules speech opening (h ++ did)
    course_did = course-at rules speech speaks opening lines marks complete wires history closed (h ++ did) later (parts ∙ sym (append_assoc h did later))

    drained_before : speech.drained state ≡ true
    drained_before =
        let timely : rules.legal done.job state ≡ (speech.drained state && not (speech.closed state)) =
        subst (λ (q : Purpose). IsTimely rules speech q (rules.legal done.job state) state) done.is (speaks.steps.timely done.job state)
        in
        (both_so (speech.drained state) (not (speech.closed state)) (sym timely ∙ done.legal)).0

    replay_did : replay rules opening (h ++ did) ≡ rules.after done.job state
    replay_did = ap (λ (es : List (Entry Job Said)). replay rules opening (h ++ es)) done.entry ∙ replay_from-append rules (rules.start opening) h (job_entry rules 0 done.job state ∷ [])

    drained_behind : speech.drained (replay rules opening (h ++ did)) ≡ true
    drained_behind =
        let stays : speech.drained state ≡ true → speech.drained (rules.after done.job state) ≡ true =
        subst (λ (q : Purpose). StaysDrained rules speech q state (rules.after done.job state)) done.is (speaks.steps.drained_after_job done.job state done.legal)
        in
        subst (λ (s : State). speech.drained s ≡ true) (sym replay_did) (stays drained_before)

    world_did : world_at rules speech opening (h ++ did) ≡ world_at rules speech opening h
    world_did = world-still rules speech speaks.steps opening h did course_did.legal (did-one rules speech opening h MarksTold ms did done)

    marks_did : ms ≡ marks_of_all rules speech opening (h ++ did)
    marks_did =
        done.marks ∙ marks-told rules speech speaks.histories MarksTold opening h ms did (course-at rules speech speaks opening lines marks complete wires history closed h (did ++ later) parts) done

    synced_here : (w : World) (m : Mark) → world_at rules speech opening h ≡ w → IsAmong m ms → IsSyncedAt (h ++ did) w m
    synced_here w m world among =
        let found = mark-among rules speech (λ _. true) 0 (world_at rules speech opening (h ++ did)).peers opening (h ++ did) m (subst (λ (l : List Mark). IsAmong m l) marks_did among) in
        let same : 0 + found.place ≡ found.place = omega arith in
        record {
          place = found.place;
          state = found.state;
          there = found.there;
          live = subst (λ k. is_live rules speech k found.state opening (h ++ did) ≡ true) same found.live;
          mark = subst (λ k. m ≡ mark_of rules speech k found.state opening (h ++ did)) same found.mark;
          drained = drained_behind;
          course = course_did;
          world = world_did ∙ world;
        }

  pub synced-at : (start : List (Entry Job Said)) (ms : List Mark) (w : World) (m : Mark) (at : IsLine start (Ok SaysSync) ms w) → IsAmong m ms → IsSyncedAt ((start ++ at.more) ++ at.did) w m
  synced-at start ms w m at among = synced_here (start ++ at.more) at.did at.later ms at.parts at.does w m at.world among

  -- everything was told in that session
  pub synced-told : (front : List (Entry Job Said)) (w : World) (m : Mark) (at : IsSyncedAt front w m) → IsToldAll at.place w (told rules speech at.place at.state.sessions opening front)
  synced-told front w m at =
      subst (λ (v : World). IsToldAll at.place v (told rules speech at.place at.state.sessions opening front)) at.world
      (speaks.histories.all_told opening front at.place at.state at.course at.there at.drained at.live)
