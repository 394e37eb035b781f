-- The marks of the lines of a closed run.
use Rattle.std.proofs.Common.{◌≡◌, ℕ, suc, ◌+◌, ◌<◌, inl, inr, Bool, true, false, List, [], ◌∷◌, ◌++◌, length, slice_get, Option, Some, None, Ok, Err, refl, sym, ◌∙◌, ap, subst, arith, append_assoc}
use Rattle.std.specs.Prelude.{◌&&◌, not}
use Rattle.ug_types.specs.declared.mark.Mark.{Mark}
use Rattle.ug_board.specs.Entry.{Entry}
use Rattle.ug_board.specs.Rules.{Rules}
use Rattle.ug_board.specs.History.{replay, job_entry}
use Rattle.ug_board.specs.Deeds.{when}
use Rattle.ug_events.specs.Events.{Happening, Saying, SaysNothing, SaysSync, Says}
use Rattle.ug_events.specs.Reads.{Reads}
use Rattle.ug_world.specs.declared.peer_state.PeerState.{PeerState}
use Rattle.ug_world.specs.World.{World}
use Rattle.ug_world.specs.Verdicts.{verdict}
use Rattle.ug_world.specs.Touches.{is_about}
use Rattle.ug_world.specs.Worlds.{outcome, world_after as next_world}
use Rattle.ug_speaker.specs.Speech.{Purpose, TakesEvent, MarksTold, Speech, is_request}
use Rattle.ug_speaker.specs.Told.{is_lost, is_live, mark_of, marks_from, world_at}
use Rattle.ug_speaker.specs.Right.{IsAmong}
use Rattle.ug_speaker.specs.Owes.{IsCourse, IsSpeaker, HistoriesRight, TellsMarks}
use Rattle.ug_event_loop.specs.Marks.{asks_by, asks_mark, IsMarkOf, HasMarkOr, AreMarksFrom, AreMarksOf, AreMarks}
use Rattle.ug_speaker.specs.Story.{IsDone, IsNothing, DoesEvent, Does, IsStory}
use Rattle.ug_event_loop.specs.Contents.{WireTold}
use Rattle.ug_event_loop.specs.Crew.{IsClosed}
use Rattle.ug_event_loop.proofs.Lists.{get-there}
use Rattle.ug_event_loop.proofs.Growth.{lost-stays}
use Rattle.ug_event_loop.proofs.StoryLines.{IsFirst, first-of-story}
use Rattle.ug_event_loop.proofs.Runs.{builders-are, course-at, peer-inside}

-- where no mark is asked there is none
none_asked : (asked : PeerState → Bool) (is_lost : ℕ → ℕ → Bool) (w : World) (p : ℕ) (peers : List PeerState) → ((s : PeerState) → asked s ≡ false) → AreMarksFrom asked is_lost w p peers []
none_asked asked is_lost w p [] none = refl
none_asked asked is_lost w p (s ∷ peers) none =
    subst (λ (b : Bool). HasMarkOr (b && s.up) (is_lost p s.sessions ≡ true) (IsMarkOf w p s) (AreMarksFrom asked is_lost w (p + 1) peers) []) (sym (none s)) (none_asked asked is_lost w (p + 1) peers none)

has_mark : (a u l : Bool) (excused : Type 0) (is : Mark → Type 0) (others : List Mark → Type 0) (m : Mark) (rest : List Mark) → is m → (l ≡ true → excused) → others rest
    → HasMarkOr (a && u) excused is others (when (a && (u && not l)) (m ∷ []) ++ rest)
has_mark true true true excused is others m rest this lost more = inr (lost refl, more)
has_mark true true false excused is others m rest this lost more = inl (this, more)
has_mark true false l excused is others m rest this lost more = more
has_mark false u l excused is others m rest this lost more = more

module _ {Opening State Job Said : Type 0} (rules : Rules Opening State Job Said) (speech : Speech Opening State Job Said) where
  -- the marks of these peers behind a history
  marks_are : (lost : ℕ → ℕ → Bool) (opening : Opening) (h : List (Entry Job Said)) (test : PeerState → Bool) (p : ℕ) (peers : List PeerState)
      → ((k : ℕ) → k < p + length peers → (n : ℕ) → is_lost rules speech k n opening h ≡ true → lost k n ≡ true)
      → AreMarksFrom test lost (world_at rules speech opening h) p peers (marks_from rules speech test p peers opening h)
  marks_are lost opening h test p [] told_lost = refl
  marks_are lost opening h test p (s ∷ peers) told_lost =
      has_mark (test s) s.up (is_lost rules speech p s.sessions opening h) (lost p s.sessions ≡ true) (IsMarkOf (world_at rules speech opening h) p s)
      (AreMarksFrom test lost (world_at rules speech opening h) (p + 1) peers) (mark_of rules speech p s opening h) (marks_from rules speech test (p + 1) peers opening h)
      (record { version = refl; peer = refl; session = refl }) (told_lost p (omega arith) s.sessions)
      (marks_are lost opening h test (p + 1) peers (λ k less. told_lost k (omega arith)))

  -- a mark among those of these peers
  pub record IsMarkAmong (test : PeerState → Bool) (p : ℕ) (peers : List PeerState) (opening : Opening) (h : List (Entry Job Said)) (m : Mark) : Type 0 where
    pub place : ℕ
    pub state : PeerState
    pub there : slice_get peers place ≡ Some state
    pub passes : test state ≡ true
    pub live : is_live rules speech (p + place) state opening h ≡ true
    pub mark : m ≡ mark_of rules speech (p + place) state opening h

  among_next : (test : PeerState → Bool) (p : ℕ) (s : PeerState) (peers : List PeerState) (opening : Opening) (h : List (Entry Job Said)) (m : Mark) → IsMarkAmong test (p + 1) peers opening h m → IsMarkAmong test p (s ∷ peers) opening h m
  among_next test p s peers opening h m found =
      let same : p + 1 + found.place ≡ p + suc found.place = omega arith in
      record {
        place = suc found.place;
        state = found.state;
        there = found.there;
        passes = found.passes;
        live = subst (λ k. is_live rules speech k found.state opening h ≡ true) same found.live;
        mark = subst (λ k. m ≡ mark_of rules speech k found.state opening h) same found.mark;
      }

  both_so : (a b : Bool) → (a && b) ≡ true → (a ≡ true) × (b ≡ true)
  both_so true b e = (refl, e)
  both_so false b e = absurd cc

  among_by : (b : Bool) (test : PeerState → Bool) (p : ℕ) (s : PeerState) (peers : List PeerState) (opening : Opening) (h : List (Entry Job Said)) (m : Mark) → (test s && is_live rules speech p s opening h) ≡ b
      → (IsAmong m (marks_from rules speech test (p + 1) peers opening h) → IsMarkAmong test (p + 1) peers opening h m)
      → IsAmong m (when b (mark_of rules speech p s opening h ∷ []) ++ marks_from rules speech test (p + 1) peers opening h) → IsMarkAmong test p (s ∷ peers) opening h m
  among_by true test p s peers opening h m is rest among =
      elim among [
        | inl here ↦
            let same : p ≡ p + 0 = omega arith in
            let parts = both_so (test s) (is_live rules speech p s opening h) is in
            record {
              place = 0;
              state = s;
              there = refl;
              passes = parts.0;
              live = subst (λ k. is_live rules speech k s opening h ≡ true) same parts.1;
              mark = subst (λ k. m ≡ mark_of rules speech k s opening h) same here;
            }
        | inr there ↦ among_next test p s peers opening h m (rest there)
      ]
  among_by false test p s peers opening h m is rest among = among_next test p s peers opening h m (rest among)

  pub mark-among : (test : PeerState → Bool) (p : ℕ) (peers : List PeerState) (opening : Opening) (h : List (Entry Job Said)) (m : Mark) → IsAmong m (marks_from rules speech test p peers opening h) → IsMarkAmong test p peers opening h m
  mark-among test p [] opening h m among = absurd among
  mark-among test p (s ∷ peers) opening h m among =
      among_by (test s && is_live rules speech p s opening h) test p s peers opening h m refl (λ there. mark-among test (p + 1) peers opening h m there) among

  -- the marks that a job told
  pub marks-told : (histories : HistoriesRight rules speech) (purpose : Purpose) (opening : Opening) (h : List (Entry Job Said)) (ms : List Mark) (did : List (Entry Job Said)) → IsCourse rules speech opening h
      → (done : IsDone rules speech purpose opening h ms did) → TellsMarks rules speech purpose (rules.reply done.job (replay rules opening h)) opening (h ++ did)
  marks-told histories purpose opening h ms did course done =
      subst (λ (es : List (Entry Job Said)). TellsMarks rules speech purpose (rules.reply done.job (replay rules opening h)) opening (h ++ es)) (sym done.entry)
      (subst (λ (q : Purpose). TellsMarks rules speech q (rules.reply done.job (replay rules opening h)) opening (h ++ job_entry rules 0 done.job (replay rules opening h) ∷ [])) done.is
      (histories.marks opening h 0 done.job course done.legal))

module _ {Opening State Job Said : Type 0} (rules : Rules Opening State Job Said) (speech : Speech Opening State Job Said) (speaks : IsSpeaker rules speech)
    (opening : Opening) (lines : List (Reads Saying)) (marks : List (List Mark)) (complete : Bool) (wires : List WireTold) (history : List (Entry Job Said))
    (closed : IsClosed rules speech opening lines marks complete wires history) (lost : ℕ → ℕ → Bool)
    (told_lost : (k : ℕ) → k < length wires → (n : ℕ) → is_lost rules speech k n opening history ≡ true → lost k n ≡ true) where
  abbrev World_at : List (Entry Job Said) → World
  World_at h = world_at rules speech opening h

  -- what is lost at a front is lost
  lost_front : (h more : List (Entry Job Said)) → history ≡ h ++ more → (k : ℕ) → k < length (World_at h).peers → (n : ℕ) → is_lost rules speech k n opening h ≡ true → lost k n ≡ true
  lost_front h more parts k less n is =
      let s = get-there (World_at h).peers k less in
      told_lost k (peer-inside rules speech speaks opening lines marks complete wires history closed h more k s.0 parts s.1) n
      (subst (λ (l : List (Entry Job Said)). is_lost rules speech k n opening l ≡ true) (sym parts) (lost-stays rules speech k n opening h more is))

  marks_behind : (h more : List (Entry Job Said)) → history ≡ h ++ more → (test : PeerState → Bool) → AreMarksFrom test lost (World_at h) 0 (World_at h).peers (marks_from rules speech test 0 (World_at h).peers opening h)
  marks_behind h more parts test = marks_are rules speech lost opening h test 0 (World_at h).peers (λ k less. lost_front h more parts k (omega arith))

  module _ (h did later : List (Entry Job Said)) (parts : history ≡ h ++ (did ++ later)) where
    parts_did : history ≡ (h ++ did) ++ later
    parts_did = parts ∙ sym (append_assoc h did later)

    course_here : IsCourse rules speech opening h
    course_here = course-at rules speech speaks opening lines marks complete wires history closed h (did ++ later) parts

    nothing_asked : (asked : PeerState → Bool) (ms : List Mark) → IsNothing rules speech ms did → ((s : PeerState) → asked s ≡ false) → AreMarksFrom asked lost (World_at (h ++ did)) 0 (World_at (h ++ did)).peers ms
    nothing_asked asked ms nothing none =
        subst (λ (l : List Mark). AreMarksFrom asked lost (World_at (h ++ did)) 0 (World_at (h ++ did)).peers l) (sym nothing.0) (none_asked asked lost (World_at (h ++ did)) 0 (World_at (h ++ did)).peers none)

    sync_marks : (ms : List Mark) → IsDone rules speech MarksTold opening h ms did → AreMarksFrom (λ _. true) lost (World_at (h ++ did)) 0 (World_at (h ++ did)).peers ms
    sync_marks ms done =
        subst (λ (l : List Mark). AreMarksFrom (λ _. true) lost (World_at (h ++ did)) 0 (World_at (h ++ did)).peers l)
        (sym (done.marks ∙ marks-told rules speech speaks.histories MarksTold opening h ms did course_here done)) (marks_behind (h ++ did) later parts_did (λ _. true))

    event_marks : (v : Option ℕ) (e : Happening) (ms : List Mark) → DoesEvent rules speech v e opening h ms did → AreMarksFrom (asks_by v e) lost (World_at (h ++ did)) 0 (World_at (h ++ did)).peers ms
    event_marks None e ms done =
        subst (λ (l : List Mark). AreMarksFrom (λ s. is_request e && is_about e s) lost (World_at (h ++ did)) 0 (World_at (h ++ did)).peers l)
        (sym (done.marks ∙ marks-told rules speech speaks.histories (TakesEvent e) opening h ms did course_here done)) (marks_behind (h ++ did) later parts_did (λ s. is_request e && is_about e s))
    event_marks (Some number) e ms nothing = nothing_asked (asks_by (Some number) e) ms nothing (λ s. refl)

    line_marks : (line : Reads Saying) (ms : List Mark) → Does rules speech line opening h ms did → AreMarksFrom (asks_mark (World_at h) line) lost (World_at (h ++ did)) 0 (World_at (h ++ did)).peers ms
    line_marks (Ok SaysNothing) ms does = nothing_asked (asks_mark (World_at h) (Ok SaysNothing)) ms does (λ s. refl)
    line_marks (Ok SaysSync) ms does = sync_marks ms does
    line_marks (Ok (Says e)) ms does = event_marks (verdict (World_at h) e) e ms does
    line_marks (Err refusal) ms does = nothing_asked (asks_mark (World_at h) (Err refusal)) ms does (λ s. refl)

  abbrev First : List (Entry Job Said) → Reads Saying → List (Reads Saying) → List Mark → List (List Mark) → Type 0
  First before line more ms marks' = IsFirst rules speech speaks.steps opening history closed.legal (builders-are rules speech speaks opening lines marks complete wires history closed) before line more ms marks'

  first_marks : (before : List (Entry Job Said)) (line : Reads Saying) (more : List (Reads Saying)) (ms : List Mark) (marks' : List (List Mark)) → First before line more ms marks' → AreMarksOf lost (World_at before) line ms
  first_marks before line more ms marks' first =
      let here = line_marks (before ++ first.quiet) first.did first.later first.parts line ms first.does in
      let next : World_at ((before ++ first.quiet) ++ first.did) ≡ next_world (World_at before) (outcome (World_at before) line) = ap World_at (append_assoc before first.quiet first.did) ∙ first.next in
      subst (λ (w : World). AreMarksFrom (asks_mark (World_at before) line) lost w 0 w.peers ms) next
      (subst (λ (w : World). AreMarksFrom (asks_mark w line) lost (World_at ((before ++ first.quiet) ++ first.did)) 0 (World_at ((before ++ first.quiet) ++ first.did)).peers ms) first.same here)

  marks_from_here : (before : List (Entry Job Said)) (more : List (Reads Saying)) (marks' : List (List Mark)) (entries : List (Entry Job Said)) → history ≡ before ++ entries
      → IsStory rules speech opening before more marks' entries → AreMarks lost (World_at before) more marks'
  marks_from_here before [] [] entries whole story = tt
  marks_from_here before [] (ms ∷ marks') entries whole story = absurd story
  marks_from_here before (line ∷ more) [] entries whole story = absurd story
  marks_from_here before (line ∷ more) (ms ∷ marks') entries whole story =
      let first : First before line more ms marks' =
      first-of-story rules speech speaks.steps opening history closed.legal (builders-are rules speech speaks opening lines marks complete wires history closed) before line more ms marks' entries whole story
      in (
        first_marks before line more ms marks' first,
        subst (λ (w : World). AreMarks lost w more marks') first.next (marks_from_here (before ++ (first.quiet ++ first.did)) more marks' first.later first.further first.rest),
      )

  -- each line has its marks
  pub marks-right : AreMarks lost (speech.first opening) lines marks
  marks-right = subst (λ (w : World). AreMarks lost w lines marks) (speaks.steps.first_world opening) (marks_from_here [] lines marks history refl closed.story)
