-- A mark of any line: it says how much its peer was told by then.
use Rattle.std.proofs.Common.{◌≡◌, ℕ, zero, suc, ◌+◌, ◌≤◌, Bool, List, [], ◌∷◌, ◌++◌, length, slice_get, Option, Some, None, Ok, Err, refl, sym, ◌∙◌, ap, subst, arith, length-append}
use Rattle.ug_types.specs.declared.mark.Mark.{Mark}
use Rattle.ug_types.specs.Messages.{Message}
use Rattle.ug_board.specs.Entry.{Entry}
use Rattle.ug_board.specs.Rules.{Rules, IsMachine}
use Rattle.ug_board.specs.History.{IsLegal, replay}
use Rattle.ug_board.specs.Deeds.{Deed, begins, deeds_from, to_peer}
use Rattle.ug_board.proofs.Beginnings.{begins-all, begins-append}
use Rattle.ug_events.specs.Events.{Happening, Saying, SaysNothing, SaysSync, Says}
use Rattle.ug_events.specs.Reads.{Reads}
use Rattle.ug_world.specs.declared.peer_state.PeerState.{PeerState}
use Rattle.ug_world.specs.World.{World}
use Rattle.ug_world.specs.Verdicts.{verdict}
use Rattle.ug_speaker.specs.Speech.{Speech}
use Rattle.ug_speaker.specs.Told.{deeds_to, told, begun, mark_of, world_at}
use Rattle.ug_speaker.specs.Right.{IsAmong}
use Rattle.ug_speaker.specs.Owes.{IsSpeaker}
use Rattle.ug_speaker.specs.Story.{DoesEvent, IsStory}
use Rattle.ug_event_loop.specs.Contents.{WireTold}
use Rattle.ug_event_loop.specs.Crew.{IsClosed}
use Rattle.ug_event_loop.proofs.Growing.{legal-front}
use Rattle.ug_event_loop.proofs.Growth.{deeds-further, told-grows}
use Rattle.ug_event_loop.proofs.Syncs.{IsLine, synced-at}
use Rattle.ug_event_loop.proofs.Requests.{request-mark}

module _ {Opening State Job Said : Type 0} (rules : Rules Opening State Job Said) (speech : Speech Opening State Job Said) where
  -- The mark says how much a peer was told by the end of this history.
  pub record IsMarkedAt (opening : Opening) (front : List (Entry Job Said)) (m : Mark) : Type 0 where
    pub place : ℕ
    pub state : PeerState
    pub mark : m ≡ mark_of rules speech place state opening front

  -- a line that has marks is there
  pub story-line-there : (opening : Opening) (before : List (Entry Job Said)) (lines : List (Reads Saying)) (marks : List (List Mark)) (entries : List (Entry Job Said)) (i : ℕ) (ms : List Mark)
      → IsStory rules speech opening before lines marks entries → slice_get marks i ≡ Some ms → (line : Reads Saying) × (slice_get lines i ≡ Some line)
  story-line-there opening before [] [] entries i ms story is = absurd cc
  story-line-there opening before [] (ms' ∷ marks) entries i ms story is = absurd story
  story-line-there opening before (line ∷ lines) [] entries i ms story is = absurd story
  story-line-there opening before (line ∷ lines) (ms' ∷ marks) entries zero ms story is = (line, refl)
  story-line-there opening before (line ∷ lines) (ms' ∷ marks) entries (suc i) ms (quiet, did, later, parts, between, does, rest) is =
      story-line-there opening (before ++ (quiet ++ did)) lines marks later i ms rest is

  -- ---- what grows between two marks

  pub handed-rises : (p n : ℕ) (opening : Opening) (front more : List (Entry Job Said)) → length (told rules speech p n opening front) ≤ length (told rules speech p n opening (front ++ more))
  handed-rises p n opening front more =
      let grows = told-grows rules speech p n opening front more in
      let count = ap (λ (ms : List Message). length ms) grows.1 in
      let sum = length-append (told rules speech p n opening front) grows.0 in
      omega arith

  pub marks-rise : (opening : Opening) (front more : List (Entry Job Said)) (m m' : Mark) → IsMarkedAt opening front m → IsMarkedAt opening (front ++ more) m' → m'.peer ≡ m.peer → m'.session ≡ m.session → m.handed ≤ m'.handed
  marks-rise opening front more m m' at at' peers sessions =
      let same_peer : at'.place ≡ at.place = ap (λ (n : Mark). n.peer) (sym at'.mark) ∙ (peers ∙ ap (λ (n : Mark). n.peer) at.mark) in
      let same_session : at'.state.sessions ≡ at.state.sessions = ap (λ (n : Mark). n.session) (sym at'.mark) ∙ (sessions ∙ ap (λ (n : Mark). n.session) at.mark) in
      let here : m.handed ≡ length (told rules speech at.place at.state.sessions opening front) = ap (λ (n : Mark). n.handed) at.mark in
      let there : m'.handed ≡ length (told rules speech at.place at.state.sessions opening (front ++ more)) =
      ap (λ (n : Mark). n.handed) at'.mark
      ∙ (ap (λ p. length (told rules speech p at'.state.sessions opening (front ++ more))) same_peer ∙ ap (λ n. length (told rules speech at.place n opening (front ++ more))) same_session)
      in
      let rises = handed-rises at.place at.state.sessions opening front more in
      omega arith

  -- sessions that were begun stay so
  pub begun-rises : (machine : IsMachine rules) (p : ℕ) (opening : Opening) (front more : List (Entry Job Said)) → IsLegal rules opening (front ++ more)
      → begun rules speech p opening front ≤ begun rules speech p opening (front ++ more)
  begun-rises machine p opening front more legal =
      let further = deeds_from rules speech.message (to_peer p) (replay rules opening front) more in
      let one = begins-all rules speech.message machine p (rules.start opening) front (legal-front rules (rules.start opening) front more legal) in
      let other = begins-all rules speech.message machine p (rules.start opening) (front ++ more) legal in
      let split = ap (λ (ds : List (Deed Message)). begins ds) (deeds-further rules speech p opening front more) in
      let sum = begins-append rules speech.message machine (deeds_to rules speech p opening front) further in
      omega arith

module _ {Opening State Job Said : Type 0} (rules : Rules Opening State Job Said) (speech : Speech Opening State Job Said) (speaks : IsSpeaker rules speech)
    (opening : Opening) (lines : List (Reads Saying)) (marks : List (List Mark)) (complete : Bool) (wires : List WireTold) (history : List (Entry Job Said))
    (closed : IsClosed rules speech opening lines marks complete wires history) where
  none_marked : {P : Type 0} (ms : List Mark) (m : Mark) → ms ≡ [] → IsAmong m ms → P
  none_marked ms m none among = absurd (subst (λ (l : List Mark). IsAmong m l) none among)

  event_marked : (v : Option ℕ) (h did later : List (Entry Job Said)) (e : Happening) (ms : List Mark) (m : Mark) → history ≡ h ++ (did ++ later) → DoesEvent rules speech v e opening h ms did → IsAmong m ms
      → IsMarkedAt rules speech opening (h ++ did) m
  event_marked None h did later e ms m parts done among =
      let found = request-mark rules speech speaks opening lines marks complete wires history closed h did later e ms m parts done among in
      record { place = 0 + found.place; state = found.state; mark = found.mark }
  event_marked (Some number) h did later e ms m parts nothing among = none_marked ms m nothing.0 among

  pub marked-at : (start : List (Entry Job Said)) (line : Reads Saying) (ms : List Mark) (w : World) (m : Mark) (at : IsLine rules speech speaks opening lines marks complete wires history closed start line ms w) → IsAmong m ms
      → IsMarkedAt rules speech opening ((start ++ at.more) ++ at.did) m
  marked-at start (Ok SaysNothing) ms w m at among = none_marked ms m at.does.0 among
  marked-at start (Ok SaysSync) ms w m at among =
      let found = synced-at rules speech speaks opening lines marks complete wires history closed start ms w m at among in record { place = found.place; state = found.state; mark = found.mark }
  marked-at start (Ok (Says e)) ms w m at among = event_marked (verdict (world_at rules speech opening (start ++ at.more)) e) (start ++ at.more) at.did at.later e ms m at.parts at.does among
  marked-at start (Err refusal) ms w m at among = none_marked ms m at.does.0 among
