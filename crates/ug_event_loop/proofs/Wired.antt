-- One wire of a closed run, and what its sessions hold.
use Rattle.std.proofs.Common.{◌≡◌, ℕ, ◌+◌, ◌<◌, ◌≤◌, Bool, true, false, List, [], ◌∷◌, ◌++◌, length, slice_get, Option, Some, None, refl, sym, ◌∙◌, ap, subst, arith}
use Rattle.std.specs.Prelude.{◌&&◌, not}
use Rattle.std.proofs.lemmas.List.{append-nil, length-map}
use Rattle.ug_types.specs.declared.capabilities.Capabilities.{Capabilities}
use Rattle.ug_types.specs.declared.mark.Mark.{Mark}
use Rattle.ug_types.specs.Messages.{Message}
use Rattle.ug_board.specs.Entry.{Entry}
use Rattle.ug_board.specs.Rules.{Rules, IsMachine}
use Rattle.ug_board.specs.Deeds.{Deed, to_peer, deeds, losses, IsInTurn}
use Rattle.ug_board.specs.Sessions.{Session, sessions_of}
use Rattle.ug_board.proofs.Beginnings.{in_turn-all, begins-all}
use Rattle.ug_board.proofs.Folding.{length-sessions_of}
use Rattle.ug_sender.specs.Courses.{Course, HoldsAll, Holds, noted}
use Rattle.ug_sender.specs.Lanes.{pass_deeds}
use Rattle.ug_message.specs.Streams.{AreOf}
use Rattle.ug_events.specs.Events.{Saying}
use Rattle.ug_events.specs.Reads.{Reads}
use Rattle.ug_world.specs.declared.peer_state.PeerState.{PeerState}
use Rattle.ug_world.specs.World.{World}
use Rattle.ug_world.specs.Worlds.{worlds, last_world}
use Rattle.ug_speaker.specs.Speech.{Speech, capabilities_of}
use Rattle.ug_speaker.specs.Told.{deeds_to, told, is_lost, begun, world_at, worlds_of}
use Rattle.ug_speaker.specs.Right.{IsToldRight, IsToldAll}
use Rattle.ug_speaker.specs.Owes.{IsCourse, IsSpeaker}
use Rattle.ug_event_loop.specs.Contents.{WireTold, Content, EachSession, has_rest, has_number}
use Rattle.ug_event_loop.specs.Kept.{IsSent, IsSessionRight, IsSessionWhole, AreCounted, IsWireRight}
use Rattle.ug_event_loop.specs.Crew.{IsCrewed, IsClosed}
use Rattle.ug_event_loop.proofs.Lists.{get-within}
use Rattle.ug_event_loop.proofs.Owned.{crewed-at, pass-deeds}
use Rattle.ug_event_loop.proofs.Texts.{AreTextsOf, AreSessions, sessions-alike, losses-alike, texts-told}
use Rattle.ug_event_loop.proofs.Rightly.{right-front, right-sent}
use Rattle.ug_event_loop.proofs.Numbers.{AreNumbered, numbered-all, handed-at}
use Rattle.ug_event_loop.proofs.Losing.{lost_of, sessions_in, lost-rise, lost-few, lost-were, noted-lost, lost-noted, failed-lost}
use Rattle.ug_event_loop.proofs.Holding.{IsContent, each-from-so, contents-of}
use Rattle.ug_event_loop.proofs.Runs.{jobs-are, course-is, world-is, worlds-are, peer-at, same-capabilities}

holds_few : (courses : List Course) (sessions : List (List ℕ)) → HoldsAll courses sessions → length sessions ≡ length courses
holds_few [] [] holds = refl
holds_few [] (bytes ∷ sessions) holds = absurd holds
holds_few (course ∷ courses) [] holds = absurd holds
holds_few (course ∷ courses) (bytes ∷ sessions) holds = let rest = holds_few courses sessions holds.1 in omega arith

module _ {Opening State Job Said : Type 0} (rules : Rules Opening State Job Said) (speech : Speech Opening State Job Said) (machine : IsMachine rules) (speaks : IsSpeaker rules speech)
    (opening : Opening) (lines : List (Reads Saying)) (marks : List (List Mark)) (complete : Bool) (wires : List WireTold) (history : List (Entry Job Said))
    (closed : IsClosed rules speech opening lines marks complete wires history) (p : ℕ) (wire : WireTold) (is : slice_get wires p ≡ Some wire) where
  inside : p < length wires
  inside = get-within wires p wire is

  abbrev crewed : IsCrewed rules speech opening history complete p wire
  crewed = crewed-at rules speech opening history complete wires closed.crew closed.owned (jobs-are rules speech speaks opening lines marks complete wires history closed) p wire is

  abbrev courses : List Course
  courses = crewed.kept.courses

  abbrev lost : List ℕ
  lost = lost_of courses

  abbrev handed_deeds : List (Deed (List ℕ))
  handed_deeds = deeds rules rules.handed (to_peer p) opening history

  abbrev told_deeds : List (Deed Message)
  told_deeds = deeds_to rules speech p opening history

  course : IsCourse rules speech opening history
  course = course-is rules speech speaks opening lines marks complete wires history closed

  -- ---- its peer

  abbrev last : World
  last = last_world (speech.first opening) lines

  peer_found : (s : PeerState) × (slice_get (world_at rules speech opening history).peers p ≡ Some s)
  peer_found = let found = peer-at rules speech speaks opening lines marks complete wires history closed p inside history [] (sym (append-nil history)) in (found.0, found.1)

  abbrev s : PeerState
  s = peer_found.0

  peer_last : slice_get last.peers p ≡ Some s
  peer_last = ap (λ (w : World). slice_get w.peers p) (sym (world-is rules speech speaks opening lines marks complete wires history closed)) ∙ peer_found.1

  abbrev c : Capabilities
  c = capabilities_of s.peer

  -- ---- its deeds

  texts : AreTextsOf c handed_deeds told_deeds
  texts =
      texts-told rules speech speaks.histories opening history course c p
      (same-capabilities rules speech speaks opening lines marks complete wires history closed p inside history [] s (sym (append-nil history)) peer_found.1)

  kept_deeds : pass_deeds rules crewed.pass ≡ handed_deeds
  kept_deeds = pass-deeds rules speech opening history complete wires closed.crew closed.owned (jobs-are rules speech speaks opening lines marks complete wires history closed) p wire is

  course_sessions : sessions_in courses ≡ sessions_of handed_deeds
  course_sessions = crewed.kept.kept.sessions ∙ ap sessions_of kept_deeds

  alike : AreSessions c (sessions_in courses) (sessions_of told_deeds)
  alike = subst (λ (ss : List (Session (List ℕ))). AreSessions c ss (sessions_of told_deeds)) (sym course_sessions) (sessions-alike c handed_deeds told_deeds texts)

  turn : {X : Type 0} (tell : ℕ → State → X) → IsInTurn 0 (deeds rules tell (to_peer p) opening history)
  turn tell = subst (λ n. IsInTurn n (deeds rules tell (to_peer p) opening history)) (machine.none_begun opening p) (in_turn-all rules tell machine p (rules.start opening) history closed.legal)

  numbered : AreNumbered 1 (sessions_in courses)
  numbered = subst (λ (ss : List (Session (List ℕ))). AreNumbered 1 ss) (sym course_sessions) (numbered-all handed_deeds (turn rules.handed))

  told_in : (k : ℕ) (t : Session Message) → slice_get (sessions_of told_deeds) k ≡ Some t → told rules speech p (1 + k) opening history ≡ t.handed
  told_in k t there = handed-at 1 (sessions_of told_deeds) k t (numbered-all told_deeds (turn speech.message)) there

  counted : length courses ≡ begun rules speech p opening history
  counted =
      let none = machine.none_begun opening p in
      let all = begins-all rules rules.handed machine p (rules.start opening) history closed.legal in
      let made = length-sessions_of handed_deeds in
      let mapped = length-map courses (λ (course : Course). course.session) in
      let same = ap (λ (ss : List (Session (List ℕ))). length ss) course_sessions in
      omega arith

  noted_is : noted courses ≡ losses told_deeds
  noted_is = crewed.kept.kept.noted_losses ∙ (ap losses kept_deeds ∙ losses-alike c handed_deeds told_deeds texts)

  -- ---- what was told

  told_right : (n : ℕ) → 1 ≤ n → n < 1 + length courses → IsToldRight p n s.peer (worlds_of rules speech opening history) (told rules speech p n opening history)
  told_right n low high = let count = counted in speaks.histories.right opening history p n s course peer_found.1 (omega arith) (omega arith)

  told_sent : (n : ℕ) → 1 ≤ n → n < 1 + length courses → AreOf (IsSent s.peer.enhanced_refresh) (told rules speech p n opening history)
  told_sent n low high = right-sent p n s.peer (worlds_of rules speech opening history) (told rules speech p n opening history) (told_right n low high)

  abbrev IsOwn : ℕ → List ℕ → Content → Type 0
  IsOwn = IsContent (λ n. told rules speech p n opening history) c s.peer.enhanced_refresh lost

  abbrev OwnContents : Option (List (List ℕ)) → Type 0
  OwnContents sessions = (contents : List Content) × EachSession IsOwn sessions contents

  own_contents : (sessions : Option (List (List ℕ))) → Holds courses sessions → OwnContents sessions
  own_contents None holds = ([], refl)
  own_contents (Some sessions) holds =
      contents-of (λ n. told rules speech p n opening history) c s.peer.enhanced_refresh lost 1 courses (sessions_of told_deeds) sessions alike numbered told_in told_sent (failed-lost courses) holds

  -- ---- what is right of a session

  rest_lost : (content : Content) (b : Bool) → (b ≡ false → content.rest ≡ []) → has_rest content ≡ true → b ≡ true
  rest_lost content true none has = refl
  rest_lost content false none has = let empty : false ≡ true = sym (ap (λ (rest : List ℕ). has_rest (record { messages = content.messages; rest = rest })) (none refl)) ∙ has in absurd cc

  session_right : (n : ℕ) (bytes : List ℕ) (content : Content) → 1 ≤ n → n < 1 + length courses → IsOwn n bytes content → IsSessionRight (worlds (speech.first opening) lines) p s lost n bytes content
  session_right n bytes content low high own = record {
    messages = own.form;
    cut = rest_lost content (has_number lost n) (λ none. (own.all none).1);
    right =
        subst (λ (ws : List World). IsToldRight p n s.peer ws content.messages) (worlds-are rules speech speaks opening lines marks complete wires history closed)
        (right-front p n s.peer (worlds_of rules speech opening history) content.messages own.more
        (subst (λ (ms : List Message). IsToldRight p n s.peer (worlds_of rules speech opening history) ms) own.told_is (told_right n low high)));
  }

  sessions_right : (sessions : Option (List (List ℕ))) (contents : List Content) → Holds courses sessions → EachSession IsOwn sessions contents
      → EachSession (IsSessionRight (worlds (speech.first opening) lines) p s lost) sessions contents
  sessions_right None contents holds own = own
  sessions_right (Some sessions) contents holds own =
      let few = holds_few courses sessions holds in
      each-from-so IsOwn (IsSessionRight (worlds (speech.first opening) lines) p s lost) 1 sessions contents (λ n bytes content low high is. session_right n bytes content low (omega arith) is) own

  -- ---- how many sessions, and which of them are lost

  begun_few : length courses ≤ s.sessions
  begun_few = let count = counted in let few = speaks.histories.begun_at_most opening history p s course peer_found.1 in omega arith

  begun_all : complete ≡ true → length courses ≡ s.sessions
  begun_all done = let count = counted in let all = speaks.histories.begun_all opening history p s course peer_found.1 (closed.drained done) in omega arith

  counted_by : (b : Bool) (sessions : Option (List (List ℕ))) → (b ≡ true → length courses ≡ s.sessions) → Holds courses sessions → AreCounted b s.sessions sessions
  counted_by true None all holds = tt
  counted_by false None all holds = tt
  counted_by true (Some sessions) all holds = holds_few courses sessions holds ∙ all refl
  counted_by false (Some sessions) all holds = let few = begun_few in let same = holds_few courses sessions holds in omega arith

  -- a session whose loss is an entry is lost
  pub lost-told : (n : ℕ) → is_lost rules speech p n opening history ≡ true → has_number lost n ≡ true
  lost-told n told = noted-lost courses n (subst (λ (numbers : List ℕ). has_number numbers n ≡ true) (sym noted_is) told)

  -- and where the run completed there are no others
  pub lost-all : complete ≡ true → lost ≡ losses told_deeds
  lost-all done = lost-noted courses (sym crewed.kept.kept.unnoted ∙ crewed.noted done) ∙ noted_is

  -- ---- the last session of a peer that is up

  live_by : (a b d : Bool) → a ≡ true → d ≡ false → (b ≡ true → d ≡ true) → (a && not b) ≡ true
  live_by true true d up none more = let yes = more refl in absurd cc
  live_by true false d up none more = refl
  live_by false b d up none more = absurd cc

  told_all : complete ≡ true → s.up ≡ true → has_number lost s.sessions ≡ false → IsToldAll p last (told rules speech p s.sessions opening history)
  told_all done up kept =
      subst (λ (w : World). IsToldAll p w (told rules speech p s.sessions opening history)) (world-is rules speech speaks opening lines marks complete wires history closed)
      (speaks.histories.all_told opening history p s course peer_found.1 (closed.drained done)
      (live_by s.up (is_lost rules speech p s.sessions opening history) (has_number lost s.sessions) up kept (lost-told s.sessions)))

  session_whole : complete ≡ true → s.up ≡ true → has_number lost s.sessions ≡ false → (n : ℕ) (bytes : List ℕ) (content : Content) → IsOwn n bytes content → n ≡ s.sessions → IsSessionWhole last p content
  session_whole done up kept n bytes content own same =
      let all = own.all (subst (λ m. has_number lost m ≡ false) (sym same) kept) in
      let messages : told rules speech p n opening history ≡ content.messages = own.told_is ∙ (ap (λ (ms : List Message). content.messages ++ ms) all.0 ∙ append-nil content.messages) in
      record {
        no_rest = all.1;
        told = subst (λ (ms : List Message). IsToldAll p last ms) (ap (λ m. told rules speech p m opening history) (sym same) ∙ messages) (told_all done up kept);
      }

  sessions_whole : (sessions : Option (List (List ℕ))) (contents : List Content) → EachSession IsOwn sessions contents → complete ≡ true → s.up ≡ true → has_number lost s.sessions ≡ false
      → EachSession (λ n bytes content. n ≡ s.sessions → IsSessionWhole last p content) sessions contents
  sessions_whole None contents own done up kept = own
  sessions_whole (Some sessions) contents own done up kept =
      each-from-so IsOwn (λ n bytes content. n ≡ s.sessions → IsSessionWhole last p content) 1 sessions contents (λ n bytes content low high is same. session_whole done up kept n bytes content is same) own

  wire_right : (contents : List Content) → EachSession IsOwn wire.sessions contents → IsWireRight (worlds (speech.first opening) lines) last complete p s wire contents lost
  wire_right contents own = record {
    counted = counted_by complete wire.sessions begun_all crewed.kept.kept.bytes;
    each = sessions_right wire.sessions contents crewed.kept.kept.bytes own;
    rise = lost-rise 0 1 courses (omega arith) numbered;
    were = λ n has. (let found = lost-were 1 courses n numbered has in let high = found.1 in let few = begun_few in omega arith);
    faults = (let few = lost-few courses in let most = crewed.kept.kept.faults in omega arith);
    harmless = λ none. crewed.kept.kept.harmless (sym (lost-few courses) ∙ ap length none);
    end = sessions_whole wire.sessions contents own;
  }

  sessions_begun : (sessions : List (List ℕ)) → wire.sessions ≡ Some sessions → length sessions ≡ begun rules speech p opening history
  sessions_begun sessions told_are = holds_few courses sessions (subst (λ (o : Option (List (List ℕ))). Holds courses o) told_are crewed.kept.kept.bytes) ∙ counted

  -- What the sessions of the wire hold, and which of them are lost.
  pub record IsWireHeld (contents : List Content) (numbers : List ℕ) : Type 0 where
    pub state : PeerState
    pub there : slice_get last.peers p ≡ Some state
    pub right : IsWireRight (worlds (speech.first opening) lines) last complete p state wire contents numbers
    pub own : EachSession (IsContent (λ n. told rules speech p n opening history) (capabilities_of state.peer) state.peer.enhanced_refresh numbers) wire.sessions contents
    pub told_lost : (n : ℕ) → is_lost rules speech p n opening history ≡ true → has_number numbers n ≡ true
    pub all_lost : complete ≡ true → numbers ≡ losses told_deeds
    pub are_begun : (sessions : List (List ℕ)) → wire.sessions ≡ Some sessions → length sessions ≡ begun rules speech p opening history

  pub wire-held : (contents : List Content) × (numbers : List ℕ) × IsWireHeld contents numbers
  wire-held =
      let found = own_contents wire.sessions crewed.kept.kept.bytes in (
        found.0,
        lost,
        record { state = s; there = peer_last; right = wire_right found.0 found.1; own = found.1; told_lost = lost-told; all_lost = lost-all; are_begun = sessions_begun },
      )
