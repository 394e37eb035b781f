-- A closed run keeps what is promised.
use Rattle.std.proofs.Common.{◌≡◌, ℕ, zero, suc, ◌+◌, ◌<◌, ◌≤◌, inl, inr, Bool, true, false, List, [], ◌∷◌, ◌++◌, length, take, slice_get, Option, Some, None, Ok, refl, sym, ◌∙◌, ap, subst, arith, append_assoc, length-append}
use Rattle.std.specs.Prelude.{option_and_then}
use Rattle.std.proofs.lemmas.Bool.{cases_lt}
use Rattle.ug_types.specs.declared.mark.Mark.{Mark}
use Rattle.ug_types.specs.Messages.{Message}
use Rattle.ug_board.specs.Entry.{Entry}
use Rattle.ug_board.specs.Rules.{Rules, IsMachine}
use Rattle.ug_board.specs.History.{IsLegal}
use Rattle.ug_events.specs.Events.{Happening, Saying, SaysSync, Says}
use Rattle.ug_events.specs.Reads.{Reads}
use Rattle.ug_world.specs.declared.peer_state.PeerState.{PeerState}
use Rattle.ug_world.specs.World.{World}
use Rattle.ug_world.specs.Worlds.{worlds, last_world}
use Rattle.ug_speaker.specs.Speech.{Speech, capabilities_of}
use Rattle.ug_speaker.specs.Told.{begun, told, is_lost, world_at}
use Rattle.ug_speaker.specs.Right.{IsToldAll, IsToldAgain}
use Rattle.ug_speaker.specs.Owes.{IsSpeaker}
use Rattle.ug_event_loop.specs.Contents.{WireTold, Content, EachSession, session_at, content_at, has_number, is_lost_of, is_lost_at}
use Rattle.ug_event_loop.specs.Kept.{IsWireOf, HasMark, IsSynced, world_at_line, IsKept}
use Rattle.ug_event_loop.specs.Crew.{losses_in, all_losses, IsClosed}
use Rattle.ug_event_loop.proofs.Lists.{some-same}
use Rattle.ug_event_loop.proofs.Holding.{IsContent, content-of}
use Rattle.ug_event_loop.proofs.Growth.{front-within, told-grows, losses-entries}
use Rattle.ug_event_loop.proofs.StoryLines.{line-at, lines-at}
use Rattle.ug_event_loop.proofs.Marking.{marks-right}
use Rattle.ug_event_loop.proofs.Runs.{builders-are}
use Rattle.ug_event_loop.proofs.EachWires.{EachWireFrom, by-place}
use Rattle.ug_event_loop.proofs.Wired.{IsWireHeld, wire-held}
use Rattle.ug_event_loop.proofs.Syncs.{IsLine, IsSyncedAt, synced-at, synced-told}
use Rattle.ug_event_loop.proofs.Requests.{asked-at, asked-told}
use Rattle.ug_event_loop.proofs.Marked.{IsMarkedAt, story-line-there, marks-rise, begun-rises, marked-at}

-- ---- wires by their place

pub each_wire_so : (P Q : ℕ → WireTold → List Content → List ℕ → Type 0) → ((p : ℕ) (wire : WireTold) (c : List Content) (l : List ℕ) → P p wire c l → Q p wire c l)
    → (p : ℕ) (wires : List WireTold) (contents : List (List Content)) (lost : List (List ℕ)) → EachWireFrom P p wires contents lost → EachWireFrom Q p wires contents lost
each_wire_so P Q f p [] [] [] h = tt
each_wire_so P Q f p [] [] (l ∷ lost) h = absurd h
each_wire_so P Q f p [] (c ∷ contents) lost h = absurd h
each_wire_so P Q f p (wire ∷ wires) [] lost h = absurd h
each_wire_so P Q f p (wire ∷ wires) (c ∷ contents) [] h = absurd h
each_wire_so P Q f p (wire ∷ wires) (c ∷ contents) (l ∷ lost) h = (f p wire c l h.0, each_wire_so P Q f (p + 1) wires contents lost h.1)

-- what there is of the wire at a place
record IsWireAt (P : ℕ → WireTold → List Content → List ℕ → Type 0) (p : ℕ) (contents : List (List Content)) (lost : List (List ℕ)) (n : ℕ) : Type 0 where
  wire : WireTold
  content : List Content
  numbers : List ℕ
  holds : slice_get contents n ≡ Some content
  loses : slice_get lost n ≡ Some numbers
  is : P (p + n) wire content numbers

wire_next : (P : ℕ → WireTold → List Content → List ℕ → Type 0) (p : ℕ) (c : List Content) (contents : List (List Content)) (l : List ℕ) (lost : List (List ℕ)) (n : ℕ)
    → IsWireAt P (p + 1) contents lost n → IsWireAt P p (c ∷ contents) (l ∷ lost) (suc n)
wire_next P p c contents l lost n at =
    let there : p + 1 + n ≡ p + suc n = omega arith in
    record { wire = at.wire; content = at.content; numbers = at.numbers; holds = at.holds; loses = at.loses; is = subst (λ k. P k at.wire at.content at.numbers) there at.is }

wire_at : (P : ℕ → WireTold → List Content → List ℕ → Type 0) (p : ℕ) (wires : List WireTold) (contents : List (List Content)) (lost : List (List ℕ)) (n : ℕ) → EachWireFrom P p wires contents lost → n < length wires
    → IsWireAt P p contents lost n
wire_at P p [] [] [] n h less = absurd (omega arith)
wire_at P p [] [] (l ∷ lost) n h less = absurd h
wire_at P p [] (c ∷ contents) lost n h less = absurd h
wire_at P p (wire ∷ wires) [] lost n h less = absurd h
wire_at P p (wire ∷ wires) (c ∷ contents) [] n h less = absurd h
wire_at P p (wire ∷ wires) (c ∷ contents) (l ∷ lost) zero h less =
    let here : p ≡ p + 0 = omega arith in
    record { wire = wire; content = c; numbers = l; holds = refl; loses = refl; is = subst (λ k. P k wire c l) here h.0 }
wire_at P p (wire ∷ wires) (c ∷ contents) (l ∷ lost) (suc n) h less = wire_next P p c contents l lost n (wire_at P (p + 1) wires contents lost n h.1 (omega arith))

-- where there is a content there is a wire
content_within : (P : ℕ → WireTold → List Content → List ℕ → Type 0) (p : ℕ) (wires : List WireTold) (contents : List (List Content)) (lost : List (List ℕ)) (n : ℕ) (c : List Content)
    → EachWireFrom P p wires contents lost → slice_get contents n ≡ Some c → n < length wires
content_within P p [] [] lost n c h is = absurd cc
content_within P p [] (d ∷ contents) lost n c h is = absurd h
content_within P p (wire ∷ wires) [] lost n c h is = absurd h
content_within P p (wire ∷ wires) (d ∷ contents) [] n c h is = absurd h
content_within P p (wire ∷ wires) (d ∷ contents) (l ∷ lost) zero c h is = omega arith
content_within P p (wire ∷ wires) (d ∷ contents) (l ∷ lost) (suc n) c h is = let rest = content_within P (p + 1) wires contents lost n c h.1 is in omega arith

found_both : {A B : Type 0} (f : A → Option B) (o : Option A) (b : B) → option_and_then f o ≡ Some b → (a : A) × (o ≡ Some a) × (f a ≡ Some b)
found_both f (Some a) b is = (a, refl, is)
found_both f None b is = absurd cc

none_there : {A : Type 0} (n : ℕ) (x : A) → slice_get [] n ≡ Some x → ⊥
none_there n x is = cc

-- where nothing more was told all fronts of it are there
all_there : (all messages more front rest : List Message) → all ≡ messages ++ more → all ≡ front ++ rest → more ≡ [] → length front ≤ length messages
all_there all messages more front rest is is' none =
    let gone : length more ≡ 0 = ap (λ (l : List Message). length l) none in
    let one : length all ≡ length (messages ++ more) = ap (λ (l : List Message). length l) is in
    let other : length all ≡ length (front ++ rest) = ap (λ (l : List Message). length l) is' in
    omega (arith, length-append messages more, length-append front rest)

-- where less is there than was told the session was lost
must_be_lost : (b : Bool) (all messages more front rest : List Message) → length messages < length front → all ≡ messages ++ more → all ≡ front ++ rest → (b ≡ false → more ≡ []) → b ≡ true
must_be_lost true all messages more front rest fewer is is' none = refl
must_be_lost false all messages more front rest fewer is is' none = let there = all_there all messages more front rest is is' (none refl) in absurd (omega arith)

-- ---- the run

module _ {Opening State Job Said : Type 0} (rules : Rules Opening State Job Said) (speech : Speech Opening State Job Said) (machine : IsMachine rules) (speaks : IsSpeaker rules speech)
    (opening : Opening) (lines : List (Reads Saying)) (marks : List (List Mark)) (complete : Bool) (wires : List WireTold) (history : List (Entry Job Said))
    (closed : IsClosed rules speech opening lines marks complete wires history) where
  abbrev first : World
  first = speech.first opening

  -- a wire of the run, with what its sessions hold
  abbrev IsHeld : ℕ → WireTold → List Content → List ℕ → Type 0
  IsHeld p wire content numbers = (is : slice_get wires p ≡ Some wire) × IsWireHeld rules speech machine speaks opening lines marks complete wires history closed p wire is content numbers

  abbrev AreHeld : ℕ → List WireTold → Type 0
  AreHeld p some =
      (contents : List (List Content)) × (lost : List (List ℕ)) × EachWireFrom IsHeld p some contents lost × (complete ≡ true → lost ≡ all_losses p (length some) history)

  held_from : (p : ℕ) (some : List WireTold) → ((k : ℕ) (wire : WireTold) → slice_get some k ≡ Some wire → slice_get wires (p + k) ≡ Some wire) → AreHeld p some
  held_from p [] are = ([], [], tt, λ _. refl)
  held_from p (wire ∷ some) are =
      let here : p + 0 ≡ p = omega arith in
      let is : slice_get wires p ≡ Some wire = subst (λ k. slice_get wires k ≡ Some wire) here (are 0 wire refl) in
      let held = wire-held rules speech machine speaks opening lines marks complete wires history closed p wire is in
      let rest = held_from (p + 1) some (λ k w there. (let next : p + suc k ≡ p + 1 + k = omega arith in subst (λ j. slice_get wires j ≡ Some w) next (are (suc k) w there))) in (
        held.0 ∷ rest.0,
        held.1 ∷ rest.1,
        ((is, held.2), rest.2),
        λ done.
            ap (λ (l : List ℕ). l ∷ rest.1) (held.2.all_lost done ∙ losses-entries rules speech p (rules.start opening) history closed.legal)
            ∙ ap (λ (ls : List (List ℕ)). losses_in p history ∷ ls) (rest.3 done),
      )

  module _ (contents : List (List Content)) (lost : List (List ℕ)) (held : EachWireFrom IsHeld 0 wires contents lost) where
    -- ---- wires and sessions

    wires_right : EachWireFrom (IsWireOf (worlds first lines) (last_world first lines) complete) 0 wires contents lost
    wires_right =
        each_wire_so IsHeld (IsWireOf (worlds first lines) (last_world first lines) complete) (λ p wire content numbers is. (is.1.state, is.1.there, is.1.right)) 0 wires contents lost held

    held_at : (p : ℕ) → p < length wires → IsWireAt IsHeld 0 contents lost p
    held_at p less = wire_at IsHeld 0 wires contents lost p held less

    lost_is : (p n : ℕ) (numbers : List ℕ) → slice_get lost p ≡ Some numbers → is_lost_at lost p n ≡ has_number numbers n
    lost_is p n numbers is = ap (λ (o : Option (List ℕ)). is_lost_of o n) is

    told_lost : (p : ℕ) → p < length wires → (n : ℕ) → is_lost rules speech p n opening history ≡ true → is_lost_at lost p n ≡ true
    told_lost p less n told_is =
        let at = held_at p less in
        let here : 0 + p ≡ p = omega arith in
        lost_is p n at.numbers at.loses ∙ at.is.1.told_lost n (subst (λ k. is_lost rules speech k n opening history ≡ true) (sym here) told_is)

    -- what the content of a session holds
    record IsHolding (p n : ℕ) (c : Content) : Type 0 where
      more : List Message
      told_is : told rules speech p n opening history ≡ c.messages ++ more
      all : is_lost_at lost p n ≡ false → more ≡ []

    in_session : (p n : ℕ) (state : PeerState) (numbers : List ℕ) (sessions : Option (List (List ℕ))) (content : List Content) (c : Content) → slice_get lost p ≡ Some numbers
        → EachSession (IsContent (λ m. told rules speech p m opening history) (capabilities_of state.peer) state.peer.enhanced_refresh numbers) sessions content → session_at n content ≡ Some c → IsHolding p n c
    in_session p zero state numbers sessions content c loses each is = absurd cc
    in_session p (suc n) state numbers None content c loses each is = absurd (none_there n c (subst (λ (l : List Content). slice_get l n ≡ Some c) each is))
    in_session p (suc n) state numbers (Some sessions) content c loses each is =
        let found = content-of (IsContent (λ m. told rules speech p m opening history) (capabilities_of state.peer) state.peer.enhanced_refresh numbers) 1 sessions content n c each is in
        let same : 1 + n ≡ suc n = omega arith in
        let own : IsContent (λ m. told rules speech p m opening history) (capabilities_of state.peer) state.peer.enhanced_refresh numbers (suc n) found.0 c =
        subst (λ k. IsContent (λ m. told rules speech p m opening history) (capabilities_of state.peer) state.peer.enhanced_refresh numbers k found.0 c) same found.1
        in
        record { more = own.more; told_is = own.told_is; all = λ none. (own.all (sym (lost_is p (suc n) numbers loses) ∙ none)).0 }

    holding : (p n : ℕ) (c : Content) → content_at contents p n ≡ Some c → IsHolding p n c
    holding p n c is =
        let found = found_both (session_at n) (slice_get contents p) c is in
        let at = held_at p (content_within IsHeld 0 wires contents lost p found.0 held found.1) in
        let same : at.content ≡ found.0 = some-same at.content found.0 (sym at.holds ∙ found.1) in
        let here : 0 + p ≡ p = omega arith in
        in_session p n at.is.1.state at.numbers at.wire.sessions at.content c at.loses
        (subst (λ k. EachSession (IsContent (λ m. told rules speech k m opening history) (capabilities_of at.is.1.state.peer) at.is.1.state.peer.enhanced_refresh at.numbers) at.wire.sessions at.content) here at.is.1.own)
        (subst (λ (l : List Content). session_at n l ≡ Some c) (sym same) found.2)

    -- ---- marks of `sync`

    -- the line at a place
    line_of : (i : ℕ) (line : Reads Saying) (ms : List Mark) → slice_get lines i ≡ Some line → slice_get marks i ≡ Some ms
        → IsLine rules speech speaks opening lines marks complete wires history closed [] line ms (world_at_line first lines i)
    line_of i line ms is has =
        subst (λ (w : World). IsLine rules speech speaks opening lines marks complete wires history closed [] line ms (last_world w (take i lines))) (speaks.steps.first_world opening)
        (line-at rules speech speaks.steps opening history closed.legal (builders-are rules speech speaks opening lines marks complete wires history closed) [] lines marks history i line ms refl closed.story is has)

    -- what a session holds at a mark: all that was told by then, or it was lost
    synced_by : (w : World) (p : ℕ) (front rest all : List Message) (c : Content) (more : List Message) (lost_here : Bool) (m : Mark) → m.peer ≡ p → m.handed ≡ length front
        → all ≡ c.messages ++ more → all ≡ front ++ rest → (lost_here ≡ false → more ≡ []) → IsToldAll p w front → IsSynced w m c lost_here
    synced_by w p front rest all c more lost_here m peer count is is' none right =
        elim (cases_lt (length c.messages) (length front)) [
          | inl fewer ↦ inr ((let fewer' : length c.messages < m.handed = omega arith in fewer'), must_be_lost lost_here all c.messages more front rest fewer is is' none)
          | inr enough ↦
              inl (
                (let enough' : m.handed ≤ length c.messages = omega arith in enough'),
                subst (λ k. IsToldAll k w (take m.handed c.messages)) (sym peer)
                    (subst (λ (ms : List Message). IsToldAll p w ms) (sym (ap (λ k. take k c.messages) count ∙ front-within all front c.messages rest more is' is enough)) right),
              )
        ]

    -- what was told by a front of the history
    told_by : (p n : ℕ) (front later : List (Entry Job Said)) → history ≡ front ++ later → (x : List Message) × (told rules speech p n opening history ≡ told rules speech p n opening front ++ x)
    told_by p n front later parts =
        let grows = told-grows rules speech p n opening front later in
        (grows.0, ap (λ (h : List (Entry Job Said)). told rules speech p n opening h) parts ∙ grows.1)

    abbrev IsSyncedHere : List (Entry Job Said) → World → Mark → Type 0
    IsSyncedHere front w m = IsSyncedAt rules speech speaks opening lines marks complete wires history closed front w m

    synced_content : (front later : List (Entry Job Said)) (w : World) (m : Mark) (c : Content) → history ≡ front ++ later → IsSyncedHere front w m → content_at contents m.peer m.session ≡ Some c
        → IsSynced w m c (is_lost_at lost m.peer m.session)
    synced_content front later w m c parts at is =
        let peer = ap (λ (n : Mark). n.peer) at.mark in
        let session = ap (λ (n : Mark). n.session) at.mark in
        let is' : content_at contents at.place at.state.sessions ≡ Some c = subst (λ k. content_at contents at.place k ≡ Some c) session (subst (λ k. content_at contents k m.session ≡ Some c) peer is) in
        let holds = holding at.place at.state.sessions c is' in
        let by = told_by at.place at.state.sessions front later parts in
        let lost_same : is_lost_at lost m.peer m.session ≡ is_lost_at lost at.place at.state.sessions = ap (λ k. is_lost_at lost k m.session) peer ∙ ap (λ k. is_lost_at lost at.place k) session in
        subst (λ (b : Bool). IsSynced w m c b) (sym lost_same)
        (synced_by w at.place (told rules speech at.place at.state.sessions opening front) by.0 (told rules speech at.place at.state.sessions opening history) c holds.more
        (is_lost_at lost at.place at.state.sessions) m peer (ap (λ (n : Mark). n.handed) at.mark) holds.told_is by.1 holds.all
        (synced-told rules speech speaks opening lines marks complete wires history closed front w m at))

    sync_right : (i : ℕ) (m : Mark) (c : Content) → slice_get lines i ≡ Some (Ok SaysSync) → HasMark marks i m → content_at contents m.peer m.session ≡ Some c
        → IsSynced (world_at_line first lines i) m c (is_lost_at lost m.peer m.session)
    sync_right i m c is has content =
        let at = line_of i (Ok SaysSync) has.all is has.of_line in
        synced_content (([] ++ at.more) ++ at.did) at.later (world_at_line first lines i) m c (at.parts ∙ sym (append_assoc ([] ++ at.more) at.did at.later))
        (synced-at rules speech speaks opening lines marks complete wires history closed [] has.all (world_at_line first lines i) m at has.among) content

    -- ---- requests

    -- what a session holds is what was told by then, where there is as much of it
    taken : (front later : List (Entry Job Said)) (w : World) (m : Mark) (c : Content) → history ≡ front ++ later → (at : IsSyncedHere front w m) → content_at contents m.peer m.session ≡ Some c
        → m.handed ≤ length c.messages → take m.handed c.messages ≡ told rules speech at.place at.state.sessions opening front
    taken front later w m c parts at is enough =
        let peer = ap (λ (n : Mark). n.peer) at.mark in
        let session = ap (λ (n : Mark). n.session) at.mark in
        let count = ap (λ (n : Mark). n.handed) at.mark in
        let is' : content_at contents at.place at.state.sessions ≡ Some c = subst (λ k. content_at contents at.place k ≡ Some c) session (subst (λ k. content_at contents k m.session ≡ Some c) peer is) in
        let holds = holding at.place at.state.sessions c is' in
        let by = told_by at.place at.state.sessions front later parts in
        ap (λ k. take k c.messages) count
        ∙ front-within (told rules speech at.place at.state.sessions opening history) (told rules speech at.place at.state.sessions opening front) c.messages by.0 holds.more by.1 holds.told_is (omega arith)

    again_right : (i j : ℕ) (e : Happening) (m m' : Mark) (s : PeerState) (c : Content) → i < j → slice_get lines i ≡ Some (Ok (Says e)) → HasMark marks i m
        → slice_get lines j ≡ Some (Ok SaysSync) → HasMark marks j m' → m'.peer ≡ m.peer → m'.session ≡ m.session
        → slice_get (world_at_line first lines j).peers m.peer ≡ Some s → content_at contents m.peer m.session ≡ Some c → m'.handed ≤ length c.messages
        → IsToldAgain m.peer s.peer (world_at_line first lines j) m.handed (take m'.handed c.messages)
    again_right i j e m m' s c less is has is' has' peers sessions there content enough =
        let both =
        lines-at rules speech speaks.steps opening history closed.legal (builders-are rules speech speaks opening lines marks complete wires history closed) [] lines marks history i j (Ok (Says e)) (Ok SaysSync) has.all has'.all less refl
        closed.story is has.of_line is' has'.of_line
        in
        let h = [] ++ both.first.more in
        let front = ((h ++ both.first.did) ++ both.second.more) ++ both.second.did in
        let world_j = last_world (world_at rules speech opening []) (take j lines) in
        let same_world : world_j ≡ world_at_line first lines j = ap (λ (w : World). last_world w (take j lines)) (speaks.steps.first_world opening) in
        let asked = asked-at rules speech speaks opening lines marks complete wires history closed [] e has.all (last_world (world_at rules speech opening []) (take i lines)) m both.first has.among in
        let at = synced-at rules speech speaks opening lines marks complete wires history closed (h ++ both.first.did) has'.all world_j m' both.second has'.among in
        let again = asked-told rules speech speaks opening lines marks complete wires history closed h both.first.did both.second.more both.second.did m m' world_j asked at peers sessions in
        let content' : content_at contents m'.peer m'.session ≡ Some c = subst (λ k. content_at contents k m'.session ≡ Some c) (sym peers) (subst (λ k. content_at contents m.peer k ≡ Some c) (sym sessions) content) in
        let all = taken front both.second.later world_j m' c (both.second.parts ∙ sym (append_assoc ((h ++ both.first.did) ++ both.second.more) both.second.did both.second.later)) at content' enough in
        let same_place : at.place ≡ m.peer = ap (λ (n : Mark). n.peer) (sym at.mark) ∙ peers in
        let there_too : slice_get (world_at_line first lines j).peers m.peer ≡ Some at.state =
        subst (λ (w : World). slice_get w.peers m.peer ≡ Some at.state) (at.world ∙ same_world) (subst (λ k. slice_get (world_at rules speech opening front).peers k ≡ Some at.state) same_place at.there)
        in
        let same_state : at.state ≡ s = some-same at.state s (sym there_too ∙ there) in
        subst (λ (ms : List Message). IsToldAgain m.peer s.peer (world_at_line first lines j) m.handed ms) (sym all)
        (subst (λ (w : World). IsToldAgain m.peer s.peer w m.handed (told rules speech at.place at.state.sessions opening front)) same_world
        (subst (λ (t : PeerState). IsToldAgain m.peer t.peer world_j m.handed (told rules speech at.place at.state.sessions opening front)) same_state again))

    -- ---- marks of each line

    -- the session of a mark of `sync` is there
    begun_right : (i : ℕ) (m : Mark) (wire : WireTold) (sessions : List (List ℕ)) → slice_get lines i ≡ Some (Ok SaysSync) → HasMark marks i m → slice_get wires m.peer ≡ Some wire → wire.sessions ≡ Some sessions
        → m.session ≤ length sessions
    begun_right i m wire sessions is has wire_is told_are =
        let line = line_of i (Ok SaysSync) has.all is has.of_line in
        let front = ([] ++ line.more) ++ line.did in
        let parts : history ≡ front ++ line.later = line.parts ∙ sym (append_assoc ([] ++ line.more) line.did line.later) in
        let at = synced-at rules speech speaks opening lines marks complete wires history closed [] has.all (world_at_line first lines i) m line has.among in
        let peer : m.peer ≡ at.place = ap (λ (n : Mark). n.peer) at.mark in
        let session : m.session ≡ at.state.sessions = ap (λ (n : Mark). n.session) at.mark in
        let all = speaks.histories.begun_all opening front at.place at.state at.course at.there at.drained in
        let rises = begun-rises rules speech machine at.place opening front line.later (subst (λ (h : List (Entry Job Said)). IsLegal rules opening h) parts closed.legal) in
        let grown : begun rules speech at.place opening front ≤ begun rules speech at.place opening history = subst (λ (h : List (Entry Job Said)). begun rules speech at.place opening front ≤ begun rules speech at.place opening h) (sym parts) rises in
        let held' = wire-held rules speech machine speaks opening lines marks complete wires history closed at.place wire (subst (λ k. slice_get wires k ≡ Some wire) peer wire_is) in
        let count = held'.2.are_begun sessions told_are in
        omega arith

    rise_right : (i j : ℕ) (m m' : Mark) → i < j → HasMark marks i m → HasMark marks j m' → m'.peer ≡ m.peer → m'.session ≡ m.session → m.handed ≤ m'.handed
    rise_right i j m m' less has has' peers sessions =
        let line = story-line-there rules speech opening [] lines marks history i has.all closed.story has.of_line in
        let line' = story-line-there rules speech opening [] lines marks history j has'.all closed.story has'.of_line in
        let both =
        lines-at rules speech speaks.steps opening history closed.legal (builders-are rules speech speaks opening lines marks complete wires history closed) [] lines marks history i j line.0 line'.0 has.all has'.all less refl
        closed.story line.1 has.of_line line'.1 has'.of_line
        in
        let front = ([] ++ both.first.more) ++ both.first.did in
        let at = marked-at rules speech speaks opening lines marks complete wires history closed [] line.0 has.all (last_world (world_at rules speech opening []) (take i lines)) m both.first has.among in
        let at' = marked-at rules speech speaks opening lines marks complete wires history closed front line'.0 has'.all (last_world (world_at rules speech opening []) (take j lines)) m' both.second has'.among in
        marks-rise rules speech opening front (both.second.more ++ both.second.did) m m' at
        (subst (λ (h : List (Entry Job Said)). IsMarkedAt rules speech opening h m') (append_assoc front both.second.more both.second.did) at') peers sessions

    held_right : (i : ℕ) (m : Mark) (c : Content) → HasMark marks i m → content_at contents m.peer m.session ≡ Some c → is_lost_at lost m.peer m.session ≡ false → m.handed ≤ length c.messages
    held_right i m c has content none =
        let line = story-line-there rules speech opening [] lines marks history i has.all closed.story has.of_line in
        let at' = line_of i line.0 has.all line.1 has.of_line in
        let front = ([] ++ at'.more) ++ at'.did in
        let at = marked-at rules speech speaks opening lines marks complete wires history closed [] line.0 has.all (world_at_line first lines i) m at' has.among in
        let peer : m.peer ≡ at.place = ap (λ (n : Mark). n.peer) at.mark in
        let session : m.session ≡ at.state.sessions = ap (λ (n : Mark). n.session) at.mark in
        let count : m.handed ≡ length (told rules speech at.place at.state.sessions opening front) = ap (λ (n : Mark). n.handed) at.mark in
        let content' : content_at contents at.place at.state.sessions ≡ Some c = subst (λ k. content_at contents at.place k ≡ Some c) session (subst (λ k. content_at contents k m.session ≡ Some c) peer content) in
        let none' : is_lost_at lost at.place at.state.sessions ≡ false = subst (λ k. is_lost_at lost at.place k ≡ false) session (subst (λ k. is_lost_at lost k m.session ≡ false) peer none) in
        let holds = holding at.place at.state.sessions c content' in
        let by = told_by at.place at.state.sessions front at'.later (at'.parts ∙ sym (append_assoc ([] ++ at'.more) at'.did at'.later)) in
        let there = all_there (told rules speech at.place at.state.sessions opening history) c.messages holds.more (told rules speech at.place at.state.sessions opening front) by.0 holds.told_is by.1 (holds.all none') in
        omega arith

    kept : IsKept first lines marks complete wires contents lost
    kept = record {
      all = closed.all;
      each = by-place (IsWireOf (worlds first lines) (last_world first lines) complete) wires contents lost wires_right;
      marked = marks-right rules speech speaks opening lines marks complete wires history closed (is_lost_at lost) told_lost;
      sync = sync_right;
      begun = begun_right;
      rise = rise_right;
      held = held_right;
      again = λ i j e m m' c s is there. again_right i j e m m' s c is.later is.event is.mark is.sync is.mark' is.same_peer is.same_session there is.holds is.enough;
    }

  -- A closed run keeps what is promised. Where it completed, the lost sessions are those whose losses are entries.
  pub closed-kept : (contents : List (List Content)) × (lost : List (List ℕ)) × IsKept first lines marks complete wires contents lost × (complete ≡ true → lost ≡ all_losses 0 (length wires) history)
  closed-kept =
      let held = held_from 0 wires (λ k wire is. (let here : 0 + k ≡ k = omega arith in subst (λ j. slice_get wires j ≡ Some wire) (sym here) is)) in
      (held.0, held.1, kept held.0 held.1 held.2, held.3)
