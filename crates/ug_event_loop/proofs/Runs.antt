-- A closed run: its history is a course, and its worlds are those of its lines.
use Rattle.std.proofs.Common.{◌≡◌, ℕ, ◌<◌, Bool, List, [], ◌∷◌, ◌++◌, length, slice_get, Some, refl, sym, ◌∙◌, ap, subst, arith}
use Rattle.std.proofs.lemmas.List.{length-map}
use Rattle.ug_types.specs.declared.mark.Mark.{Mark}
use Rattle.ug_board.specs.Entry.{Entry}
use Rattle.ug_board.specs.Rules.{Rules}
use Rattle.ug_board.specs.Deeds.{Each}
use Rattle.ug_events.specs.Events.{Happening, Saying, ComesUp, GoesDown, HasPaths, HasNone, HasPolicy, HasEntries, AsksAgain, SendsRequest, SendsList}
use Rattle.ug_events.specs.Reads.{Reads}
use Rattle.ug_world.specs.declared.peer_state.PeerState.{PeerState}
use Rattle.ug_world.specs.World.{World}
use Rattle.ug_world.specs.After.{after, come_up, gone_down, with_policy, refiltered, with_orf, changed_peer}
use Rattle.ug_world.specs.Worlds.{worlds, last_world}
use Rattle.ug_speaker.specs.Speech.{Speech, capabilities_of}
use Rattle.ug_speaker.specs.Told.{worlds_through, world_after, events_in, worlds_of, world_at}
use Rattle.ug_speaker.specs.Owes.{AreEvents, IsCourse, IsSpeaker}
use Rattle.ug_event_loop.specs.Contents.{WireTold}
use Rattle.ug_event_loop.specs.Crew.{IsClosed}
use Rattle.ug_event_loop.proofs.Lists.{get-there, get-within, some-same}
use Rattle.ug_event_loop.proofs.Growing.{course-front, world-first}
use Rattle.ug_event_loop.proofs.Peers.{IsSamePeer, peer-through}
use Rattle.ug_event_loop.proofs.Owned.{IsBuildersEntry, builders-each}
use Rattle.ug_event_loop.proofs.StoryLines.{accepted, last-accepted, worlds-accepted, accepted-sound, IsJobEntry, story-jobs, story-events}

-- ---- an event leaves as many peers

length-after : (w : World) (e : Happening) → length (after w e).peers ≡ length w.peers
unfolding after
length-after w (ComesUp name) = length-map w.peers (changed_peer name come_up)
length-after w (GoesDown name) = length-map w.peers (changed_peer name gone_down)
length-after w (AsksAgain name) = length-map w.peers (changed_peer name refiltered)
length-after w (SendsRequest name) = length-map w.peers (changed_peer name refiltered)
length-after w (SendsList name request) = length-map w.peers (changed_peer name (with_orf request))
length-after w (HasPolicy name policy) = length-map w.peers (changed_peer name (with_policy policy))
length-after w (HasEntries name entries) = refl
length-after w (HasPaths prefix paths) = refl
length-after w (HasNone prefix) = refl

length-through : (w : World) (es : List Happening) → length (world_after w es).peers ≡ length w.peers
length-through w [] = refl
length-through w (e ∷ es) = length-through (after w e) es ∙ length-after w e

module _ {Opening State Job Said : Type 0} (rules : Rules Opening State Job Said) (speech : Speech Opening State Job Said) (speaks : IsSpeaker rules speech)
    (opening : Opening) (lines : List (Reads Saying)) (marks : List (List Mark)) (complete : Bool) (wires : List WireTold) (history : List (Entry Job Said))
    (closed : IsClosed rules speech opening lines marks complete wires history) where
  abbrev pub first : World
  first = speech.first opening

  pub jobs-are : Each (IsJobEntry rules speech) history
  jobs-are = story-jobs rules speech opening [] lines marks history closed.story

  pub builders-are : Each (λ (entry : Entry Job Said). IsBuildersEntry entry) history
  builders-are = builders-each rules speech opening history complete wires closed.crew closed.owned jobs-are

  pub events-are : events_in rules speech history ≡ accepted first lines
  events-are =
      story-events rules speech speaks.steps opening history closed.legal builders-are [] lines marks history refl closed.story
      ∙ ap (λ (w : World). accepted w lines) (speaks.steps.first_world opening)

  pub course-is : IsCourse rules speech opening history
  course-is = record {
    opens = closed.opens;
    legal = closed.legal;
    events = subst (λ (es : List Happening). AreEvents es) (sym events-are) (accepted-sound first lines closed.sound);
  }

  pub course-at : (front more : List (Entry Job Said)) → history ≡ front ++ more → IsCourse rules speech opening front
  course-at front more parts = course-front rules speech opening front more (subst (λ (h : List (Entry Job Said)). IsCourse rules speech opening h) parts course-is)

  pub world-is : world_at rules speech opening history ≡ last_world first lines
  world-is = world-first rules speech speaks.steps opening history closed.legal ∙ (ap (world_after first) events-are ∙ sym (last-accepted first lines))

  pub worlds-are : worlds_of rules speech opening history ≡ worlds first lines
  worlds-are = ap (worlds_through first) events-are ∙ sym (worlds-accepted first lines)

  -- ---- peers

  module _ (p : ℕ) (inside : p < length wires) where
    pub first_peer : (s : PeerState) × (slice_get first.peers p ≡ Some s)
    first_peer = let all = closed.all in get-there first.peers p (omega arith)

    -- the peer of a wire is there in the world of each front of the history
    pub peer-at : (front more : List (Entry Job Said)) → history ≡ front ++ more
        → (s : PeerState) × (slice_get (world_at rules speech opening front).peers p ≡ Some s) × IsSamePeer first_peer.0 s
    peer-at front more parts =
        let led = world-first rules speech speaks.steps opening front (course-at front more parts).legal in
        let found = peer-through first (events_in rules speech front) p first_peer.0 first_peer.1 in
        (found.0, ap (λ (w : World). slice_get w.peers p) led ∙ found.1, found.2)

    -- and has the same capabilities wherever it is
    pub same-capabilities : (front more : List (Entry Job Said)) (s : PeerState) → history ≡ front ++ more → slice_get (world_at rules speech opening front).peers p ≡ Some s
        → (front' more' : List (Entry Job Said)) → history ≡ front' ++ more'
        → (s' : PeerState) × (slice_get (world_at rules speech opening front').peers p ≡ Some s') × (capabilities_of s'.peer ≡ capabilities_of s.peer)
    same-capabilities front more s parts is front' more' parts' =
        let one = peer-at front more parts in
        let other = peer-at front' more' parts' in
        let same : one.0 ≡ s = some-same one.0 s (sym one.1 ∙ is) in
        (other.0, other.1, other.2.capabilities ∙ (sym one.2.capabilities ∙ ap (λ (t : PeerState). capabilities_of t.peer) same))

  -- a peer that is there has a wire
  pub peer-inside : (front more : List (Entry Job Said)) (p : ℕ) (s : PeerState) → history ≡ front ++ more → slice_get (world_at rules speech opening front).peers p ≡ Some s → p < length wires
  peer-inside front more p s parts is =
      let led = world-first rules speech speaks.steps opening front (course-at front more parts).legal in
      let count : length (world_at rules speech opening front).peers ≡ length first.peers = ap (λ (w : World). length w.peers) led ∙ length-through first (events_in rules speech front) in
      let all = closed.all in
      let within = get-within (world_at rules speech opening front).peers p s is in
      omega arith
