-- The wire of each peer, and the bytes of each of its sessions.
use Rattle.std.proofs.Common.{◌≡◌, ℕ, zero, suc, ◌+◌, ◌<◌, List, [], ◌∷◌, length, slice_get, Option, Some, None, refl, sym, ◌∙◌, subst, arith}
use Rattle.std.specs.Option.{option_map}
use Rattle.ug_events.specs.Events.{Happening, Saying}
use Rattle.ug_events.specs.Reads.{Reads}
use Rattle.ug_world.specs.declared.peer_state.PeerState.{PeerState}
use Rattle.ug_world.specs.World.{World}
use Rattle.ug_world.specs.After.{after}
use Rattle.ug_world.specs.Worlds.{last_world}
use Rattle.ug_speaker.specs.Told.{world_after}
use Rattle.ug_event_loop.specs.Contents.{WireTold, Content, EachFrom}
use Rattle.ug_event_loop.proofs.EachWires.{EachWireFrom}
use Rattle.ug_event_loop.proofs.Lists.{get-within}
use Rattle.ug_speaker.proofs.Peers.{peer_after, peers-after}
use Rattle.ug_event_loop.proofs.StoryLines.{accepted, last-accepted}

-- ---- peers stay

sooner : (change : PeerState → PeerState) (o : Option PeerState) (s : PeerState) → option_map change o ≡ Some s → (s' : PeerState) × (o ≡ Some s')
sooner change None s is = absurd cc
sooner change (Some s') s is = (s', refl)

peer_before : (w : World) (es : List Happening) (p : ℕ) (s : PeerState) → slice_get (world_after w es).peers p ≡ Some s → (s' : PeerState) × (slice_get w.peers p ≡ Some s')
peer_before w [] p s is = (s, is)
peer_before w (e ∷ es) p s is =
    let next = peer_before (after w e) es p s is in
    sooner (peer_after e) (slice_get w.peers p) next.0 (sym (peers-after e w p) ∙ next.1)

-- a peer of the last world was there from the first
pub peer-there : (w : World) (lines : List (Reads Saying)) (p : ℕ) (s : PeerState) → slice_get (last_world w lines).peers p ≡ Some s → p < length w.peers
peer-there w lines p s is =
    let first = peer_before w (accepted w lines) p s (subst (λ (v : World). slice_get v.peers p ≡ Some s) (last-accepted w lines) is) in
    get-within w.peers p first.0 first.1

-- ---- wires by their place

pub record IsWireAt (P : ℕ → WireTold → List Content → List ℕ → Type 0) (q : ℕ) (wires : List WireTold) (contents : List (List Content)) (lost : List (List ℕ)) (p : ℕ) : Type 0 where
  pub wire : WireTold
  pub content : List Content
  pub numbers : List ℕ
  pub there : slice_get wires p ≡ Some wire
  pub holds : slice_get contents p ≡ Some content
  pub loses : slice_get lost p ≡ Some numbers
  pub is : P (q + p) wire content numbers

pub wire-at : (P : ℕ → WireTold → List Content → List ℕ → Type 0) (q : ℕ) (wires : List WireTold) (contents : List (List Content)) (lost : List (List ℕ)) (p : ℕ) → EachWireFrom P q wires contents lost → p < length wires
    → IsWireAt P q wires contents lost p
wire-at P q [] [] [] p h less = absurd (omega arith)
wire-at P q [] [] (l ∷ lost) p h less = absurd h
wire-at P q [] (c ∷ contents) lost p h less = absurd h
wire-at P q (wire ∷ wires) [] lost p h less = absurd h
wire-at P q (wire ∷ wires) (c ∷ contents) [] p h less = absurd h
wire-at P q (wire ∷ wires) (c ∷ contents) (l ∷ lost) zero h less =
    let same : q ≡ q + 0 = omega arith in
    record { wire = wire; content = c; numbers = l; there = refl; holds = refl; loses = refl; is = subst (λ k. P k wire c l) same h.0 }
wire-at P q (wire ∷ wires) (c ∷ contents) (l ∷ lost) (suc p) h less =
    let at = wire-at P (q + 1) wires contents lost p h.1 (omega arith) in
    let same : q + 1 + p ≡ q + suc p = omega arith in
    record { wire = at.wire; content = at.content; numbers = at.numbers; there = at.there; holds = at.holds; loses = at.loses; is = subst (λ k. P k at.wire at.content at.numbers) same at.is }

-- ---- sessions by their place

pub record IsSessionAt (P : ℕ → List ℕ → Content → Type 0) (q : ℕ) (sessions : List (List ℕ)) (contents : List Content) (k : ℕ) : Type 0 where
  pub bytes : List ℕ
  pub content : Content
  pub there : slice_get sessions k ≡ Some bytes
  pub holds : slice_get contents k ≡ Some content
  pub is : P (q + k) bytes content

pub session-at : (P : ℕ → List ℕ → Content → Type 0) (q : ℕ) (sessions : List (List ℕ)) (contents : List Content) (k : ℕ) → EachFrom P q sessions contents → k < length sessions → IsSessionAt P q sessions contents k
session-at P q [] contents k h less = absurd (omega arith)
session-at P q (bytes ∷ sessions) [] k h less = absurd h
session-at P q (bytes ∷ sessions) (c ∷ contents) zero h less =
    let same : q ≡ q + 0 = omega arith in
    record { bytes = bytes; content = c; there = refl; holds = refl; is = subst (λ n. P n bytes c) same h.0 }
session-at P q (bytes ∷ sessions) (c ∷ contents) (suc k) h less =
    let at = session-at P (q + 1) sessions contents k h.1 (omega arith) in
    let same : q + 1 + k ≡ q + suc k = omega arith in
    record { bytes = at.bytes; content = at.content; there = at.there; holds = at.holds; is = subst (λ n. P n at.bytes at.content) same at.is }
