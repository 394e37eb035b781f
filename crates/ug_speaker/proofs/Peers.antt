-- What an event makes of a peer.
use Rattle.std.proofs.Common.{◌≡◌, ℕ, ◌+◌, ◌≤◌, ◌⊎◌, inl, inr, Bool, true, false, List, slice_get, Option, Some, None, refl, ap, arith}
use Rattle.std.specs.Prelude.{if◌then◌else◌}
use Rattle.std.specs.Option.{option_map}
use Rattle.std.proofs.lemmas.Option.{slice_get-map}
use Rattle.ug_types.specs.Bytes.{same_bytes}
use Rattle.ug_events.specs.Events.{Happening, ComesUp, GoesDown, HasPaths, HasNone, HasPolicy, HasEntries, AsksAgain, SendsRequest, SendsList}
use Rattle.ug_world.specs.declared.peer_state.PeerState.{PeerState}
use Rattle.ug_world.specs.World.{World}
use Rattle.ug_world.specs.After.{come_up, gone_down, with_policy, refiltered, with_orf, changed_peer, after}
use Rattle.ug_world.specs.Touches.{is_about}
use Rattle.ug_speaker.specs.Speech.{capabilities_of}

-- the peer after an event
abbrev pub peer_after : Happening → PeerState → PeerState
peer_after (ComesUp name) s = changed_peer name come_up s
peer_after (GoesDown name) s = changed_peer name gone_down s
peer_after (AsksAgain name) s = changed_peer name refiltered s
peer_after (SendsRequest name) s = changed_peer name refiltered s
peer_after (SendsList name request) s = changed_peer name (with_orf request) s
peer_after (HasPolicy name policy) s = changed_peer name (with_policy policy) s
peer_after (HasEntries name entries) s = s
peer_after (HasPaths prefix paths) s = s
peer_after (HasNone prefix) s = s

same_option : (o : Option PeerState) → o ≡ option_map (λ s. s) o
same_option None = refl
same_option (Some s) = refl

pub peers-after : (e : Happening) (w : World) (p : ℕ) → slice_get (after w e).peers p ≡ option_map (peer_after e) (slice_get w.peers p)
unfolding after
peers-after (ComesUp name) w p = slice_get-map (changed_peer name come_up) w.peers p
peers-after (GoesDown name) w p = slice_get-map (changed_peer name gone_down) w.peers p
peers-after (AsksAgain name) w p = slice_get-map (changed_peer name refiltered) w.peers p
peers-after (SendsRequest name) w p = slice_get-map (changed_peer name refiltered) w.peers p
peers-after (SendsList name request) w p = slice_get-map (changed_peer name (with_orf request)) w.peers p
peers-after (HasPolicy name policy) w p = slice_get-map (changed_peer name (with_policy policy)) w.peers p
peers-after (HasEntries name entries) w p = same_option (slice_get w.peers p)
peers-after (HasPaths prefix paths) w p = same_option (slice_get w.peers p)
peers-after (HasNone prefix) w p = same_option (slice_get w.peers p)

-- It is in the same session, or down, or in one session more.
abbrev pub Moved : PeerState → PeerState → Type 0
Moved s s' =
    ((s'.up ≡ s.up) × (s'.sessions ≡ s.sessions)) ⊎ (((s'.up ≡ false) × (s'.sessions ≡ s.sessions)) ⊎ ((s'.up ≡ true) × (s'.sessions ≡ s.sessions + 1)))

pub record IsNextOf (s s' : PeerState) : Type 0 where
  pub capabilities : capabilities_of s'.peer ≡ capabilities_of s.peer
  pub enhanced : s'.peer.enhanced_refresh ≡ s.peer.enhanced_refresh
  pub named : s'.peer.name ≡ s.peer.name
  pub moved : Moved s s'

still : (s : PeerState) → IsNextOf s s
still s = record { capabilities = refl; enhanced = refl; named = refl; moved = inl (refl, refl) }

one_changed : (name : List ℕ) (change : PeerState → PeerState) (s : PeerState) → IsNextOf s (change s) → IsNextOf s (changed_peer name change s)
one_changed name change s next = by (same_bytes s.peer.name name)
  where
    by : (b : Bool) → IsNextOf s (if b then change s else s)
    by true = next
    by false = still s

pub next-of : (e : Happening) (s : PeerState) → IsNextOf s (peer_after e s)
next-of (ComesUp name) s = one_changed name come_up s (record { capabilities = refl; enhanced = refl; named = refl; moved = inr (inr (refl, refl)) })
next-of (GoesDown name) s = one_changed name gone_down s (record { capabilities = refl; enhanced = refl; named = refl; moved = inr (inl (refl, refl)) })
next-of (AsksAgain name) s = one_changed name refiltered s (record { capabilities = refl; enhanced = refl; named = refl; moved = inl (refl, refl) })
next-of (SendsRequest name) s = one_changed name refiltered s (record { capabilities = refl; enhanced = refl; named = refl; moved = inl (refl, refl) })
next-of (SendsList name request) s = one_changed name (with_orf request) s (record { capabilities = refl; enhanced = refl; named = refl; moved = inl (refl, refl) })
next-of (HasPolicy name policy) s = one_changed name (with_policy policy) s (record { capabilities = refl; enhanced = refl; named = refl; moved = inl (refl, refl) })
next-of (HasEntries name entries) s = still s
next-of (HasPaths prefix paths) s = still s
next-of (HasNone prefix) s = still s

-- It has had no fewer sessions than before.
pub sessions-rise : (s s' : PeerState) → IsNextOf s s' → s.sessions ≤ s'.sessions
sessions-rise s s' next =
    elim next.moved [
      | inl stays ↦ let same = stays.1 in omega arith
      | inr other ↦ elim other [ inl down ↦ let same = down.1 in omega arith | inr up ↦ let more = up.1 in omega arith ]
    ]

pub about-alike : (e : Happening) (s s' : PeerState) → s'.peer.name ≡ s.peer.name → is_about e s' ≡ is_about e s
about-alike (ComesUp name) s s' same = ap (λ (n : List ℕ). same_bytes n name) same
about-alike (GoesDown name) s s' same = ap (λ (n : List ℕ). same_bytes n name) same
about-alike (AsksAgain name) s s' same = ap (λ (n : List ℕ). same_bytes n name) same
about-alike (SendsRequest name) s s' same = ap (λ (n : List ℕ). same_bytes n name) same
about-alike (SendsList name request) s s' same = ap (λ (n : List ℕ). same_bytes n name) same
about-alike (HasPolicy name policy) s s' same = ap (λ (n : List ℕ). same_bytes n name) same
about-alike (HasEntries name entries) s s' same = refl
about-alike (HasPaths prefix paths) s s' same = refl
about-alike (HasNone prefix) s s' same = refl
