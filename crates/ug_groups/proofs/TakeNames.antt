-- The peer that an event is about, by its name.
use Rattle.std.proofs.Common.{◌≡◌, ℕ, zero, suc, Bool, true, false, ◌&&◌, ◌||◌, not, List, [], ◌∷◌, length, map, slice_get, Option, Some, None, refl, sym, ap, ◌∙◌}
use Rattle.std.specs.Prelude.{slice_index_or, nat_le, if◌then◌else◌}
use Rattle.std.specs.Option.{option_map}
use Rattle.std.specs.Cmp.Lexicographic.{nat_list_eq_equiv}
use Rattle.ug_types.specs.Bytes.{same_bytes}
use Rattle.ug_outbound.specs.declared.key.GroupKey.{GroupKey}
use Rattle.ug_events.specs.Events.{Happening, ComesUp, GoesDown, HasPaths, HasNone, HasPolicy, HasEntries, AsksAgain, SendsRequest, SendsList}
use Rattle.ug_world.specs.declared.peer_state.PeerState.{PeerState}
use Rattle.ug_world.specs.World.{World, peer_named}
use Rattle.ug_world.specs.Names.{is_name_among, are_distinct}
use Rattle.ug_world.specs.Kept.{peer_name, ArePeers, IsPlaceOf}
use Rattle.ug_world.specs.Verdicts.{verdict, of_peer, unless_down, unless_up, policy_refusal, orf_refusal}
use Rattle.ug_world.specs.After.{after, come_up, gone_down, with_policy, refiltered, with_orf, changed_peer}
use Rattle.ug_world.specs.Touches.{is_about}
use Rattle.ug_world.proofs.Keeping as keeping
use Rattle.ug_speaker.proofs.Peers.{peer_after, peers-after}
use Rattle.ug_group_rules.specs.Evaluations.{paths_touched}
use Rattle.ug_groups.specs.Turns.{named_by}

first_so : (a b : Bool) → (a && b) ≡ true → a ≡ true
first_so true b e = refl
first_so false b e = absurd cc

second_so : (a b : Bool) → (a && b) ≡ true → b ≡ true
second_so true b e = e
second_so false b e = absurd cc

not_so : (a : Bool) → not a ≡ true → a ≡ false
not_so true e = absurd cc
not_so false e = refl

or_so : (a b : Bool) → b ≡ true → (a || b) ≡ true
or_so true b e = refl
or_so false b e = e

-- ---- names that differ

alike : (x name y : List ℕ) → same_bytes x name ≡ true → same_bytes y x ≡ same_bytes y name
alike x name y e = nat_list_eq_equiv.symm y x ∙ nat_list_eq_equiv.congr x name y e ∙ nat_list_eq_equiv.symm name y

among : (peers : List PeerState) (q : ℕ) (t : PeerState) (name : List ℕ) → slice_get peers q ≡ Some t → same_bytes t.peer.name name ≡ true → is_name_among (map peer_name peers) name ≡ true
among [] q t name is e = absurd cc
among (x ∷ peers) zero t name is e = let same : x ≡ t = cc in ap (λ (b : Bool). b || is_name_among (map peer_name peers) name) (ap (λ (y : PeerState). same_bytes y.peer.name name) same ∙ e)
among (x ∷ peers) (suc q) t name is e = or_so (same_bytes x.peer.name name) (is_name_among (map peer_name peers) name) (among peers q t name is e)

clash-at : (x : PeerState) (peers : List PeerState) (q : ℕ) (t : PeerState) (name : List ℕ) → are_distinct (map peer_name (x ∷ peers)) ≡ true → same_bytes x.peer.name name ≡ true → slice_get peers q ≡ Some t → same_bytes t.peer.name name ≡ true → ⊥
clash-at x peers q t name distinct one is two =
    let none = not_so (is_name_among (map peer_name peers) x.peer.name) (first_so (not (is_name_among (map peer_name peers) x.peer.name)) (are_distinct (map peer_name peers)) distinct) in
    let some = among peers q t x.peer.name is (alike x.peer.name name t.peer.name one ∙ two) in
    absurd cc

pub one-place : (peers : List PeerState) (name : List ℕ) (p q : ℕ) (s t : PeerState) → are_distinct (map peer_name peers) ≡ true → slice_get peers p ≡ Some s → slice_get peers q ≡ Some t
    → same_bytes s.peer.name name ≡ true → same_bytes t.peer.name name ≡ true → p ≡ q
one-place [] name p q s t distinct is at one two = absurd cc
one-place (x ∷ peers) name zero zero s t distinct is at one two = refl
one-place (x ∷ peers) name zero (suc q) s t distinct is at one two =
    let same : x ≡ s = cc in absurd (clash-at x peers q t name distinct (ap (λ (y : PeerState). same_bytes y.peer.name name) same ∙ one) at two)
one-place (x ∷ peers) name (suc p) zero s t distinct is at one two =
    let same : x ≡ t = cc in absurd (clash-at x peers p s name distinct (ap (λ (y : PeerState). same_bytes y.peer.name name) same ∙ two) is one)
one-place (x ∷ peers) name (suc p) (suc q) s t distinct is at one two =
    ap suc (one-place peers name p q s t (second_so (not (is_name_among (map peer_name peers) x.peer.name)) (are_distinct (map peer_name peers)) distinct) is at one two)

pub named-first : (peers : List PeerState) (name : List ℕ) (p : ℕ) (s : PeerState) → are_distinct (map peer_name peers) ≡ true → slice_get peers p ≡ Some s → same_bytes s.peer.name name ≡ true → peer_named peers name ≡ Some s
named-first [] name p s distinct is e = absurd cc
named-first (x ∷ peers) name zero s distinct is e =
    let same : x ≡ s = cc in ap (λ (b : Bool). if b then Some x else peer_named peers name) (ap (λ (y : PeerState). same_bytes y.peer.name name) same ∙ e) ∙ ap (λ (y : PeerState). Some y) same
named-first (x ∷ peers) name (suc p) s distinct is e =
    by (same_bytes x.peer.name name) refl (named-first peers name p s (second_so (not (is_name_among (map peer_name peers) x.peer.name)) (are_distinct (map peer_name peers)) distinct) is e)
  where
    by : (b : Bool) → same_bytes x.peer.name name ≡ b → peer_named peers name ≡ Some s → (if b then Some x else peer_named peers name) ≡ Some s
    by true one rest = absurd (clash-at x peers p s name distinct one is e)
    by false one rest = rest

pub distinct-of : (peers : List PeerState) → ArePeers peers → are_distinct (map peer_name peers) ≡ true
distinct-of peers e = first_so (are_distinct (map peer_name peers)) (nat_le (length peers) 64) e

index-is : (peers : List PeerState) (p : ℕ) (s d : PeerState) → slice_get peers p ≡ Some s → slice_index_or peers p d ≡ s
index-is [] p s d is = absurd cc
index-is (x ∷ peers) zero s d is = cc
index-is (x ∷ peers) (suc p) s d is = index-is peers p s d is

pub name-at : (peers : List PeerState) (name : List ℕ) (p : ℕ) (s : PeerState) → IsPlaceOf peers name p → slice_get peers p ≡ Some s → same_bytes s.peer.name name ≡ true
name-at peers name p s place is = ap (λ (y : PeerState). same_bytes y.peer.name name) (sym (index-is peers p s s is)) ∙ place.named s

-- ---- events that are about a peer

some-name : (a b : List ℕ) → Some a ≡ Some b → a ≡ b
some-name a b e = cc

pub about-is : (e : Happening) (name : List ℕ) (s : PeerState) → named_by e ≡ Some name → is_about e s ≡ same_bytes s.peer.name name
about-is (ComesUp n) name s e = ap (same_bytes s.peer.name) (some-name n name e)
about-is (GoesDown n) name s e = ap (same_bytes s.peer.name) (some-name n name e)
about-is (HasPaths prefix paths) name s e = absurd cc
about-is (HasNone prefix) name s e = absurd cc
about-is (HasPolicy n policy) name s e = ap (same_bytes s.peer.name) (some-name n name e)
about-is (HasEntries n entries) name s e = absurd cc
about-is (AsksAgain n) name s e = ap (same_bytes s.peer.name) (some-name n name e)
about-is (SendsRequest n) name s e = ap (same_bytes s.peer.name) (some-name n name e)
about-is (SendsList n request) name s e = ap (same_bytes s.peer.name) (some-name n name e)

pub about-none : (e : Happening) (s : PeerState) → named_by e ≡ None → is_about e s ≡ false
about-none (ComesUp n) s e = absurd cc
about-none (GoesDown n) s e = absurd cc
about-none (HasPaths prefix paths) s e = refl
about-none (HasNone prefix) s e = refl
about-none (HasPolicy n policy) s e = absurd cc
about-none (HasEntries n entries) s e = refl
about-none (AsksAgain n) s e = absurd cc
about-none (SendsRequest n) s e = absurd cc
about-none (SendsList n request) s e = absurd cc

-- it touches no path
pub touches-none : (e : Happening) (name : List ℕ) → named_by e ≡ Some name → (key : GroupKey) (w : World) → paths_touched e key w ≡ 0
touches-none (ComesUp n) name e key w = refl
touches-none (GoesDown n) name e key w = refl
touches-none (HasPaths prefix paths) name e key w = absurd cc
touches-none (HasNone prefix) name e key w = absurd cc
touches-none (HasPolicy n policy) name e key w = refl
touches-none (HasEntries n entries) name e key w = absurd cc
touches-none (AsksAgain n) name e key w = refl
touches-none (SendsRequest n) name e key w = refl
touches-none (SendsList n request) name e key w = refl

-- it is accepted where there is such a peer
none-refuses : (asked : PeerState → Option ℕ) (o : Option PeerState) → o ≡ None → of_peer o asked ≡ None → ⊥
none-refuses asked o none accepted = refused 1 (sym (ap (λ (x : Option PeerState). of_peer x asked) none) ∙ accepted)
  where
    refused : (n : ℕ) → Some n ≡ None → ⊥
    refused n k = absurd cc

pub named-there : (e : Happening) (name : List ℕ) (w : World) → named_by e ≡ Some name → verdict w e ≡ None → peer_named w.peers name ≡ None → ⊥
unfolding verdict
named-there (ComesUp n) name w e accepted none = none-refuses unless_down (peer_named w.peers n) (ap (λ (x : List ℕ). peer_named w.peers x) (some-name n name e) ∙ none) accepted
named-there (GoesDown n) name w e accepted none = none-refuses unless_up (peer_named w.peers n) (ap (λ (x : List ℕ). peer_named w.peers x) (some-name n name e) ∙ none) accepted
named-there (HasPaths prefix paths) name w e accepted none = absurd cc
named-there (HasNone prefix) name w e accepted none = absurd cc
named-there (HasPolicy n policy) name w e accepted none = none-refuses (λ x. policy_refusal w policy) (peer_named w.peers n) (ap (λ (x : List ℕ). peer_named w.peers x) (some-name n name e) ∙ none) accepted
named-there (HasEntries n entries) name w e accepted none = absurd cc
named-there (AsksAgain n) name w e accepted none = none-refuses unless_up (peer_named w.peers n) (ap (λ (x : List ℕ). peer_named w.peers x) (some-name n name e) ∙ none) accepted
named-there (SendsRequest n) name w e accepted none = none-refuses unless_up (peer_named w.peers n) (ap (λ (x : List ℕ). peer_named w.peers x) (some-name n name e) ∙ none) accepted
named-there (SendsList n request) name w e accepted none = none-refuses (orf_refusal request) (peer_named w.peers n) (ap (λ (x : List ℕ). peer_named w.peers x) (some-name n name e) ∙ none) accepted

-- who comes up was down
pub came-down : (n : List ℕ) (w : World) (s : PeerState) → peer_named w.peers n ≡ Some s → verdict w (ComesUp n) ≡ None → s.up ≡ false
unfolding verdict
came-down n w s is accepted = by s.up (sym (ap (λ (o : Option PeerState). of_peer o unless_down) is) ∙ accepted)
  where
    by : (b : Bool) → if◌then◌else◌ {A = Option ℕ} b (Some 2) None ≡ None → b ≡ false
    by true e = absurd cc
    by false e = refl

-- ---- what the event leaves

-- the peer that it is about, after it
abbrev pub peer_then : Happening → PeerState → PeerState
peer_then (ComesUp name) s = come_up s
peer_then (GoesDown name) s = gone_down s
peer_then (HasPaths prefix paths) s = s
peer_then (HasNone prefix) s = s
peer_then (HasPolicy name policy) s = with_policy policy s
peer_then (HasEntries name entries) s = s
peer_then (AsksAgain name) s = refiltered s
peer_then (SendsRequest name) s = refiltered s
peer_then (SendsList name request) s = with_orf request s

changed-then : (n name : List ℕ) (change : PeerState → PeerState) (s : PeerState) → n ≡ name → same_bytes s.peer.name name ≡ true → changed_peer n change s ≡ change s
changed-then n name change s same e = ap (λ (b : Bool). if b then change s else s) (ap (same_bytes s.peer.name) same ∙ e)

then-is : (e : Happening) (name : List ℕ) (s : PeerState) → named_by e ≡ Some name → same_bytes s.peer.name name ≡ true → peer_after e s ≡ peer_then e s
then-is (ComesUp n) name s e same = changed-then n name come_up s (some-name n name e) same
then-is (GoesDown n) name s e same = changed-then n name gone_down s (some-name n name e) same
then-is (HasPaths prefix paths) name s e same = refl
then-is (HasNone prefix) name s e same = refl
then-is (HasPolicy n policy) name s e same = changed-then n name (with_policy policy) s (some-name n name e) same
then-is (HasEntries n entries) name s e same = refl
then-is (AsksAgain n) name s e same = changed-then n name refiltered s (some-name n name e) same
then-is (SendsRequest n) name s e same = changed-then n name refiltered s (some-name n name e) same
then-is (SendsList n request) name s e same = changed-then n name (with_orf request) s (some-name n name e) same

module _ (e : Happening) (name : List ℕ) (w : World) (p : ℕ) (s : PeerState) (named : named_by e ≡ Some name) (peers : ArePeers w.peers) (is : slice_get w.peers p ≡ Some s) (same : same_bytes s.peer.name name ≡ true) where
  pub then-here : slice_get (after w e).peers p ≡ Some (peer_then e s)
  then-here = peers-after e w p ∙ ap (option_map (peer_after e)) is ∙ ap Some (then-is e name s named same)

  -- it is about no other
  pub about-other : (q : ℕ) (t : PeerState) → (q ≡ p → ⊥) → slice_get w.peers q ≡ Some t → is_about e t ≡ false
  about-other q t differs at = about-is e name t named ∙ by (same_bytes t.peer.name name) refl
    where
      by : (b : Bool) → same_bytes t.peer.name name ≡ b → b ≡ false
      by true so = absurd (differs (one-place w.peers name q p t s (distinct-of w.peers peers) at is so same))
      by false so = refl

  pub then-there : (q : ℕ) → (q ≡ p → ⊥) → slice_get (after w e).peers q ≡ slice_get w.peers q
  then-there q differs = by (slice_get w.peers q) refl
    where
      by : (o : Option PeerState) → slice_get w.peers q ≡ o → slice_get (after w e).peers q ≡ o
      by None at = peers-after e w q ∙ ap (option_map (peer_after e)) at
      by (Some t) at = keeping.others w e q t at (about-other q t differs at)

-- an event about no peer leaves all of them
pub then-all : (e : Happening) (w : World) → named_by e ≡ None → (q : ℕ) → slice_get (after w e).peers q ≡ slice_get w.peers q
then-all e w none q = by (slice_get w.peers q) refl
  where
    by : (o : Option PeerState) → slice_get w.peers q ≡ o → slice_get (after w e).peers q ≡ o
    by None at = peers-after e w q ∙ ap (option_map (peer_after e)) at
    by (Some t) at = keeping.others w e q t at (about-none e t none)
