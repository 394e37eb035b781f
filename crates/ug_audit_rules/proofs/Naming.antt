-- Peers by name.
use Rattle.std.proofs.Common.{◌≡◌, ℕ, zero, suc, ◌+◌, Bool, true, false, List, [], ◌∷◌, map, slice_get, Option, Some, None, refl, sym, ◌∙◌, ap, arith}
use Rattle.std.specs.Prelude.{◌||◌, not, if◌then◌else◌}
use Rattle.std.specs.Cmp.Lexicographic.{nat_list_eq_equiv}
use Rattle.ug_types.specs.Bytes.{same_bytes}
use Rattle.ug_events.specs.Events.{Happening, ComesUp, GoesDown, HasPaths, HasNone, HasPolicy, HasEntries, AsksAgain, SendsRequest, SendsList}
use Rattle.ug_world.specs.declared.peer_state.PeerState.{PeerState}
use Rattle.ug_world.specs.World.{World, peer_named}
use Rattle.ug_world.specs.Names.{is_name_among, are_distinct}
use Rattle.ug_world.specs.Kept.{peer_name}
use Rattle.ug_world.specs.Verdicts.{verdict, of_peer, unless_down}
use Rattle.ug_world.specs.After.{after, come_up, gone_down, refiltered, with_orf, with_policy, changed_peer}
use Rattle.ug_world.proofs.Changing.{names_kept}
use Rattle.ug_speaker.proofs.Bools.{both_so, not_so, true_or, or_true}
use Rattle.ug_speaker.proofs.Peers.{peer_after}

-- the names stay
pub names-after : (e : Happening) (w : World) → map peer_name (after w e).peers ≡ map peer_name w.peers
unfolding after
names-after (ComesUp name) w = names_kept peer_name name come_up w.peers (λ s. refl)
names-after (GoesDown name) w = names_kept peer_name name gone_down w.peers (λ s. refl)
names-after (AsksAgain name) w = names_kept peer_name name refiltered w.peers (λ s. refl)
names-after (SendsRequest name) w = names_kept peer_name name refiltered w.peers (λ s. refl)
names-after (SendsList name request) w = names_kept peer_name name (with_orf request) w.peers (λ s. refl)
names-after (HasPolicy name policy) w = names_kept peer_name name (with_policy policy) w.peers (λ s. refl)
names-after (HasEntries name entries) w = refl
names-after (HasPaths prefix paths) w = refl
names-after (HasNone prefix) w = refl

-- a name that is the same as another is among the same names
among_alike : (x name : List ℕ) (names : List (List ℕ)) → same_bytes x name ≡ true → is_name_among names x ≡ is_name_among names name
among_alike x name [] e = refl
among_alike x name (n ∷ names) e =
    ap (λ (b : Bool). b || is_name_among names x) (nat_list_eq_equiv.symm n x ∙ nat_list_eq_equiv.congr x name n e ∙ nat_list_eq_equiv.symm name n)
    ∙ ap (λ (b : Bool). same_bytes n name || b) (among_alike x name names e)

is_among : (peers : List PeerState) (p : ℕ) (s : PeerState) (name : List ℕ) → slice_get peers p ≡ Some s → same_bytes s.peer.name name ≡ true → is_name_among (map peer_name peers) name ≡ true
is_among [] p s name there same = absurd cc
is_among (x ∷ peers) zero s name there same =
    let one : x ≡ s = cc in
    true_or (same_bytes x.peer.name name) (is_name_among (map peer_name peers) name) (ap (λ (t : PeerState). same_bytes t.peer.name name) one ∙ same)
is_among (x ∷ peers) (suc p) s name there same = or_true (same_bytes x.peer.name name) (is_name_among (map peer_name peers) name) (is_among peers p s name there same)

-- where names are distinct, the peer of a name is the one that has it
named_is : (peers : List PeerState) (p : ℕ) (s : PeerState) (name : List ℕ) → are_distinct (map peer_name peers) ≡ true → slice_get peers p ≡ Some s → same_bytes s.peer.name name ≡ true → peer_named peers name ≡ Some s
named_is [] p s name distinct there same = absurd cc
named_is (x ∷ peers) zero s name distinct there same =
    let one : x ≡ s = cc in
    ap (λ (b : Bool). if b then Some x else peer_named peers name) (ap (λ (t : PeerState). same_bytes t.peer.name name) one ∙ same) ∙ ap (λ (t : PeerState). Some t) one
named_is (x ∷ peers) (suc p) s name distinct there same =
    let parts = both_so (not (is_name_among (map peer_name peers) x.peer.name)) (are_distinct (map peer_name peers)) distinct in
    by (same_bytes x.peer.name name) refl (not_so (is_name_among (map peer_name peers) x.peer.name) parts.0) (is_among peers p s name there same) (named_is peers p s name parts.1 there same)
  where
    by : (b : Bool) → same_bytes x.peer.name name ≡ b → is_name_among (map peer_name peers) x.peer.name ≡ false → is_name_among (map peer_name peers) name ≡ true → peer_named peers name ≡ Some s
        → (if b then Some x else peer_named peers name) ≡ Some s
    by true here apart there rest = absurd (let clash = sym (sym (among_alike x.peer.name name (map peer_name peers) here) ∙ apart) ∙ there in cc)
    by false here apart there rest = rest

abbrev unless_by : Bool → Option ℕ
unless_by b = if b then Some 2 else None

was_down : (o : Option PeerState) (s : PeerState) → o ≡ Some s → of_peer o unless_down ≡ None → s.up ≡ false
was_down None s is e = absurd cc
was_down (Some t) s is e = let one : t ≡ s = cc in ap (λ (u : PeerState). u.up) (sym one) ∙ by t.up refl e
  where
    by : (b : Bool) → t.up ≡ b → unless_by b ≡ None → t.up ≡ false
    by true is e = absurd cc
    by false is e = is

same_count : (n : ℕ) → n ≡ n + 1 → ⊥
same_count n e = omega (arith, e)

where_named : (name : List ℕ) (change : PeerState → PeerState) (s : PeerState) → (change s).sessions ≡ s.sessions → (changed_peer name change s).sessions ≡ s.sessions
where_named name change s same = by (same_bytes s.peer.name name)
  where
    by : (b : Bool) → (if b then change s else s).sessions ≡ s.sessions
    by true = same
    by false = refl

-- A peer that has had one more session was not up.
pub comes_from_down : (e : Happening) (w : World) (p : ℕ) (s : PeerState) → are_distinct (map peer_name w.peers) ≡ true → slice_get w.peers p ≡ Some s → verdict w e ≡ None → (peer_after e s).sessions ≡ s.sessions + 1 → s.up ≡ false
unfolding verdict
comes_from_down (ComesUp name) w p s distinct there accepted more = by (same_bytes s.peer.name name) refl more
  where
    by : (b : Bool) → same_bytes s.peer.name name ≡ b → (if b then come_up s else s).sessions ≡ s.sessions + 1 → s.up ≡ false
    by true same more = was_down (peer_named w.peers name) s (named_is w.peers p s name distinct there same) accepted
    by false other more = absurd (same_count s.sessions more)
comes_from_down (GoesDown name) w p s distinct there accepted more = absurd (same_count s.sessions (sym (where_named name gone_down s refl) ∙ more))
comes_from_down (AsksAgain name) w p s distinct there accepted more = absurd (same_count s.sessions (sym (where_named name refiltered s refl) ∙ more))
comes_from_down (SendsRequest name) w p s distinct there accepted more = absurd (same_count s.sessions (sym (where_named name refiltered s refl) ∙ more))
comes_from_down (SendsList name request) w p s distinct there accepted more = absurd (same_count s.sessions (sym (where_named name (with_orf request) s refl) ∙ more))
comes_from_down (HasPolicy name policy) w p s distinct there accepted more = absurd (same_count s.sessions (sym (where_named name (with_policy policy) s refl) ∙ more))
comes_from_down (HasEntries name entries) w p s distinct there accepted more = absurd (same_count s.sessions more)
comes_from_down (HasPaths prefix paths) w p s distinct there accepted more = absurd (same_count s.sessions more)
comes_from_down (HasNone prefix) w p s distinct there accepted more = absurd (same_count s.sessions more)
