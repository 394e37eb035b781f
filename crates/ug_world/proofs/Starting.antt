-- What an event that is accepted, and what a world is made of, are known to be.
use Rattle.std.proofs.Common.{◌≡◌, ℕ, Bool, true, false, ◌&&◌, List, [], ◌∷◌, length, map, Option, Some, None, refl, ap, sym, ◌∙◌, subst}
use Rattle.std.specs.Prelude.{nat_le, nat_lt, not, if◌then◌else◌}
use Rattle.std.specs.List.{list_all}
use Rattle.std.proofs.lemmas.List.{length-map}
use Rattle.ug_types.specs.Ip.{IpPrefix}
use Rattle.ug_policy.specs.Order.{repeats}
use Rattle.ug_outbound.specs.declared.peer.Peer.{Peer}
use Rattle.ug_events.specs.Events.{GivenPath, HasPaths}
use Rattle.ug_world.specs.declared.parts.WorldParts.{WorldParts}
use Rattle.ug_world.specs.declared.peer_state.PeerState.{PeerState}
use Rattle.ug_world.specs.World.{World}
use Rattle.ug_world.specs.Verdicts.{with_paths, is_overfull, is_sender_known, given_id, verdict}
use Rattle.ug_world.specs.Names.{are_distinct}
use Rattle.ug_world.specs.Kept.{peer_name, name_of, are_sessions_within, ArePeers}
use Rattle.ug_world.specs.Parts.{is_local_good, are_few, names_of, peer_names, is_map_good, is_policy_good, is_peer_good, IsGood, fresh}

first_of : (a b : Bool) → (a && b) ≡ true → a ≡ true
first_of true b e = refl
first_of false b e = e

abbrev first_of_four : Bool → Bool → Bool → Bool → Option ℕ
first_of_four a b c d = if a then Some 1 else if b then Some 7 else if c then Some 8 else if d then Some 9 else None

last_of : (a b c d : Bool) → first_of_four a b c d ≡ None → d ≡ false
last_of true b c d e = absurd cc
last_of false true c d e = absurd cc
last_of false false true d e = absurd cc
last_of false false false true e = absurd cc
last_of false false false false e = refl

-- paths that are accepted have room
pub room : (w : World) (prefix : IpPrefix) (given : List GivenPath) → verdict w (HasPaths prefix given) ≡ None → is_overfull (with_paths w prefix given) ≡ false
unfolding verdict
room w prefix given e = last_of (not (list_all (is_sender_known w.peers) given)) (repeats given_id given) (nat_lt 8 (length given)) (is_overfull (with_paths w prefix given)) e

fresh_names : (ps : List Peer) → map peer_name (map fresh ps) ≡ peer_names ps
fresh_names [] = refl
fresh_names (p ∷ ps) = ap (λ (names : List (List ℕ)). p.name ∷ names) (fresh_names ps)

pub fresh_sessions : (ps : List Peer) → are_sessions_within 0 (map fresh ps) ≡ true
fresh_sessions [] = refl
fresh_sessions (p ∷ ps) = fresh_sessions ps

abbrev rest_of : WorldParts → Bool
rest_of p =
    list_all (is_map_good (names_of p.lists.items)) p.maps.items
    && (list_all (is_policy_good (names_of p.lists.items) (names_of p.maps.items)) p.policies.items
    && list_all (is_peer_good (names_of p.policies.items)) p.peers.items)

good_lists : (a b c d e f : Bool) → (a && (b && (c && (d && (e && f))))) ≡ true → b ≡ true
good_lists true true c d e f h = refl
good_lists true false c d e f h = absurd cc
good_lists false b c d e f h = absurd cc

good_peers : (a b c d e f : Bool) → (a && (b && (c && (d && (e && f))))) ≡ true → e ≡ true
good_peers true true true true true f h = refl
good_peers true true true true false f h = absurd cc
good_peers true true true false e f h = absurd cc
good_peers true true false d e f h = absurd cc
good_peers true false c d e f h = absurd cc
good_peers false b c d e f h = absurd cc

module _ (p : WorldParts) (good : IsGood p) where
  pub lists_differ : are_distinct (map name_of p.lists.items) ≡ true
  lists_differ =
      first_of (are_distinct (names_of p.lists.items)) (nat_le (length (names_of p.lists.items)) 64)
      (good_lists (is_local_good p.local) (are_few (names_of p.lists.items)) (are_few (names_of p.maps.items)) (are_few (names_of p.policies.items)) (are_few (peer_names p.peers.items)) (rest_of p) good)

  pub fresh_peers_good : (seats : List PeerState) → seats ≡ map fresh p.peers.items → ArePeers seats
  fresh_peers_good seats is =
      subst ArePeers (sym is)
      (ap (λ (names : List (List ℕ)). are_distinct names && nat_le (length (map fresh p.peers.items)) 64) (fresh_names p.peers.items)
      ∙ ap (λ (n : ℕ). are_distinct (peer_names p.peers.items) && nat_le n 64) (length-map p.peers.items fresh ∙ sym (length-map p.peers.items (λ (q : Peer). q.name)))
      ∙ good_peers (is_local_good p.local) (are_few (names_of p.lists.items)) (are_few (names_of p.maps.items)) (are_few (names_of p.policies.items)) (are_few (peer_names p.peers.items)) (rest_of p) good)
