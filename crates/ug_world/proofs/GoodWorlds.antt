-- A good world stays good after each event that keeps its rules.
use Rattle.std.proofs.Common.{◌≡◌, ℕ, ◌+◌, Bool, true, false, List, [], ◌∷◌, map, Option, Some, None, refl, ◌∙◌, subst}
use Rattle.std.specs.Prelude.{◌==◌, ◌&&◌, if◌then◌else◌}
use Rattle.std.specs.List.{list_all}
use Rattle.ug_types.specs.declared.family.Family.{Family}
use Rattle.ug_types.specs.declared.family.Family.TheVariants.{V4}
use Rattle.ug_types.specs.declared.route.Learned.TheVariants as learned
use Rattle.ug_types.specs.Bytes.{same_bytes}
use Rattle.ug_types.specs.Keys.{same_prefix}
use Rattle.ug_message.specs.Spellable.{is_number, is_prefix, is_address, can_be_spelled}
use Rattle.ug_message.proofs.Formed.{both, and}
use Rattle.ug_outbound.specs.declared.settings.Local.{Local}
use Rattle.ug_events.specs.Events.{GivenPath, Happening, ComesUp, GoesDown, HasPaths, HasNone, HasPolicy, HasEntries, AsksAgain, SendsRequest, SendsList, AreGiven, is_in_range, IsEvent}
use Rattle.ug_world.specs.declared.peer_state.PeerState.{PeerState}
use Rattle.ug_world.specs.World.{World, peer_named, learned_from}
use Rattle.ug_world.specs.Verdicts.{learned_of, sender, path_of}
use Rattle.ug_world.specs.After.{come_up, gone_down, with_policy, refiltered, with_orf, changed_peer, after}
use Rattle.ug_world.specs.Good.{is_peer_in_range, is_learned_in_range, is_path_good, IsGoodWorld}
use Rattle.ug_world.proofs.GoodRoutes.{good-inserted, good-removed, path-whole}

-- ---- peers

abbrev pub in_range : PeerState → Bool
in_range s = is_peer_in_range s.peer

peers_changed : (name : List ℕ) (change : PeerState → PeerState) (peers : List PeerState) → ((s : PeerState) → in_range (change s) ≡ in_range s) → list_all in_range (map (changed_peer name change) peers) ≡ list_all in_range peers
peers_changed name change [] keeps = refl
peers_changed name change (s ∷ peers) keeps = λ i. by (same_bytes s.peer.name name) i && peers_changed name change peers keeps i
  where
    by : (b : Bool) → in_range (if b then change s else s) ≡ in_range s
    by true = keeps s
    by false = refl

world_with : (w : World) (name : List ℕ) (change : PeerState → PeerState) (version : ℕ) → ((s : PeerState) → in_range (change s) ≡ in_range s) → IsGoodWorld w
    → IsGoodWorld (record { local = w.local; tables = w.tables; policies = w.policies; peers = map (changed_peer name change) w.peers; routes = w.routes; version = version })
world_with w name change version keeps good = record {
  in_range = record { asn = good.in_range.asn; cluster = good.in_range.cluster; maps = good.in_range.maps; peers = peers_changed name change w.peers keeps ∙ good.in_range.peers };
  few_sets = good.few_sets;
  routes = good.routes;
}

named_in_range : (peers : List PeerState) (name : List ℕ) (s : PeerState) → list_all in_range peers ≡ true → peer_named peers name ≡ Some s → in_range s ≡ true
named_in_range [] name s h e = absurd cc
named_in_range (x ∷ peers) name s h e = by (same_bytes x.peer.name name) e (λ rest. named_in_range peers name s (both (in_range x) (list_all in_range peers) h).1 rest)
  where
    by : (b : Bool) → (if b then Some x else peer_named peers name) ≡ Some s → (peer_named peers name ≡ Some s → in_range s ≡ true) → in_range s ≡ true
    by true e rest = let same : x ≡ s = cc in subst (λ (t : PeerState). in_range t ≡ true) same (both (in_range x) (list_all in_range peers) h).0
    by false e rest = rest e

-- ---- paths

from_peer : (local : Local) (s : PeerState) → in_range s ≡ true → is_learned_in_range (learned_from local s) ≡ true
from_peer local s h = by (s.peer.asn == local.asn)
  where
    by : (b : Bool) → is_learned_in_range (if b then learned.Internal s.peer.client s.peer.router_id else learned.External) ≡ true
    by true = (both (is_address V4 s.peer.router_id) (is_address s.peer.family s.peer.local_address) h).0
    by false = refl

from_sender : (local : Local) (peers : List PeerState) (from : Option (List ℕ)) → list_all in_range peers ≡ true → is_learned_in_range (learned_of local (sender peers from)) ≡ true
from_sender local peers None h = refl
from_sender local peers (Some name) h = by (peer_named peers name) refl
  where
    by : (o : Option PeerState) → peer_named peers name ≡ o → is_learned_in_range (learned_of local o) ≡ true
    by None is = refl
    by (Some s) is = from_peer local s (named_in_range peers name s h is)

given_good : (w : World) (family : Family) (given : List GivenPath) → list_all in_range w.peers ≡ true → AreGiven given → list_all (is_in_range family) given ≡ true → list_all (is_path_good family) (map (path_of w) given) ≡ true
given_good w family [] peers are h = refl
given_good w family (g ∷ given) peers are h =
    let parts = both (is_in_range family g) (list_all (is_in_range family) given) h in
    let here = both (is_number g.id) (can_be_spelled family g.attrs) parts.0 in
    and (is_path_good family (path_of w g)) (list_all (is_path_good family) (map (path_of w) given))
    (path-whole family (path_of w g) (record { positive = are.0.0; number = here.0; within = are.0.1; spelled = here.1; learned_is = from_sender w.local w.peers g.from peers }))
    (given_good w family given peers are.1 parts.1)

-- ---- an event

pub good-after : (w : World) (e : Happening) → IsGoodWorld w → IsEvent e → IsGoodWorld (after w e)
unfolding after
good-after w (ComesUp name) good is = world_with w name come_up (w.version + 1) (λ s. refl) good
good-after w (GoesDown name) good is = world_with w name gone_down (w.version + 1) (λ s. refl) good
good-after w (AsksAgain name) good is = world_with w name refiltered (w.version + 1) (λ s. refl) good
good-after w (SendsRequest name) good is = world_with w name refiltered (w.version + 1) (λ s. refl) good
good-after w (SendsList name request) good is = world_with w name (with_orf request) (w.version + 1) (λ s. refl) good
good-after w (HasPolicy name policy) good is = world_with w name (with_policy policy) (w.version + 1) (λ s. refl) good
good-after w (HasEntries name entries) good is = record {
  in_range = record { asn = good.in_range.asn; cluster = good.in_range.cluster; maps = good.in_range.maps; peers = good.in_range.peers };
  few_sets = good.few_sets;
  routes = good.routes;
}
good-after w (HasPaths prefix paths) good is =
    let parts = both (is_prefix prefix.family prefix) (list_all (is_in_range prefix.family) paths) is.1.1 in
    record {
      in_range = record { asn = good.in_range.asn; cluster = good.in_range.cluster; maps = good.in_range.maps; peers = good.in_range.peers };
      few_sets = good.few_sets;
      routes =
          good-inserted w.routes prefix (map (path_of w) paths) good.routes
          (and (is_prefix prefix.family prefix) (list_all (is_path_good prefix.family) (map (path_of w) paths)) parts.0 (given_good w prefix.family paths good.in_range.peers is.1.0 parts.1));
    }
good-after w (HasNone prefix) good is = record {
  in_range = record { asn = good.in_range.asn; cluster = good.in_range.cluster; maps = good.in_range.maps; peers = good.in_range.peers };
  few_sets = good.few_sets;
  routes = good-removed (same_prefix prefix) w.routes good.routes;
}
