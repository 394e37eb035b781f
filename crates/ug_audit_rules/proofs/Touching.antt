-- What a peer should have changes under no keys but those that an event can change.
use Rattle.std.proofs.Common.{◌≡◌, ℕ, Bool, true, false, List, [], ◌++◌, slice_get, Option, Some, None, refl, sym, ◌∙◌, ap, subst}
use Rattle.std.specs.Prelude.{option_and_then, if◌then◌else◌}
use Rattle.std.proofs.lemmas.List.Folds.{list_any-append}
use Rattle.ug_types.specs.Ip.{IpPrefix}
use Rattle.ug_types.specs.Attributes.{Attributes}
use Rattle.ug_types.specs.Bytes.{same_bytes}
use Rattle.ug_types.specs.Keys.{same_prefix, same_key}
use Rattle.ug_types.specs.declared.key.Key.{Key}
use Rattle.ug_types.specs.declared.route.Path.{Path}
use Rattle.ug_message.specs.Tables.{among}
use Rattle.ug_events.specs.Events.{Happening, ComesUp, GoesDown, HasPaths, HasNone, HasPolicy, HasEntries, AsksAgain, SendsRequest, SendsList}
use Rattle.ug_world.specs.declared.peer_state.PeerState.{PeerState}
use Rattle.ug_world.specs.World.{World, paths_to}
use Rattle.ug_world.specs.Private.{keys_to, keys_of, path_at, told_of, table_of_peer, private_table}
use Rattle.ug_world.specs.After.{after}
use Rattle.ug_world.proofs.Keeping.{untouched}
use Rattle.ug_world.proofs.Relisting.{neither}
use Rattle.ug_speaker.proofs.PathKeys.{path_among, path_in_routes}
use Rattle.ug_speaker.proofs.SameKeys.{prefix-is}
use Rattle.ug_speaker.proofs.Peers.{peer_after, next-of}
use Rattle.ug_audit_rules.specs.Touched.{keys_where, keys_at}

-- ---- a route of a private table

-- where a peer has a route there is a path
path_of_route : (w : World) (p : ℕ) (s : PeerState) (key : Key) (a : Attributes) → slice_get w.peers p ≡ Some s → private_table p w key ≡ Some a
    → (path : Path) × (path_at s.peer.add_path key.id (paths_to w.routes key.prefix) ≡ Some path)
unfolding private_table
path_of_route w p s key a is there = by s.up (path_at s.peer.add_path key.id (paths_to w.routes key.prefix)) refl (sym (ap (λ (o : Option PeerState). table_of_peer w o key) is) ∙ there)
  where
    by : (b : Bool) (o : Option Path) → path_at s.peer.add_path key.id (paths_to w.routes key.prefix) ≡ o → (if b then option_and_then (told_of w s key) o else None) ≡ Some a
        → (path : Path) × (path_at s.peer.add_path key.id (paths_to w.routes key.prefix) ≡ Some path)
    by true (Some path) is there = (path, is)
    by true None is there = absurd cc
    by false o is there = absurd cc

in_world : (w : World) (p : ℕ) (s : PeerState) (key : Key) (a : Attributes) → slice_get w.peers p ≡ Some s → private_table p w key ≡ Some a → among (keys_of s.peer.add_path w.routes) key ≡ true
in_world w p s key a is there =
    let found = path_of_route w p s key a is there in
    path_in_routes s.peer.add_path key.prefix key.id w.routes found.0 found.1

of_prefix : (w : World) (p : ℕ) (s : PeerState) (key : Key) (a : Attributes) (prefix : IpPrefix) → same_prefix key.prefix prefix ≡ true → slice_get w.peers p ≡ Some s → private_table p w key ≡ Some a
    → among (keys_to s.peer.add_path prefix (paths_to w.routes prefix)) key ≡ true
of_prefix w p s key a prefix same is there =
    let found = path_of_route w p s key a is there in
    path_among s.peer.add_path key.prefix prefix key.id (paths_to w.routes prefix) found.0 same
    (subst (λ (q : IpPrefix). path_at s.peer.add_path key.id (paths_to w.routes q) ≡ Some found.0) (prefix-is key.prefix prefix same) found.1)

-- ---- no route

none_is : (v : Option Attributes) → ((a : Attributes) → v ≡ Some a → ⊥) → v ≡ None
none_is None never = refl
none_is (Some a) never = absurd (never a refl)

not_both : (b : Bool) → b ≡ true → b ≡ false → ⊥
not_both true is isnt = absurd cc
not_both false is isnt = absurd cc

-- under none of all keys there is a route
none_in_world : (w : World) (p : ℕ) (s : PeerState) (key : Key) → slice_get w.peers p ≡ Some s → among (keys_of s.peer.add_path w.routes) key ≡ false → private_table p w key ≡ None
none_in_world w p s key is out = none_is (private_table p w key) (λ a there. not_both (among (keys_of s.peer.add_path w.routes) key) (in_world w p s key a is there) out)

none_of_prefix : (w : World) (p : ℕ) (s : PeerState) (key : Key) (prefix : IpPrefix) → same_prefix key.prefix prefix ≡ true → slice_get w.peers p ≡ Some s → among (keys_to s.peer.add_path prefix (paths_to w.routes prefix)) key ≡ false
    → private_table p w key ≡ None
none_of_prefix w p s key prefix same is out =
    none_is (private_table p w key) (λ a there. not_both (among (keys_to s.peer.add_path prefix (paths_to w.routes prefix)) key) (of_prefix w p s key a prefix same is there) out)

-- ---- an event

module _ (e : Happening) (w : World) (p : ℕ) (s s' : PeerState) (key : Key) (is : slice_get w.peers p ≡ Some s) (later : slice_get (after w e).peers p ≡ Some s') where
  by_all : among (keys_of s.peer.add_path w.routes) key ≡ false → among (keys_of s'.peer.add_path (after w e).routes) key ≡ false → private_table p w key ≡ private_table p (after w e) key
  by_all old new = none_in_world w p s key is old ∙ sym (none_in_world (after w e) p s' key later new)

  by_prefix : (prefix : IpPrefix) → (same_prefix key.prefix prefix ≡ false → private_table p (after w e) key ≡ private_table p w key)
      → among (keys_to s.peer.add_path prefix (paths_to w.routes prefix)) key ≡ false → among (keys_to s'.peer.add_path prefix (paths_to (after w e).routes prefix)) key ≡ false
      → private_table p w key ≡ private_table p (after w e) key
  by_prefix prefix stays old new = by (same_prefix key.prefix prefix) refl
    where
      by : (b : Bool) → same_prefix key.prefix prefix ≡ b → private_table p w key ≡ private_table p (after w e) key
      by true same = none_of_prefix w p s key prefix same is old ∙ sym (none_of_prefix (after w e) p s' key prefix same later new)
      by false other = sym (stays other)

  by_name : (name : List ℕ) → s'.peer.name ≡ s.peer.name → (same_bytes s.peer.name name ≡ false → private_table p (after w e) key ≡ private_table p w key)
      → among (keys_where name s.peer w) key ≡ false → among (keys_where name s'.peer (after w e)) key ≡ false → private_table p w key ≡ private_table p (after w e) key
  by_name name named stays old new = by (same_bytes s.peer.name name) refl
    where
      by : (b : Bool) → same_bytes s.peer.name name ≡ b → private_table p w key ≡ private_table p (after w e) key
      by true same =
          by_all (sym (ap (λ (t : Bool). among (if t then keys_of s.peer.add_path w.routes else []) key) same) ∙ old)
          (sym (ap (λ (t : Bool). among (if t then keys_of s'.peer.add_path (after w e).routes else []) key) (ap (λ (n : List ℕ). same_bytes n name) named ∙ same)) ∙ new)
      by false other = sym (stays other)

-- the name of a peer stays
named_after : (e : Happening) (s : PeerState) → (peer_after e s).peer.name ≡ s.peer.name
named_after e s = (next-of e s).named

stays-by : (e : Happening) (w : World) (p : ℕ) (s s' : PeerState) (key : Key) → slice_get w.peers p ≡ Some s → slice_get (after w e).peers p ≡ Some s' → s'.peer.name ≡ s.peer.name
    → among (keys_at e s.peer w) key ≡ false → among (keys_at e s'.peer (after w e)) key ≡ false → private_table p w key ≡ private_table p (after w e) key
stays-by (HasPaths prefix paths) w p s s' key is later named old new =
    by_prefix (HasPaths prefix paths) w p s s' key is later prefix (λ other. untouched w (HasPaths prefix paths) p s key is refl other) old new
stays-by (HasNone prefix) w p s s' key is later named old new = by_prefix (HasNone prefix) w p s s' key is later prefix (λ other. untouched w (HasNone prefix) p s key is refl other) old new
stays-by (HasEntries name entries) w p s s' key is later named old new = by_all (HasEntries name entries) w p s s' key is later old new
stays-by (ComesUp name) w p s s' key is later named old new = by_name (ComesUp name) w p s s' key is later name named (λ other. untouched w (ComesUp name) p s key is other refl) old new
stays-by (GoesDown name) w p s s' key is later named old new = by_name (GoesDown name) w p s s' key is later name named (λ other. untouched w (GoesDown name) p s key is other refl) old new
stays-by (HasPolicy name policy) w p s s' key is later named old new = by_name (HasPolicy name policy) w p s s' key is later name named (λ other. untouched w (HasPolicy name policy) p s key is other refl) old new
stays-by (AsksAgain name) w p s s' key is later named old new = by_name (AsksAgain name) w p s s' key is later name named (λ other. untouched w (AsksAgain name) p s key is other refl) old new
stays-by (SendsRequest name) w p s s' key is later named old new = by_name (SendsRequest name) w p s s' key is later name named (λ other. untouched w (SendsRequest name) p s key is other refl) old new
stays-by (SendsList name request) w p s s' key is later named old new = by_name (SendsList name request) w p s s' key is later name named (λ other. untouched w (SendsList name request) p s key is other refl) old new

-- under a key that is among neither what the peer should have stays
pub stays : (e : Happening) (w : World) (p : ℕ) (s s' : PeerState) (key : Key) → slice_get w.peers p ≡ Some s → slice_get (after w e).peers p ≡ Some s' → s' ≡ peer_after e s
    → among (keys_at e s.peer w ++ keys_at e s'.peer (after w e)) key ≡ false → private_table p w key ≡ private_table p (after w e) key
stays e w p s s' key is later next out =
    let parts = neither (among (keys_at e s.peer w) key) (among (keys_at e s'.peer (after w e)) key) (sym (list_any-append (same_key key) (keys_at e s.peer w) (keys_at e s'.peer (after w e))) ∙ out) in
    stays-by e w p s s' key is later (ap (λ (t : PeerState). t.peer.name) next ∙ named_after e s) parts.0 parts.1
