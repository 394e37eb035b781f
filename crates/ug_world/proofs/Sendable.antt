-- What the outbound rules give of a good world's routes can be sent to every peer of its key.
use Rattle.std.proofs.Common.{◌≡◌, ℕ, ◌≤◌, zero, suc, Bool, true, false, List, [], ◌∷◌, length, slice_get, Option, Some, None, refl, sym, ◌∙◌, subst, arith}
use Rattle.std.specs.Prelude.{◌==◌, ◌&&◌, ◌||◌, option_and_then, if◌then◌else◌}
use Rattle.std.specs.List.{list_all}
use Rattle.std.specs.Option.{option_map}
use Rattle.ug_types.specs.declared.family.Family.{Family}
use Rattle.ug_types.specs.declared.family.Family.TheVariants.{V4}
use Rattle.ug_types.specs.declared.attrs.Aggregator.{Aggregator}
use Rattle.ug_types.specs.declared.key.Key.{Key}
use Rattle.ug_types.specs.declared.route.Path.{Path}
use Rattle.ug_types.specs.declared.route.OutAttrs.{OutAttrs}
use Rattle.ug_types.specs.Ip.{IpAddress, IpPrefix, same_family, cleared, width_of}
use Rattle.ug_types.specs.Attributes.{Attributes, is_well_formed}
use Rattle.ug_message.specs.Spelling.{attributes}
use Rattle.ug_message.specs.Spellable.{is_number, is_prefix, is_route, is_address, is_aggregator, has_numbers, where_there, is_ipv4, has_ipv4_addresses, can_be_spelled}
use Rattle.ug_message.proofs.Formed.{both, and, family_is}
use Rattle.ug_message.proofs.AttributeParts.{length_attributes, length_next_hop}
use Rattle.ug_message.specs.NextHops.{told_to}
use Rattle.ug_outbound.specs.Tables.{Tables}
use Rattle.ug_outbound.specs.Keys.{ends_of}
use Rattle.ug_outbound.specs.declared.settings.Local.{Local}
use Rattle.ug_outbound.specs.declared.key.GroupKey.{GroupKey}
use Rattle.ug_outbound.specs.Outbound.{is_let_out, out}
use Rattle.ug_outbound.proofs.Bounds.{out_bytes}
use Rattle.ug_world.specs.declared.peer_state.PeerState.{PeerState}
use Rattle.ug_world.specs.World.{World, paths_to, key_in}
use Rattle.ug_world.specs.Private.{path_at, wanted, private_table}
use Rattle.ug_world.specs.Good.{IsGoodWorld}
use Rattle.ug_world.specs.Sendable.{IsSendable}
use Rattle.ug_world.proofs.GoodRoutes.{IsFound, found-good}
use Rattle.ug_world.proofs.GoodWorlds.{in_range}
use Rattle.ug_world.proofs.Keeping.{shared, down}
use Rattle.ug_world.proofs.Spelled.{told-spelled, out-spelled}

-- ---- what can be spelled has IPv4 addresses, and a next hop of its family

of_family : (family : Family) (a : IpAddress) → is_address family a ≡ true → same_family a.family family ≡ true
of_family family a h =
    let whole = both (same_family a.family family && (cleared (width_of family) a.bits == a.bits)) _ h in
    (both (same_family a.family family) (cleared (width_of family) a.bits == a.bits) whole.0).0

aggregator_is : (o : Option Aggregator) → where_there is_aggregator o ≡ true → where_there (λ (g : Aggregator). is_ipv4 g.addr) o ≡ true
aggregator_is None h = refl
aggregator_is (Some g) h = of_family V4 g.addr (both (is_number g.asn) (is_address V4 g.addr) h).1

originator_is : (o : Option IpAddress) → where_there (is_address V4) o ≡ true → where_there is_ipv4 o ≡ true
originator_is None h = refl
originator_is (Some a) h = of_family V4 a h

spelled_addresses : (family : Family) (a : Attributes) → can_be_spelled family a ≡ true → (a.next_hop.family ≡ family) × (has_ipv4_addresses a ≡ true)
unfolding can_be_spelled has_ipv4_addresses
spelled_addresses family a e =
    let c1 = is_well_formed a in
    let c2 = c1 && list_all has_numbers a.path in
    let c3 = c2 && is_address family a.next_hop in
    let c4 = c3 && where_there is_number a.med in
    let c5 = c4 && where_there is_number a.local_pref in
    let c6 = c5 && where_there is_aggregator a.aggregator in
    let c7 = c6 && list_all is_number a.communities in
    let c8 = c7 && where_there (is_address V4) a.originator in
    let p9 = both c8 (list_all is_number a.clusters) e in
    let p8 = both c7 (where_there (is_address V4) a.originator) p9.0 in
    let p7 = both c6 (list_all is_number a.communities) p8.0 in
    let p6 = both c5 (where_there is_aggregator a.aggregator) p7.0 in
    let p5 = both c4 (where_there is_number a.local_pref) p6.0 in
    let p4 = both c3 (where_there is_number a.med) p5.0 in
    let p3 = both c2 (is_address family a.next_hop) p4.0 in (
      family_is a.next_hop.family family (of_family family a.next_hop p3.1),
      and (where_there (λ (g : Aggregator). is_ipv4 g.addr) a.aggregator) (where_there is_ipv4 a.originator) (aggregator_is a.aggregator p6.1) (originator_is a.originator p8.1),
    )

sendable_of : (family : Family) (a : Attributes) → can_be_spelled family a ≡ true → length (attributes a) ≤ 2067 → IsSendable family a
sendable_of family a spelled short =
    let addresses = spelled_addresses family a spelled in
    record { spelled = spelled; next_hop = addresses.0; addresses = addresses.1; short = short }

-- ---- what the peers of a key should have

only_where : (b : Bool) (x : Option OutAttrs) (o : OutAttrs) → (if b then x else None) ≡ Some o → b ≡ true
only_where true x o e = refl
only_where false x o e = absurd cc

-- what goes out is of the key's family
out_family : (group : GroupKey) (tables : Tables) (local : Local) (p : IpPrefix) (path : Path) (o : OutAttrs) → out group tables local p path ≡ Some o → group.family ≡ p.family
unfolding out
out_family group tables local p path o e = family_is group.family p.family (both (same_family group.family p.family) _ (only_where (is_let_out group tables p path) _ o e)).0

module _ (w : World) (group : GroupKey) (key : Key) (o : OutAttrs) (good : IsGoodWorld w) where
  -- it can be sent, and its key is one of a session of the group key's peers
  abbrev IsRight : Type 0
  IsRight = IsSendable group.family o.attrs × (is_route group.family group.add_path key ≡ true)

  key_is : is_prefix key.prefix.family key.prefix ≡ true → (path : Path) → IsFound group.add_path key.prefix.family key.id path → group.family ≡ key.prefix.family → is_route group.family group.add_path key ≡ true
  unfolding is_route
  key_is prefix path found family =
      let first : is_prefix group.family key.prefix ≡ true = subst (λ (f : Family). is_prefix f key.prefix ≡ true) (sym family) prefix in
      and (is_prefix group.family key.prefix && is_number key.id) (group.add_path || (key.id == 0)) (and (is_prefix group.family key.prefix) (is_number key.id) first found.number) found.plain

  by_path : (found : Option Path) → path_at group.add_path key.id (paths_to w.routes key.prefix) ≡ found → option_and_then (out group w.tables w.local key.prefix) found ≡ Some o → IsRight
  by_path None at e = absurd cc
  by_path (Some path) at e =
      let found = found-good group.add_path key.prefix key.id w.routes path good.routes at in
      let family = out_family group w.tables w.local key.prefix path o e in
      let given : can_be_spelled group.family path.attrs ≡ true = subst (λ (f : Family). can_be_spelled f path.attrs ≡ true) (sym family) found.1.good.spelled in
      let spelled = out-spelled group w.tables w.local key.prefix path o e given good.in_range.asn good.in_range.cluster good.in_range.maps found.1.good.learned_is in
      (sendable_of group.family o.attrs spelled (out_bytes group w.tables w.local key.prefix path o e found.1.good.within (good.few_sets group.map)), key_is found.0 path found.1 family)

  right : wanted group w key ≡ Some o → IsRight
  unfolding wanted
  right e = by_path (path_at group.add_path key.id (paths_to w.routes key.prefix)) refl e

pub wanted-sendable : (w : World) (group : GroupKey) (key : Key) (o : OutAttrs) → IsGoodWorld w → wanted group w key ≡ Some o → IsSendable group.family o.attrs
wanted-sendable w group key o good e = (right w group key o good e).0

pub wanted-key : (w : World) (group : GroupKey) (key : Key) (o : OutAttrs) → IsGoodWorld w → wanted group w key ≡ Some o → is_route group.family group.add_path key ≡ true
wanted-key w group key o good e = (right w group key o good e).1

-- ---- what a peer should have

peer_in_range : (peers : List PeerState) (p : ℕ) (s : PeerState) → list_all in_range peers ≡ true → slice_get peers p ≡ Some s → in_range s ≡ true
peer_in_range [] p s h e = absurd cc
peer_in_range (x ∷ peers) zero s h e = let same : x ≡ s = cc in subst (λ (t : PeerState). in_range t ≡ true) same (both (in_range x) (list_all in_range peers) h).0
peer_in_range (x ∷ peers) (suc p) s h e = peer_in_range peers p s (both (in_range x) (list_all in_range peers) h).1 e

-- the next hop takes the same bytes, whatever it is
same_length : (ends : _) (o : OutAttrs) → length (attributes (told_to ends o)) ≡ length (attributes o.attrs)
same_length ends o =
    let parts = length_attributes (told_to ends o) in
    let others = length_attributes o.attrs in
    let hop = length_next_hop (told_to ends o) in
    let hop' = length_next_hop o.attrs in
    omega arith

module _ (w : World) (p : ℕ) (s : PeerState) (key : Key) (a : Attributes) (good : IsGoodWorld w) (is : slice_get w.peers p ≡ Some s) where
  abbrev IsToldRight : Type 0
  IsToldRight = IsSendable s.peer.family a × (is_route s.peer.family s.peer.add_path key ≡ true)

  by_wanted : (o : Option OutAttrs) → wanted (key_in w s) w key ≡ o → option_map (told_to (ends_of s.peer)) o ≡ Some a → IsToldRight
  by_wanted None is' e = absurd cc
  by_wanted (Some o) is' e =
      let same : told_to (ends_of s.peer) o ≡ a = cc in
      let sent = wanted-sendable w (key_in w s) key o good is' in
      let own = (both (is_address V4 s.peer.router_id) (is_address s.peer.family s.peer.local_address) (peer_in_range w.peers p s good.in_range.peers is)).1 in
      let alike = same_length (ends_of s.peer) o in
      let limit = sent.short in
      let short : length (attributes (told_to (ends_of s.peer) o)) ≤ 2067 = omega arith in (
        subst (IsSendable s.peer.family) same (sendable_of s.peer.family (told_to (ends_of s.peer) o) (told-spelled s.peer.family (ends_of s.peer) o sent.spelled own) short),
        wanted-key w (key_in w s) key o good is',
      )

  by_up : (b : Bool) → s.up ≡ b → private_table p w key ≡ Some a → IsToldRight
  by_up true up e = by_wanted (wanted (key_in w s) w key) refl (sym (shared w p s key is up) ∙ e)
  by_up false up e = let none = down w p s key is up in absurd cc

pub told-sendable : (w : World) (p : ℕ) (s : PeerState) (key : Key) (a : Attributes) → IsGoodWorld w → slice_get w.peers p ≡ Some s → private_table p w key ≡ Some a → IsSendable s.peer.family a
told-sendable w p s key a good is e = (by_up w p s key a good is s.up refl e).0

pub told-key : (w : World) (p : ℕ) (s : PeerState) (key : Key) (a : Attributes) → IsGoodWorld w → slice_get w.peers p ≡ Some s → private_table p w key ≡ Some a → is_route s.peer.family s.peer.add_path key ≡ true
told-key w p s key a good is e = (by_up w p s key a good is s.up refl e).1
