-- In the worlds that events lead through each route can be spelled, and is short.
use Rattle.std.proofs.Common.{◌≡◌, ℕ, ◌<◌, ◌≤◌, Bool, true, false, List, [], ◌∷◌, length, map, slice_get, Option, Some, None, refl, sym, ◌∙◌, ap, subst, arith}
use Rattle.std.specs.Prelude.{◌==◌, find, option_and_then, if◌then◌else◌}
use Rattle.std.specs.Option.{option_map}
use Rattle.std.proofs.lemmas.Bool.{eqb-true}
use Rattle.std.proofs.lemmas.Option.{slice_get-map}
use Rattle.ug_types.specs.Ip.{bytes_for}
use Rattle.ug_types.specs.Attributes.{Attributes}
use Rattle.ug_types.specs.Keys.{weight_of}
use Rattle.ug_types.specs.declared.capabilities.Capabilities.{Capabilities}
use Rattle.ug_types.specs.declared.family.Family.{Family}
use Rattle.ug_types.specs.declared.family.Family.TheVariants.{V4, V6}
use Rattle.ug_types.specs.declared.key.Key.{Key}
use Rattle.ug_types.specs.declared.route.Path.{Path}
use Rattle.ug_types.specs.declared.route.OutAttrs.{OutAttrs}
use Rattle.ug_board.specs.Deeds.{Each}
use Rattle.ug_message.specs.Spelling.{attributes, attributes_but_next_hop}
use Rattle.ug_message.specs.Spellable.{is_key}
use Rattle.ug_outbound.specs.declared.key.GroupKey.{GroupKey}
use Rattle.ug_outbound.specs.declared.peer.Peer.{Peer}
use Rattle.ug_outbound.specs.Keys.{limit_of}
use Rattle.ug_outbound.specs.Outbound.{out}
use Rattle.ug_outbound.proofs.Bounds.{out_bytes, out_bytes_but_next_hop}
use Rattle.ug_events.specs.Events.{Happening}
use Rattle.ug_world.specs.declared.peer_state.PeerState.{PeerState}
use Rattle.ug_world.specs.Parts.{fresh as fresh_peer}
use Rattle.ug_world.specs.World.{World, paths_to}
use Rattle.ug_world.specs.Private.{path_at, wanted, told_of, table_of_peer, private_table, keys_of as world_keys}
use Rattle.ug_adjout.specs.Tables.{has}
use Rattle.ug_pack.specs.Rooms.{room, room_beside}
use Rattle.ug_pack.specs.Ready.{key_order}
use Rattle.ug_speaker.specs.Told.{worlds_through}
use Rattle.ug_speaker.specs.Owes.{IsOpening, AreEvents}
use Rattle.ug_speaker.proofs.Bounded.{IsWithin, IsBounded, bounded_through, bounded_first, at_within, to_within}
use Rattle.ug_speaker.proofs.Worlds.{are-tellable}
use Rattle.ug_group_rules.specs.Packets.{wanted_rows}
use Rattle.ug_group_rules.proofs.Fitting.{key-short, limit-some}
use Rattle.ug_group_rules.proofs.Tables.{row_at, wanted-value}
use Rattle.ug_group_rules.proofs.Histories.{AreFine, AreDown}

-- ---- room beside attributes

wide_room : (family : Family) (limit : ℕ) → 4096 ≤ limit → 21 ≤ room family limit
wide_room V4 limit le = omega arith
wide_room V6 limit le = omega arith

beside_room : (family : Family) (limit : ℕ) (a : Attributes) → 4096 ≤ limit → length (attributes a) ≤ 2067 → length (attributes_but_next_hop a) ≤ 2060 → 21 ≤ room_beside family limit a
beside_room V4 limit a le all but = omega arith
beside_room V6 limit a le all but = omega arith

wanted_room : (w : World) (group : GroupKey) (q : Key) (o : OutAttrs) → IsBounded w → wanted group w q ≡ Some o → 21 ≤ room_beside group.family (limit_of group) o.attrs
unfolding wanted
wanted_room w group q o bounded is = by (path_at group.add_path q.id (paths_to w.routes q.prefix)) refl is
  where
    by : (found : Option Path) → path_at group.add_path q.id (paths_to w.routes q.prefix) ≡ found → option_and_then (out group w.tables w.local q.prefix) found ≡ Some o → 21 ≤ room_beside group.family (limit_of group) o.attrs
    by None at e = absurd cc
    by (Some path) at e =
        let within : IsWithin path = at_within group.add_path q.id (paths_to w.routes q.prefix) path (to_within w.routes q.prefix bounded.paths) at in
        beside_room group.family (limit_of group) o.attrs (limit-some group.extended) (out_bytes group w.tables w.local q.prefix path o e within.1 (bounded.few group.map))
        (out_bytes_but_next_hop group w.tables w.local q.prefix path o e within.1 (bounded.few group.map))

row_room : (w : World) (group : GroupKey) (q : Key) (o : OutAttrs) → IsBounded w → row_at (wanted_rows group w) q ≡ Some o → 21 ≤ room_beside group.family (limit_of group) o.attrs
row_room w group q o bounded is = by (has key_order (world_keys group.add_path w.routes) q) (sym (wanted-value group w q) ∙ is)
  where
    by : (b : Bool) → (if b then wanted group w q else None) ≡ Some o → 21 ≤ room_beside group.family (limit_of group) o.attrs
    by true e = wanted_room w group q o bounded e
    by false e = absurd cc

-- ---- with ADD-PATH a route has an identifier

found_numbered : (id : ℕ) (paths : List Path) (path : Path) → Each IsWithin paths → find (λ (path : Path). path.id == id) paths ≡ Some path → 0 < id
found_numbered id [] path h is = absurd cc
found_numbered id (x ∷ paths) path h is = by (x.id == id) refl is (λ rest. found_numbered id paths path h.1 rest)
  where
    by : (b : Bool) → (x.id == id) ≡ b → (if b then Some x else find (λ (path : Path). path.id == id) paths) ≡ Some path → (find (λ (path : Path). path.id == id) paths ≡ Some path → 0 < id) → 0 < id
    by true e is rest = subst (λ (n : ℕ). 0 < n) (eqb-true x.id id e) h.0.0
    by false e is rest = rest is

told_numbered : (w : World) (s : PeerState) (q : Key) (a : Attributes) → IsBounded w → s.peer.add_path ≡ true → table_of_peer w (Some s) q ≡ Some a → 0 < q.id
told_numbered w s q a bounded own is = by s.up (path_at true q.id (paths_to w.routes q.prefix)) refl (sym (ap (λ (b : Bool). if s.up then option_and_then (told_of w s q) (path_at b q.id (paths_to w.routes q.prefix)) else None) own) ∙ is)
  where
    by : (up : Bool) (found : Option Path) → path_at true q.id (paths_to w.routes q.prefix) ≡ found → (if up then option_and_then (told_of w s q) found else None) ≡ Some a → 0 < q.id
    by false found at e = absurd cc
    by true None at e = absurd cc
    by true (Some path) at e = found_numbered q.id (paths_to w.routes q.prefix) path (to_within w.routes q.prefix bounded.paths) at

private_numbered : (p : ℕ) (w : World) (s : PeerState) (q : Key) (a : Attributes) → IsBounded w → slice_get w.peers p ≡ Some s → s.peer.add_path ≡ true → private_table p w q ≡ Some a → q.id ≡ 0 → ⊥
unfolding private_table
private_numbered p w s q a bounded is own there none =
    let some : 0 < q.id = told_numbered w s q a bounded own (sym (ap (λ (o : Option PeerState). table_of_peer w o q) is) ∙ there) in
    absurd (omega arith)

-- ---- a key is light

id_small : (b : Bool) → (if b then 0 else 4) ≤ 4
id_small true = omega arith
id_small false = omega arith

bytes_small : (len : ℕ) → len ≤ 128 → bytes_for len ≤ 16
bytes_small len le = omega arith

key_light : (c : Capabilities) (key : Key) → is_key c key ≡ true → weight_of key ≤ 21
key_light c key e =
    let bytes = bytes_small key.prefix.len (key-short c key e) in
    let id = id_small (key.id == 0) in
    omega arith

-- ---- the worlds of a course

pub are-fine : (opening : World) (events : List Happening) → IsOpening opening → AreEvents events → AreFine (worlds_through opening events)
are-fine opening events opens are w among =
    let bounded = bounded_through opening w events are (bounded_first opening opens) among in
    record {
      spelled = λ p s q a is there. record {
        told = are-tellable opening events opens are w p s q a among is there;
        numbered = λ own none. private_numbered p w s q a bounded is own there none;
      };
      light = λ c q a sent. key_light c q sent.told.key_is;
      beside = λ group q o is. row_room w group q o bounded is;
      wide = λ group. wide_room group.family (limit_of group) (limit-some group.extended);
    }

first_peer : (peers : List Peer) (p : ℕ) (s : PeerState) → slice_get (map fresh_peer peers) p ≡ Some s → s.up ≡ false
first_peer peers p s is = by (slice_get peers p) (sym (slice_get-map fresh_peer peers p) ∙ is)
  where
    by : (o : Option Peer) → option_map fresh_peer o ≡ Some s → s.up ≡ false
    by (Some peer) is = let same : fresh_peer peer ≡ s = cc in ap (λ (s : PeerState). s.up) (sym same)
    by None is = absurd cc

pub are-down : (opening : World) → IsOpening opening → AreDown opening
are-down opening opens p s is = first_peer opens.parts.peers.items p s (subst (λ (w : World). slice_get w.peers p ≡ Some s) opens.first is)
