-- What a peer should have, by its own table and by its group key.
use Rattle.std.proofs.Common.{◌≡◌, ℕ, Bool, true, false, List, [], ◌∷◌, slice_get, Option, Some, None, refl, sym, ◌∙◌, ap, subst}
use Rattle.std.specs.Prelude.{◌==◌, ◌&&◌, ◌||◌, option_and_then, if◌then◌else◌}
use Rattle.std.specs.Option.{option_map}
use Rattle.std.specs.BTreeMap.{is_at}
use Rattle.std.proofs.lemmas.Bool.{eq-eqb}
use Rattle.ug_types.specs.declared.key.Key.{Key}
use Rattle.ug_types.specs.declared.route.Path.{Path}
use Rattle.ug_types.specs.declared.route.PeerEnds.{PeerEnds}
use Rattle.ug_types.specs.declared.family.Family.{Family}
use Rattle.ug_types.specs.declared.family.Family.TheVariants.{V4, V6}
use Rattle.ug_types.specs.Ip.{same_family}
use Rattle.ug_types.specs.Keys.{same_prefix, same_key}
use Rattle.ug_message.specs.Tables.{Table, among}
use Rattle.ug_outbound.specs.declared.key.GroupKey.{GroupKey}
use Rattle.ug_outbound.specs.Keys.{ends_of}
use Rattle.ug_outbound.specs.Outbound.{out}
use Rattle.ug_message.specs.NextHops.{told_to}
use Rattle.ug_world.specs.declared.peer_state.PeerState.{PeerState}
use Rattle.ug_world.specs.World.{World, key_in, paths_to}
use Rattle.ug_world.specs.Private.{path_at, told_of, table_of_peer, private_table, wanted, keys_of as world_keys}
use Rattle.ug_adjout.specs.Tables.{has}
use Rattle.ug_adjout.specs.TableLaws.{at_itself, one_key}
use Rattle.ug_pack.specs.Ready.{key_order}
use Rattle.ug_pack.proofs.Keys.{key_total, key_exact}
use Rattle.ug_speaker.proofs.Bools.{both}
use Rattle.ug_speaker.proofs.SameKeys.{same-is}
use Rattle.ug_speaker.proofs.PathKeys.{path_in_routes}
use Rattle.ug_group_rules.specs.Packets.{Rows, wanted_rows}
use Rattle.ug_group_rules.proofs.Tables.{row_at, wanted-value}

-- rows, as the peer at these ends is told them
abbrev pub table_in : PeerEnds → Rows → Table
table_in ends rows key = option_map (told_to ends) (row_at rows key)

-- ---- keys that are the same

family_itself : (f : Family) → same_family f f ≡ true
family_itself V4 = refl
family_itself V6 = refl

same_is_true : (key : Key) → same_key key key ≡ true
same_is_true key =
    both (same_prefix key.prefix key.prefix) (key.id == key.id)
    (both (same_family key.prefix.family key.prefix.family) ((key.prefix.bits == key.prefix.bits) && (key.prefix.len == key.prefix.len)) (family_itself key.prefix.family)
    (both (key.prefix.bits == key.prefix.bits) (key.prefix.len == key.prefix.len) (eq-eqb key.prefix.bits key.prefix.bits refl) (eq-eqb key.prefix.len key.prefix.len refl)))
    (eq-eqb key.id key.id refl)

bools : (a b : Bool) → (a ≡ true → b ≡ true) → (b ≡ true → a ≡ true) → a ≡ b
bools true true h k = refl
bools true false h k = sym (h refl)
bools false true h k = k refl
bools false false h k = refl

pub same-at : (q key : Key) → is_at (key_order q) key ≡ same_key q key
same-at q key =
    bools (is_at (key_order q) key) (same_key q key)
    (λ at. subst (λ (k : Key). same_key q k ≡ true) (one_key key_total key_exact q key at) (same_is_true q))
    (λ same. subst (λ (k : Key). is_at (key_order q) k ≡ true) (same-is q key same) (at_itself key_total key_exact q))

pub has-among : (keys : List Key) (q : Key) → has key_order keys q ≡ among keys q
has-among [] q = refl
has-among (key ∷ keys) q = ap (λ (b : Bool). b || has key_order keys q) (same-at q key) ∙ ap (λ (b : Bool). same_key q key || b) (has-among keys q)

-- ---- what a group key wants

-- without a path nothing is wanted
pub without-path : (group : GroupKey) (w : World) (q : Key) → path_at group.add_path q.id (paths_to w.routes q.prefix) ≡ None → wanted group w q ≡ None
unfolding wanted
without-path group w q none = ap (λ (o : Option Path). option_and_then (out group w.tables w.local q.prefix) o) none

pub none-among : (group : GroupKey) (w : World) (q : Key) → has key_order (world_keys group.add_path w.routes) q ≡ false → wanted group w q ≡ None
none-among group w q absent = by (path_at group.add_path q.id (paths_to w.routes q.prefix)) refl
  where
    by : (o : Option Path) → path_at group.add_path q.id (paths_to w.routes q.prefix) ≡ o → wanted group w q ≡ None
    by None e = without-path group w q e
    by (Some path) e =
        let there = path_in_routes group.add_path q.prefix q.id w.routes path e in
        let same = has-among (world_keys group.add_path w.routes) q in absurd (let z = sym absent ∙ same ∙ there in cc)

-- the rows of a group key are what it wants
pub rows-value : (group : GroupKey) (w : World) (q : Key) → row_at (wanted_rows group w) q ≡ wanted group w q
rows-value group w q = wanted-value group w q ∙ by (has key_order (world_keys group.add_path w.routes) q) refl
  where
    by : (b : Bool) → has key_order (world_keys group.add_path w.routes) q ≡ b → (if b then wanted group w q else None) ≡ wanted group w q
    by true e = refl
    by false e = sym (none-among group w q e)

-- ---- a private table

told_by_group : (w : World) (s : PeerState) (key : Key) (o : Option Path) → option_and_then (told_of w s key) o ≡ option_map (told_to (ends_of s.peer)) (option_and_then (out (key_in w s) w.tables w.local key.prefix) o)
told_by_group w s key None = refl
told_by_group w s key (Some path) = refl

module _ (w : World) (p : ℕ) (s : PeerState) (is : slice_get w.peers p ≡ Some s) (up : s.up ≡ true) where
  pub private-wanted : (key : Key) → private_table p w key ≡ option_map (told_to (ends_of s.peer)) (wanted (key_in w s) w key)
  unfolding private_table wanted
  private-wanted key =
      ap (λ (o : Option PeerState). table_of_peer w o key) is
      ∙ ap (λ (b : Bool). if b then option_and_then (told_of w s key) (path_at s.peer.add_path key.id (paths_to w.routes key.prefix)) else None) up
      ∙ told_by_group w s key (path_at s.peer.add_path key.id (paths_to w.routes key.prefix))

  -- the private table is what its group key wants, with its own next hops
  pub private-rows : (key : Key) → private_table p w key ≡ table_in (ends_of s.peer) (wanted_rows (key_in w s) w) key
  private-rows key = private-wanted key ∙ ap (option_map (told_to (ends_of s.peer))) (sym (rows-value (key_in w s) w key))
